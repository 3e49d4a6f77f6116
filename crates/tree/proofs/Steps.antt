-- The steps of a skip in any encoding: what a struct, a list or a map has passed, how it passes one more value, and how it ends or is cut off.
-- Assumes nothing.
use Prim.Native.Nat.{ℕ, ◌+◌, ◌-◌, ◌≤◌, ◌<◌, zero-le}
use mathlib.Core.Path.{◌≡◌, refl, sym, ap, subst, ◌∙◌}
use mathlib.Core.List.{List}
use lib.ListN.{length}
use native.Mathlib.Omega.{arith}
use borrow.Author.Tests.{ne_eqb, eq-eqb}
use Rattle.wire.specs.Answer.{Answer, gives, refused, refuse_if}
use Rattle.config.specs.declared.configuration.TConfiguration.{TConfiguration}
use Rattle.nesting.specs.Structs.{struct_begin_at, struct_end_at}
use Rattle.nesting.proofs.Structs.{ended}
use Rattle.number.proofs.Widths.{Octets}
use Rattle.tree.specs.Part.{Part}
use Rattle.tree.proofs.Parts.{part_none, part_join, part_length}
use Rattle.tree.proofs.Heads.{clash, struct_is}
use Rattle.tree.specs.Coding.{View, leaf, fields, items, pairs as pairs-view, Items, Paired, stop, going, Coding}
use Rattle.tree.specs.Tree.{Fields, Trees, Pairs, leaf as leaf-of, struct, list as list_of, map as map_of, nil, snoc, none, then, empty, with, layout, fields_layout, trees_layout, pairs_layout, values_of, fields_values, trees_values, pairs_values, count_of, pairs_of, state_of, Fits, FieldsFit, TreesFit, PairsFit}
use Rattle.tree.specs.Answers.{view_own, own_at, here, head, field_value, element, key, value, begun_of, Outcome, cut_off, leaf_outcome, OpenStruct, OpenMap, Faults, Stands, IsCut, Answers}
use Rattle.tree.proofs.Laws as laws
use Rattle.tree.proofs.Bounds.{fields_le, trees_le, pairs_le}

-- what the loops keep, up to a place cur with so many values counted
module _ (C : Coding) (c : TConfiguration) (s : List ℕ) (at d sd : ℕ) where
  -- over a struct's fields
  pub record StructLoop (st : C.State) (cur count : ℕ) : Type 0 where
    pub fs : Fields C.Kind C.State
    pub state : state_of C.start fs ≡ st
    pub part : Part s at cur (fields_layout fs)
    pub fits : FieldsFit C fs c (d - 1) (sd + 1)
    pub counted : count ≡ 1 + fields_values fs
    pub deep : 0 < d
    pub begun : gives (sd + 1) at ≡ struct_begin_at c.max_recursion_depth sd s at

  -- over a list's or a set's elements, i of them passed
  pub record ListLoop (x : Items C.Kind) (first cur count i : ℕ) : Type 0 where
    pub ts : Trees C.Kind C.State
    pub part : Part s first cur (trees_layout ts)
    pub fits : TreesFit C ts c (d - 1) sd x.element
    pub counted : count ≡ 1 + trees_values ts
    pub passed : i ≡ count_of ts
    pub deep : 0 < d
    pub header : gives x first ≡ C.list_at c s at
    pub upto : i ≤ x.size

  -- over a map's pairs
  pub record MapLoop (x : Paired C.Kind) (first cur count i : ℕ) : Type 0 where
    pub ps : Pairs C.Kind C.State
    pub part : Part s first cur (pairs_layout ps)
    pub fits : PairsFit C ps c (d - 1) sd x.key x.value
    pub counted : count ≡ 1 + pairs_values ps
    pub passed : i ≡ pairs_of ps
    pub deep : 0 < d
    pub header : gives x first ≡ C.map_at c s at
    pub upto : i ≤ x.size

module _ (C : Coding) (L : laws.Reads C) (c : TConfiguration) (s : List ℕ) (at d sd : ℕ) where
  pub refused_here : (k : C.Kind) (n p : ℕ) → refused n p ≡ own_at C c d sd k s at → IsCut C c s at d sd k n p 1
  unfolding Faults begun_of
  refused_here k n p h = record { cut = here; fault = h; counted = refl }

  pub too_deep : (k : C.Kind) → d ≡ 0 → IsCut C c s at d sd k 10 at 1
  unfolding own_at refuse_if
  too_deep k z = refused_here k 10 at (rw (eq-eqb d 0 z))

  pub deep_answers : (k : C.Kind) {x : Outcome} → d ≡ 0 → x ≡ cut_off 10 at 1 → Answers C c s at d sd k x
  deep_answers k z e = subst (Answers C c s at d sd k) (sym e) (too_deep k z)

  -- with depth left, a value's own refusal is its view's
  pub own_refused : (k : C.Kind) (v : View) (n p : ℕ) → (d ≡ 0 → ⊥) → C.view k ≡ v → refused n p ≡ view_own C c sd k s at v → IsCut C c s at d sd k n p 1
  unfolding own_at refuse_if
  own_refused k v n p h e f = refused_here k n p (rw (ne_eqb d 0 h, e) f)

  pub leaf_stands : (k : C.Kind) {e : ℕ} → (d ≡ 0 → ⊥) → Octets s → C.view k ≡ leaf → gives tt e ≡ C.leaf_at c k s at → Stands C c s at d sd k e 1
  unfolding layout values_of Fits
  leaf_stands k {e} hd o v f =
      let i = L.leaf_is c k s at o v f in
      record { tree = leaf-of i.bytes; part = i.part; fits = record { deep = omega arith; view = v; bytes = i.holds }; counted = refl }

  -- a value with no value in it answers what its read says
  pub leaf_answers : Octets s → (k : C.Kind) → (d ≡ 0 → ⊥) → C.view k ≡ leaf → (m : Answer Unit) → C.leaf_at c k s at ≡ m → Answers C c s at d sd k (leaf_outcome m)
  leaf_answers o k hd v (gives u q) f = leaf_stands k hd o v (sym f)
  leaf_answers o k hd v (refused n p) f = own_refused k leaf n p hd v (sym f)

  -- ---- a struct

  pub struct_start : {inner p : ℕ} → 0 < d → gives inner p ≡ struct_begin_at c.max_recursion_depth sd s at → StructLoop C c s at d sd C.start at 1
  unfolding layout values_of Fits state_of
  struct_start {inner} {p} hd h =
      let i = struct_is c sd s at h in
      record {
        fs = nil;
        state = refl;
        part = part_none s at i.room;
        fits = tt;
        counted = refl;
        deep = hd;
        begun = ap (λ (j : ℕ). gives j at) (sym i.deeper) ∙ ap (gives inner) (sym i.place) ∙ h;
      }

  pub struct_more : {st st' : C.State} (cur count : ℕ) {t : C.Kind} {p e n : ℕ} → StructLoop C c s at d sd st cur count → gives (going t st') p ≡ C.field_at st s cur
      → Stands C c s p (d - 1) (sd + 1) t e n → StructLoop C c s at d sd st' e (count + n)
  unfolding layout values_of Fits state_of
  struct_more {st} {st'} cur count {t} w f v =
      let i = L.field_is st s cur f in
      record {
        fs = snoc w.fs i.bytes t st' v.tree;
        state = refl;
        part = part_join w.part (part_join i.part v.part);
        fits = record { fields = w.fits; header = subst (λ (u : C.State). C.Head u i.bytes (going t st')) (sym w.state) i.holds; value = v.fits };
        counted = omega (arith, w.counted, v.counted);
        deep = w.deep;
        begun = w.begun;
      }

  pub struct_stands : (k : C.Kind) → C.view k ≡ fields → {st : C.State} (cur count : ℕ) {e : ℕ} → StructLoop C c s at d sd st cur count → gives stop e ≡ C.field_at st s cur
      → Stands C c s at d sd k e count
  unfolding layout values_of Fits
  struct_stands k v {st} cur count w f =
      let i = struct_is c sd s at w.begun in
      let z = L.field_is st s cur f in
      record {
        tree = struct w.fs z.bytes;
        part = part_join w.part z.part;
        fits =
            record {
              deep = w.deep;
              view = v;
              limit = i.limit;
              cap = i.cap;
              fields = w.fits;
              end = subst (λ (u : C.State). C.Head u z.bytes stop) (sym w.state) z.holds;
            };
        counted = w.counted;
      }

  -- "and the struct end": after the fields it is never refused, and the place stays
  module _ {st : C.State} {cur count e : ℕ} (w : StructLoop C c s at d sd st cur count) (f : gives stop e ≡ C.field_at st s cur) {inner : ℕ} (deeper : inner ≡ sd + 1) where
    ends : gives (inner - 1) e ≡ struct_end_at inner s e
    ends = ended inner s e (L.field_is st s cur f).part.within (omega (arith, (struct_is c sd s at w.begun).cap)) (λ z. omega arith)

    pub struct_closes : (k : C.Kind) → C.view k ≡ fields → {v q : ℕ} → gives v q ≡ struct_end_at inner s e → Stands C c s at d sd k q count
    struct_closes k h {v} {q} g = let same : e ≡ q = cc (ends ∙ sym g) in rw same at (struct_stands k h cur count w f)

    pub struct_stays_open : {A : Type 0} {n p : ℕ} → refused n p ≡ struct_end_at inner s e → A
    struct_stays_open g = clash (cc (ends ∙ sym g))

  open_struct : (k : C.Kind) → C.view k ≡ fields → {st : C.State} {cur count : ℕ} {rest : C.State → ℕ → Type 0} (w : StructLoop C c s at d sd st cur count) → rest st cur → OpenStruct C c s at d sd k w.fs rest
  open_struct k v {st} {cur} {count} {rest} w x =
      record {
        deep = w.deep;
        view = v;
        begun = w.begun;
        mid = cur;
        part = w.part;
        fits = w.fits;
        next = subst (λ (u : C.State). rest u cur) (sym w.state) x;
      }

  pub struct_head_cut : (k : C.Kind) → C.view k ≡ fields → {st : C.State} (cur count n p : ℕ) → StructLoop C c s at d sd st cur count → refused n p ≡ C.field_at st s cur → IsCut C c s at d sd k n p count
  unfolding Faults begun_of
  struct_head_cut k v cur count n p w f = record { cut = head w.fs; fault = open_struct k v w f; counted = w.counted }

  pub struct_value_cut : (k : C.Kind) → C.view k ≡ fields → {st st' : C.State} (cur count : ℕ) {t : C.Kind} {q n p m : ℕ} → StructLoop C c s at d sd st cur count
      → gives (going t st') q ≡ C.field_at st s cur → IsCut C c s q (d - 1) (sd + 1) t n p m → IsCut C c s at d sd k n p (count + m)
  unfolding Faults begun_of
  struct_value_cut k v {st} {st'} cur count {t} {q} w f x =
      record {
        cut = field_value w.fs x.cut;
        fault = open_struct k v w (record { kind = t; after = st'; first = q; header = f; next = x.fault });
        counted = omega (arith, w.counted, x.counted);
      }

  -- ---- a list or a set

  pub list_start : Octets s → {x : Items C.Kind} {first : ℕ} → 0 < d → gives x first ≡ C.list_at c s at → ListLoop C c s at d sd x first first 1 0
  unfolding layout values_of Fits count_of
  list_start o {x} {first} hd f =
      record {
        ts = none;
        part = part_none s first (L.list_is c s at o f).part.within;
        fits = tt;
        counted = refl;
        passed = refl;
        deep = hd;
        header = f;
        upto = zero-le;
      }

  pub list_more : {x : Items C.Kind} {first cur count i e m : ℕ} → ListLoop C c s at d sd x first cur count i → i < x.size
      → Stands C c s cur (d - 1) sd x.element e m → ListLoop C c s at d sd x first e (count + m) (i + 1)
  unfolding layout values_of Fits count_of
  list_more w h v =
      record {
        ts = then w.ts v.tree;
        part = part_join w.part v.part;
        fits = (w.fits, v.fits);
        counted = omega (arith, w.counted, v.counted);
        passed = ap (λ (j : ℕ). j + 1) w.passed;
        deep = w.deep;
        header = w.header;
        upto = omega arith;
      }

  pub list_stands : (k : C.Kind) → C.view k ≡ items → Octets s → {x : Items C.Kind} {first cur count i : ℕ} → ListLoop C c s at d sd x first cur count i → x.size ≤ i
      → Stands C c s at d sd k cur count
  unfolding layout values_of Fits
  list_stands k v o {x} w q =
      let h = L.list_is c s at o w.header in
      record {
        tree = list_of h.bytes x w.ts;
        part = part_join h.part w.part;
        fits = record { deep = w.deep; view = v; header = h.holds; size = omega (arith, w.passed, w.upto); elements = w.fits };
        counted = w.counted;
      }

  pub list_cut : (k : C.Kind) → C.view k ≡ items → {x : Items C.Kind} {first cur count i n p m : ℕ} → ListLoop C c s at d sd x first cur count i → i < x.size
      → IsCut C c s cur (d - 1) sd x.element n p m → IsCut C c s at d sd k n p (count + m)
  unfolding Faults begun_of
  list_cut k v {x} {first} {cur} w q y =
      record {
        cut = element w.ts y.cut;
        fault =
            record {
              deep = w.deep;
              view = v;
              says = x;
              first = first;
              header = w.header;
              more = omega (arith, w.passed);
              mid = cur;
              part = w.part;
              fits = w.fits;
              next = y.fault;
            };
        counted = omega (arith, w.counted, y.counted);
      }

  -- ---- a map

  pub map_start : Octets s → {x : Paired C.Kind} {first : ℕ} → 0 < d → gives x first ≡ C.map_at c s at → MapLoop C c s at d sd x first first 1 0
  unfolding layout values_of Fits pairs_of
  map_start o {x} {first} hd f =
      record {
        ps = empty;
        part = part_none s first (L.map_is c s at o f).part.within;
        fits = tt;
        counted = refl;
        passed = refl;
        deep = hd;
        header = f;
        upto = zero-le;
      }

  pub map_more : {x : Paired C.Kind} {first cur count i e m e' m' : ℕ} → MapLoop C c s at d sd x first cur count i → i < x.size
      → Stands C c s cur (d - 1) sd x.key e m → Stands C c s e (d - 1) sd x.value e' m' → MapLoop C c s at d sd x first e' (count + m + m') (i + 1)
  unfolding layout values_of Fits pairs_of
  map_more w h v z =
      record {
        ps = with w.ps v.tree z.tree;
        part = part_join w.part (part_join v.part z.part);
        fits = (w.fits, v.fits, z.fits);
        counted = omega (arith, w.counted, v.counted, z.counted);
        passed = ap (λ (j : ℕ). j + 1) w.passed;
        deep = w.deep;
        header = w.header;
        upto = omega arith;
      }

  pub map_stands : (k : C.Kind) → C.view k ≡ pairs-view → Octets s → {x : Paired C.Kind} {first cur count i : ℕ} → MapLoop C c s at d sd x first cur count i → x.size ≤ i → Stands C c s at d sd k cur count
  unfolding layout values_of Fits
  map_stands k v o {x} w q =
      let h = L.map_is c s at o w.header in
      record {
        tree = map_of h.bytes x w.ps;
        part = part_join h.part w.part;
        fits = record { deep = w.deep; view = v; header = h.holds; size = omega (arith, w.passed, w.upto); pairs = w.fits };
        counted = w.counted;
      }

  open_map : (k : C.Kind) → C.view k ≡ pairs-view → {x : Paired C.Kind} {first cur count i : ℕ} {rest : C.Kind → C.Kind → ℕ → Type 0} (w : MapLoop C c s at d sd x first cur count i) → i < x.size
      → rest x.key x.value cur → OpenMap C c s at d sd k w.ps rest
  open_map k v {x} {first} {cur} w q y =
      record {
        deep = w.deep;
        view = v;
        says = x;
        first = first;
        header = w.header;
        more = omega (arith, w.passed);
        mid = cur;
        part = w.part;
        fits = w.fits;
        next = y;
      }

  pub map_key_cut : (k : C.Kind) → C.view k ≡ pairs-view → {x : Paired C.Kind} {first cur count i n p m : ℕ} → MapLoop C c s at d sd x first cur count i → i < x.size
      → IsCut C c s cur (d - 1) sd x.key n p m → IsCut C c s at d sd k n p (count + m)
  unfolding Faults begun_of
  map_key_cut k v w q y = record { cut = key w.ps y.cut; fault = open_map k v w q y.fault; counted = omega (arith, w.counted, y.counted) }

  pub map_value_cut : (k : C.Kind) → C.view k ≡ pairs-view → {x : Paired C.Kind} {first cur count i e m n p m' : ℕ} → MapLoop C c s at d sd x first cur count i → i < x.size
      → Stands C c s cur (d - 1) sd x.key e m → IsCut C c s e (d - 1) sd x.value n p m' → IsCut C c s at d sd k n p (count + m + m')
  unfolding Faults begun_of
  map_value_cut k g {e = e} w q v y =
      record {
        cut = value w.ps v.tree y.cut;
        fault = open_map k g w q (record { end = e; part = v.part; fits = v.fits; next = y.fault });
        counted = omega (arith, w.counted, v.counted, y.counted);
      }

  -- ---- what is known of a loop's place and count, where values take bytes

  module _ (slack : C.Kind → ℕ) (W : laws.Weighs C slack) where
    pub struct_room : {st : C.State} {cur count : ℕ} → StructLoop C c s at d sd st cur count → (at + count ≤ cur + 1) × (cur ≤ length s)
    struct_room w = (omega (arith, w.counted, fields_le C L slack W c w.fs (d - 1) (sd + 1) w.fits, part_length w.part), w.part.within)

    pub list_room : {x : Items C.Kind} {first cur count i : ℕ} → ListLoop C c s at d sd x first cur count i → (first + count ≤ cur + 1) × (cur ≤ length s)
    list_room {x} w =
        let light = (W.list_weighs c s at w.header).1 in
        (omega (arith, w.counted, trees_le C L slack W c w.ts (d - 1) sd x.element light w.fits, part_length w.part), w.part.within)

    pub map_room : {x : Paired C.Kind} {first cur count i : ℕ} → MapLoop C c s at d sd x first cur count i → (first + count ≤ cur + 1) × (cur ≤ length s)
    map_room {x} w =
        let light = W.map_weighs c s at w.header in
        (omega (arith, w.counted, pairs_le C L slack W c w.ps (d - 1) sd x.key x.value light.1 light.2 w.fits, part_length w.part), w.part.within)
