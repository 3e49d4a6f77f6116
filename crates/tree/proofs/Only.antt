-- An answer of the relation is the one that the model computes, in any encoding: so it is the only one. Assumes nothing.
use Prim.Native.Nat.{ℕ, zero, suc, ◌+◌, ◌-◌, ◌<◌, ◌≤◌}
use mathlib.Core.Path.{◌≡◌, refl, sym, ap, ◌∙◌}
use mathlib.Core.List.{List, ◌++◌}
use lib.ListN.{length, length-append}
use native.Mathlib.Omega.{arith}
use borrow.Author.Tests.{ne_eqb}
use Rattle.wire.specs.Answer.{Answer, gives, refused, refuse_if, judged}
use Rattle.config.specs.declared.configuration.TConfiguration.{TConfiguration}
use Rattle.nesting.specs.Structs.{struct_begin_at}
use Rattle.tree.specs.Part.{Part}
use Rattle.tree.proofs.Parts.{part_length, part_split}
use Rattle.tree.proofs.Heads.{clash}
use Rattle.tree.proofs.Reading.{struct_reads}
use Rattle.tree.specs.Coding.{View, leaf, fields, items, pairs as pairs-view, Items, Paired, stop, going, Coding}
use Rattle.tree.specs.Tree.{Tree, Fields, Trees, Pairs, leaf as leaf-of, struct, list as list_of, map as map_of, nil, snoc, none, then, empty, with, layout, fields_layout, trees_layout, pairs_layout, values_of, fields_values, trees_values, pairs_values, count_of, pairs_of, state_of, Fits, FieldsFit, TreesFit, PairsFit}
use Rattle.tree.specs.Answers.{view_own, own_at, Cut, here, head, field_value, element, key, value, begun_of, Faults, Outcome, ended, cut_off, leaf_outcome, Answers, skip_entry, AfterEntry, SkipAnswers}
use Rattle.tree.proofs.Laws as laws
use Rattle.tree.proofs.Model.{elements, pairs, struct_step, fields_from, list_step, map_step, by_view, skip_as, child_of, skip_deep}

module _ (child : ℕ → Outcome) (g m k : ℕ) where
  elements_on : {e v : ℕ} → child m ≡ ended e v → elements child (suc g) m k ≡ elements child g e (k + v)
  unfolding elements
  elements_on f = rw f

  elements_cut : {n p v : ℕ} → child m ≡ cut_off n p v → elements child (suc g) m k ≡ cut_off n p (k + v)
  unfolding elements
  elements_cut f = rw f

elements_end : (child : ℕ → Outcome) (m k : ℕ) → elements child 0 m k ≡ ended m k
unfolding elements
elements_end child m k = refl

module _ (kf vf : ℕ → Outcome) (g m k : ℕ) where
  pairs_on : {e v e' v' : ℕ} → kf m ≡ ended e v → vf e ≡ ended e' v' → pairs kf vf (suc g) m k ≡ pairs kf vf g e' (k + v + v')
  unfolding pairs
  pairs_on f h = rw (f, h)

  pairs_key_cut : {n p v : ℕ} → kf m ≡ cut_off n p v → pairs kf vf (suc g) m k ≡ cut_off n p (k + v)
  unfolding pairs
  pairs_key_cut f = rw f

  pairs_value_cut : {e v n p v' : ℕ} → kf m ≡ ended e v → vf e ≡ cut_off n p v' → pairs kf vf (suc g) m k ≡ cut_off n p (k + v + v')
  unfolding pairs
  pairs_value_cut f h = rw (f, h)

pairs_end : (kf vf : ℕ → Outcome) (m k : ℕ) → pairs kf vf 0 m k ≡ ended m k
unfolding pairs
pairs_end kf vf m k = refl

num : {K S : Type 0} → Fields K S → ℕ
num nil = 0
num (snoc fs h k st v) = num fs + 1

leaf_refused : {m : Answer Unit} {n p : ℕ} → refused n p ≡ m → leaf_outcome m ≡ cut_off n p 1
leaf_refused h = rw (← h)

by_refused : {A : Type 0} (step : Answer A → Outcome) → ((n p : ℕ) → step (refused n p) ≡ cut_off n p 1) → (m : Answer A) (n p : ℕ)
    → refused n p ≡ judged m → step m ≡ cut_off n p 1
by_refused step r (gives v q) n p h = clash (cc)
by_refused step r (refused k q) n p h = r k q ∙ cc

module _ (C : Coding) (L : laws.Reads C) (c : TConfiguration) (s : List ℕ) where
  module _ (child : C.Kind → ℕ → Outcome) (st : C.State) (g m k : ℕ) where
    fields_on : {t : C.Kind} {st' : C.State} {q e v : ℕ} → gives (going t st') q ≡ C.field_at st s m → child t q ≡ ended e v
        → fields_from C (suc g) child s st m k ≡ fields_from C g child s st' e (k + v)
    unfolding fields_from
    fields_on h f = rw (← h, f)

    fields_cut : {t : C.Kind} {st' : C.State} {q n p v : ℕ} → gives (going t st') q ≡ C.field_at st s m → child t q ≡ cut_off n p v
        → fields_from C (suc g) child s st m k ≡ cut_off n p (k + v)
    unfolding fields_from
    fields_cut h f = rw (← h, f)

    fields_refused : {n p : ℕ} → refused n p ≡ C.field_at st s m → fields_from C (suc g) child s st m k ≡ cut_off n p k
    unfolding fields_from
    fields_refused h = rw (← h)

    fields_stop : {e : ℕ} → gives stop e ≡ C.field_at st s m → fields_from C (suc g) child s st m k ≡ ended e k
    unfolding fields_from
    fields_stop h = rw (← h)

  num_le : (fs : Fields C.Kind C.State) (d sd : ℕ) → FieldsFit C fs c d sd → num fs ≤ length (fields_layout fs)
  unfolding num fields_layout Fits
  num_le nil d sd f = omega arith
  num_le (snoc fs h k st v) d sd f = simp length-append (omega (arith, num_le fs d sd f.fields, L.head_some _ f.header))

  view_refused : (at sd : ℕ) (child : ℕ → C.Kind → ℕ → Outcome) (k : C.Kind) (n p : ℕ) (v : View) → refused n p ≡ view_own C c sd k s at v
      → by_view C c s at sd child k v ≡ cut_off n p 1
  view_refused at sd child k n p leaf h = leaf_refused h
  view_refused at sd child k n p fields h = by_refused (struct_step _) (λ j q. refl) (struct_begin_at c.max_recursion_depth sd s at) n p h
  view_refused at sd child k n p items h = by_refused (list_step C (child sd)) (λ j q. refl) (C.list_at c s at) n p h
  view_refused at sd child k n p pairs-view h = by_refused (map_step C (child sd)) (λ j q. refl) (C.map_at c s at) n p h

  own_refused : (at d sd : ℕ) (k : C.Kind) (n p : ℕ) → refused n p ≡ own_at C c d sd k s at → skip_as C d c s sd k at ≡ cut_off n p 1
  unfolding skip_as own_at refuse_if
  own_refused at zero sd k n p h = cc
  own_refused at (suc d) sd k n p h = view_refused at sd (child_of C c s d) k n p (C.view k) (rw (ne_eqb (suc d) 0 (λ z. omega arith)) at h)

  leaf_model : (at d sd : ℕ) (k : C.Kind) → 0 < d → C.view k ≡ leaf → skip_as C d c s sd k at ≡ leaf_outcome (C.leaf_at c k s at)
  leaf_model at d sd k hd e = skip_deep C c s d sd k at hd ∙ ap (by_view C c s at sd (child_of C c s (d - 1)) k) e

  struct_model : (at d sd : ℕ) (k : C.Kind) {q : ℕ} → 0 < d → C.view k ≡ fields → gives (sd + 1) q ≡ struct_begin_at c.max_recursion_depth sd s at
      → skip_as C d c s sd k at ≡ fields_from C (length s + 1) (child_of C c s (d - 1) (sd + 1)) s C.start at 1
  struct_model at d sd k hd e h = skip_deep C c s d sd k at hd ∙ ap (by_view C c s at sd (child_of C c s (d - 1)) k) e ∙ rw (← h)

  list_model : (at d sd : ℕ) (k : C.Kind) {x : Items C.Kind} {first : ℕ} → 0 < d → C.view k ≡ items → gives x first ≡ C.list_at c s at
      → skip_as C d c s sd k at ≡ elements (child_of C c s (d - 1) sd x.element) x.size first 1
  list_model at d sd k hd e h = skip_deep C c s d sd k at hd ∙ ap (by_view C c s at sd (child_of C c s (d - 1)) k) e ∙ rw (← h)

  map_model : (at d sd : ℕ) (k : C.Kind) {x : Paired C.Kind} {first : ℕ} → 0 < d → C.view k ≡ pairs-view → gives x first ≡ C.map_at c s at
      → skip_as C d c s sd k at ≡ pairs (child_of C c s (d - 1) sd x.key) (child_of C c s (d - 1) sd x.value) x.size first 1
  map_model at d sd k hd e h = skip_deep C c s d sd k at hd ∙ ap (by_view C c s at sd (child_of C c s (d - 1)) k) e ∙ rw (← h)

  -- a struct that has passed some fields, in the model, once the fields are known to be passed there
  opened : (fs : Fields C.Kind C.State) (at m d sd : ℕ) (k : C.Kind) → C.view k ≡ fields → 0 < d → gives (sd + 1) at ≡ struct_begin_at c.max_recursion_depth sd s at
      → Part s at m (fields_layout fs) → FieldsFit C fs c (d - 1) (sd + 1)
      → ((g n : ℕ) → fields_from C (num fs + g) (child_of C c s (d - 1) (sd + 1)) s C.start at n
      ≡ fields_from C g (child_of C c s (d - 1) (sd + 1)) s (state_of C.start fs) m (n + fields_values fs))
      → skip_as C d c s sd k at ≡ fields_from C (suc (length s - num fs)) (child_of C c s (d - 1) (sd + 1)) s (state_of C.start fs) m (1 + fields_values fs)
  opened fs at m d sd k e hd b p f on =
      let fuel : length s + 1 ≡ num fs + suc (length s - num fs) = omega (arith, num_le fs (d - 1) (sd + 1) f, part_length p, p.within) in
      struct_model at d sd k hd e b
      ∙ ap (λ (j : ℕ). fields_from C j (child_of C c s (d - 1) (sd + 1)) s C.start at 1) fuel
      ∙ on (suc (length s - num fs)) 1

  mutual
    unfolding layout values_of Fits count_of pairs_of num state_of

    tree_model : (t : Tree C.Kind C.State) (at e d sd : ℕ) (k : C.Kind) → Part s at e (layout t) → Fits C t c d sd k → skip_as C d c s sd k at ≡ ended e (values_of t)
    tree_model (leaf-of b) at e d sd k p f =
        leaf_model at d sd k f.deep f.view ∙ ap leaf_outcome (sym (L.leaf_reads c k s at b f.view f.bytes p))
    tree_model (struct fs z) at e d sd k p f =
        let sp = part_split (fields_layout fs) z p in
        opened fs at sp.mid d sd k f.view f.deep (struct_reads c sd s at (omega (arith, p.from, p.within)) f.limit f.cap) sp.left f.fields
        (λ g n. fields_model fs at sp.mid (d - 1) (sd + 1) sp.left f.fields g n)
        ∙ fields_stop (child_of C c s (d - 1) (sd + 1)) (state_of C.start fs) (length s - num fs) sp.mid (1 + fields_values fs) (L.field_reads _ s sp.mid z f.end sp.right)
    tree_model (list_of h x ts) at e d sd k p f =
        let sp = part_split h (trees_layout ts) p in
        let child : ℕ → Outcome = child_of C c s (d - 1) sd x.element in
        let n0 : x.size ≡ count_of ts + 0 = omega (arith, f.size) in
        list_model at d sd k f.deep f.view (L.list_reads c s at h f.header sp.left)
        ∙ ap (λ (j : ℕ). elements child j sp.mid 1) n0
        ∙ trees_model ts sp.mid e (d - 1) sd x.element sp.right f.elements 0 1
        ∙ elements_end child e (1 + trees_values ts)
    tree_model (map_of h x ps) at e d sd k p f =
        let sp = part_split h (pairs_layout ps) p in
        let kf : ℕ → Outcome = child_of C c s (d - 1) sd x.key in
        let vf : ℕ → Outcome = child_of C c s (d - 1) sd x.value in
        let n0 : x.size ≡ pairs_of ps + 0 = omega (arith, f.size) in
        map_model at d sd k f.deep f.view (L.map_reads c s at h f.header sp.left)
        ∙ ap (λ (j : ℕ). pairs kf vf j sp.mid 1) n0
        ∙ pairs_model ps sp.mid e (d - 1) sd x.key x.value sp.right f.pairs 0 1
        ∙ pairs_end kf vf e (1 + pairs_values ps)

    fields_model : (fs : Fields C.Kind C.State) (at m d sd : ℕ) → Part s at m (fields_layout fs) → FieldsFit C fs c d sd → (g n : ℕ)
        → fields_from C (num fs + g) (child_of C c s d sd) s C.start at n ≡ fields_from C g (child_of C c s d sd) s (state_of C.start fs) m (n + fields_values fs)
    fields_model nil at m d sd p f g n =
        let e1 : 0 + g ≡ g = omega arith in
        let e2 : at ≡ m = omega (arith, part_length p) in
        let e3 : n ≡ n + 0 = omega arith in
        cc
    fields_model (snoc fs h k st v) at m d sd p f g n =
        let sp = part_split (fields_layout fs) (h ++ layout v) p in
        let sq = part_split h (layout v) sp.right in
        let child : C.Kind → ℕ → Outcome = child_of C c s d sd in
        let e1 : num fs + 1 + g ≡ num fs + suc g = omega arith in
        let e2 : n + fields_values fs + values_of v ≡ n + (fields_values fs + values_of v) = omega arith in
        ap (λ (j : ℕ). fields_from C j child s C.start at n) e1
        ∙ fields_model fs at sp.mid d sd sp.left f.fields (suc g) n
        ∙ fields_on child (state_of C.start fs) g sp.mid (n + fields_values fs) (L.field_reads _ s sp.mid h f.header sq.left)
        (tree_model v sq.mid m d sd k sq.right f.value)
        ∙ ap (λ (j : ℕ). fields_from C g child s st m j) e2

    trees_model : (ts : Trees C.Kind C.State) (at m d sd : ℕ) (k : C.Kind) → Part s at m (trees_layout ts) → TreesFit C ts c d sd k → (g n : ℕ)
        → elements (skip_as C d c s sd k) (count_of ts + g) at n ≡ elements (skip_as C d c s sd k) g m (n + trees_values ts)
    trees_model none at m d sd k p f g n =
        let e1 : 0 + g ≡ g = omega arith in
        let e2 : at ≡ m = omega (arith, part_length p) in
        let e3 : n ≡ n + 0 = omega arith in
        cc
    trees_model (then ts t) at m d sd k p f g n =
        let sp = part_split (trees_layout ts) (layout t) p in
        let child : ℕ → Outcome = skip_as C d c s sd k in
        let e1 : count_of ts + 1 + g ≡ count_of ts + suc g = omega arith in
        let e2 : n + trees_values ts + values_of t ≡ n + (trees_values ts + values_of t) = omega arith in
        ap (λ (j : ℕ). elements child j at n) e1
        ∙ trees_model ts at sp.mid d sd k sp.left f.0 (suc g) n
        ∙ elements_on child g sp.mid (n + trees_values ts) (tree_model t sp.mid m d sd k sp.right f.1)
        ∙ ap (λ (j : ℕ). elements child g m j) e2

    pairs_model : (ps : Pairs C.Kind C.State) (at m d sd : ℕ) (k v : C.Kind) → Part s at m (pairs_layout ps) → PairsFit C ps c d sd k v → (g n : ℕ)
        → pairs (skip_as C d c s sd k) (skip_as C d c s sd v) (pairs_of ps + g) at n ≡ pairs (skip_as C d c s sd k) (skip_as C d c s sd v) g m (n + pairs_values ps)
    pairs_model empty at m d sd k v p f g n =
        let e1 : 0 + g ≡ g = omega arith in
        let e2 : at ≡ m = omega (arith, part_length p) in
        let e3 : n ≡ n + 0 = omega arith in
        cc
    pairs_model (with ps x y) at m d sd k v p f g n =
        let sp = part_split (pairs_layout ps) (layout x ++ layout y) p in
        let sq = part_split (layout x) (layout y) sp.right in
        let kf : ℕ → Outcome = skip_as C d c s sd k in
        let vf : ℕ → Outcome = skip_as C d c s sd v in
        let e1 : pairs_of ps + 1 + g ≡ pairs_of ps + suc g = omega arith in
        let e2 : n + pairs_values ps + values_of x + values_of y ≡ n + (pairs_values ps + (values_of x + values_of y)) = omega arith in
        ap (λ (j : ℕ). pairs kf vf j at n) e1
        ∙ pairs_model ps at sp.mid d sd k v sp.left f.0 (suc g) n
        ∙ pairs_on kf vf g sp.mid (n + pairs_values ps) (tree_model x sp.mid sq.mid d sd k sq.left f.1) (tree_model y sq.mid m d sd v sq.right f.2)
        ∙ ap (λ (j : ℕ). pairs kf vf g m j) e2

  -- a map that has passed some pairs, in the model
  pairs_open : (ps : Pairs C.Kind C.State) (at m d sd : ℕ) (k : C.Kind) {x : Paired C.Kind} {first : ℕ} → C.view k ≡ pairs-view → 0 < d → gives x first ≡ C.map_at c s at
      → pairs_of ps < x.size → Part s first m (pairs_layout ps) → PairsFit C ps c (d - 1) sd x.key x.value
      → skip_as C d c s sd k at
      ≡ pairs (child_of C c s (d - 1) sd x.key) (child_of C c s (d - 1) sd x.value) (suc (x.size - pairs_of ps - 1)) m (1 + pairs_values ps)
  pairs_open ps at m d sd k {x} {first} e hd h lt q f =
      let left : x.size ≡ pairs_of ps + suc (x.size - pairs_of ps - 1) = omega arith in
      map_model at d sd k hd e h
      ∙ ap (λ (j : ℕ). pairs (child_of C c s (d - 1) sd x.key) (child_of C c s (d - 1) sd x.value) j first 1) left
      ∙ pairs_model ps first m (d - 1) sd x.key x.value q f (suc (x.size - pairs_of ps - 1)) 1

  cut_model : (x : Cut C.Kind C.State) (at d sd : ℕ) (k : C.Kind) (n p : ℕ) → Faults C x c s at d sd k n p → skip_as C d c s sd k at ≡ cut_off n p (begun_of x)
  unfolding Faults begun_of
  cut_model here at d sd k n p f = own_refused at d sd k n p f
  cut_model (head fs) at d sd k n p f =
      opened fs at f.mid d sd k f.view f.deep f.begun f.part f.fits (fields_model fs at f.mid (d - 1) (sd + 1) f.part f.fits)
      ∙ fields_refused (child_of C c s (d - 1) (sd + 1)) (state_of C.start fs) (length s - num fs) f.mid (1 + fields_values fs) f.next
  cut_model (field_value fs x) at d sd k n p f =
      let v = f.next in
      opened fs at f.mid d sd k f.view f.deep f.begun f.part f.fits (fields_model fs at f.mid (d - 1) (sd + 1) f.part f.fits)
      ∙ fields_cut (child_of C c s (d - 1) (sd + 1)) (state_of C.start fs) (length s - num fs) f.mid (1 + fields_values fs) v.header
      (cut_model x v.first (d - 1) (sd + 1) v.kind n p v.next)
  cut_model (element ts x) at d sd k n p f =
      let size = f.says.size in
      let child : ℕ → Outcome = child_of C c s (d - 1) sd f.says.element in
      let left : size ≡ count_of ts + suc (size - count_of ts - 1) = omega (arith, f.more) in
      list_model at d sd k f.deep f.view f.header
      ∙ ap (λ (j : ℕ). elements child j f.first 1) left
      ∙ trees_model ts f.first f.mid (d - 1) sd f.says.element f.part f.fits (suc (size - count_of ts - 1)) 1
      ∙ elements_cut child (size - count_of ts - 1) f.mid (1 + trees_values ts) (cut_model x f.mid (d - 1) sd f.says.element n p f.next)
  cut_model (key ps x) at d sd k n p f =
      pairs_open ps at f.mid d sd k f.view f.deep f.header f.more f.part f.fits
      ∙ pairs_key_cut (child_of C c s (d - 1) sd f.says.key) (child_of C c s (d - 1) sd f.says.value) (f.says.size - pairs_of ps - 1) f.mid (1 + pairs_values ps)
      (cut_model x f.mid (d - 1) sd f.says.key n p f.next)
  cut_model (value ps t x) at d sd k n p f =
      let w = f.next in
      pairs_open ps at f.mid d sd k f.view f.deep f.header f.more f.part f.fits
      ∙ pairs_value_cut (child_of C c s (d - 1) sd f.says.key) (child_of C c s (d - 1) sd f.says.value) (f.says.size - pairs_of ps - 1) f.mid (1 + pairs_values ps)
      (tree_model t f.mid w.end (d - 1) sd f.says.key w.part w.fits)
      (cut_model x w.end (d - 1) sd f.says.value n p w.next)

  answer_model : (at d sd : ℕ) (k : C.Kind) (x : Outcome) → Answers C c s at d sd k x → skip_as C d c s sd k at ≡ x
  answer_model at d sd k (ended e n) h = tree_model h.tree at e d sd k h.part h.fits ∙ ap (ended e) (sym h.counted)
  answer_model at d sd k (cut_off n p j) h = cut_model h.cut at d sd k n p h.fault ∙ ap (cut_off n p) (sym h.counted)

  -- two answers to one question are equal
  pub only : (at d sd : ℕ) (k : C.Kind) (x y : Outcome) → Answers C c s at d sd k x → Answers C c s at d sd k y → x ≡ y
  only at d sd k x y a b = sym (answer_model at d sd k x a) ∙ answer_model at d sd k y b

  -- also behind the entry
  pub skip_only : (at d sd : ℕ) (k : C.Kind) (x y : Outcome) → SkipAnswers C c s at d sd k x → SkipAnswers C c s at d sd k y → x ≡ y
  skip_only at d sd k x y = go (skip_entry d sd s at)
    where
      go : (m : Answer Unit) → AfterEntry m x (Answers C c s at d sd k x) → AfterEntry m y (Answers C c s at d sd k y) → x ≡ y
      go (refused n p) a b = a ∙ sym b
      go (gives u q) a b = only at d sd k x y a b
