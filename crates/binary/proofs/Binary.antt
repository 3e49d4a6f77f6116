-- The binary encoding meets what the tree's laws ask. Assumes nothing.
use Prim.Native.Nat.{ℕ, ◌+◌, ◌≤◌}
use mathlib.Core.Path.{◌≡◌, refl, sym, ap, subst, ◌∙◌}
use mathlib.Core.Bool.{Bool, true, false, cond}
use mathlib.Core.List.{List, [], ◌∷◌, ◌++◌}
use lib.IntN.{nat_abs}
use lib.ListN.{length, take, drop, length-take, length-drop, length-append}
use native.Mathlib.Omega.{arith}
use Rattle.wire.specs.Answer.{gives, mapped, judged}
use Rattle.wire.proofs.Within.{inside}
use Rattle.codes.specs.Codes.{type_byte, is_stop}
use Rattle.codes.specs.Shapes.{shape_of}
use Rattle.codes.specs.declared.TType.{TType}
use Rattle.codes.specs.declared.TType.TheVariants as T
use Rattle.codes.proofs.Least.{fixed_least}
use Rattle.codes.specs.declared.shape.Shape.{Shape}
use Rattle.codes.specs.declared.shape.Shape.TheVariants as Sh
use Rattle.config.specs.declared.configuration.TConfiguration.{TConfiguration}
use Rattle.number.proofs.Widths.{Octets, length-bytes_of}
use Rattle.text.specs.declared.Span.{Span}
use Rattle.text.specs.declared.Body.TheVariants as BodyOf
use Rattle.text.specs.Texts.{bytes_at, sized_layout}
use Rattle.read.specs.declared.field.TFieldIdentifier.{TFieldIdentifier}
use Rattle.read.specs.Headers.{field_at, list_at, map_at}
use Rattle.read.specs.Layouts.{field_layout, list_layout, map_layout}
use Rattle.tree.specs.Part.{Part}
use Rattle.tree.specs.Room.{Roomier, Unnamed}
use Rattle.tree.specs.Coding.{leaf, Items, Paired, Heading, stop, going}
use Rattle.tree.proofs.Parts.{part_is}
use Rattle.tree.proofs.Heads.{clash, within_part}
use Rattle.tree.proofs.Reading.{part_within}
use Rattle.tree.proofs.Growth.{Grows, grows_same, grows_mapped, within_grows}
use Rattle.tree.proofs.Places.{Later, here_later, mapped_later, within_later}
use Rattle.tree.proofs.Mapped.{unmapped, mapped_gives}
use Rattle.tree.proofs.MoreRoom.{text_more, size_more}
use Rattle.tree.proofs.Laws as laws
use Rattle.binary.specs.Layouts.{HeadBytes, ListBytes, MapBytes}
use Rattle.binary.specs.Binary.{seen_as, heading, as_items, as_paired, binary}
use Rattle.binary.proofs.Heads.{text_is, field_is, stop_is, list_is, map_is, list_from, map_from}
use Rattle.binary.proofs.Reading.{text_reads, field_reads, stop_reads, list_reads, map_reads}
use Rattle.binary.proofs.Growth.{text_grows, field_grows, list_grows, map_grows}
use Rattle.binary.proofs.Places as places

-- ---- reads

shape_is : (c : TConfiguration) (k : Shape) (s : List ℕ) (at : ℕ) {e : ℕ} → Octets s → (seen_as k).view ≡ leaf → gives tt e ≡ (seen_as k).read c s at → laws.There s at e ((seen_as k).bytes c)
shape_is c (Sh.Fixed w) s at o v f =
    let i = inside s at w f in
    record { bytes = take w (drop at s); part = within_part s at w f; holds = simp (length-take, length-drop) (omega (arith, i.room)) }
shape_is c Sh.Text s at {e} o v f =
    let m = unmapped (λ (p : Span). tt) (bytes_at c.max_string_size s at) f in
    let i = text_is c s at o m.gave in
    record { bytes = sized_layout i.body; part = i.part; holds = record { body = i.body; laid = refl; fits = i.fits } }
shape_is c Sh.Fields s at o v f = clash (cc)
shape_is c Sh.Items s at o v f = clash (cc)
shape_is c Sh.Pairs s at o v f = clash (cc)
shape_is c Sh.Unfit s at o v f = clash (cc)

shape_reads : (c : TConfiguration) (k : Shape) (s : List ℕ) (at : ℕ) {e : ℕ} (b : List ℕ) → (seen_as k).bytes c b → Part s at e b → gives tt e ≡ (seen_as k).read c s at
shape_reads c (Sh.Fixed w) s at b h p = part_within b w h p
shape_reads c Sh.Text s at b h p = ap judged (text_reads c h.body h.fits (part_is p h.laid))
shape_reads c Sh.Fields s at b h p = absurd h
shape_reads c Sh.Items s at b h p = absurd h
shape_reads c Sh.Pairs s at b h p = absurd h
shape_reads c Sh.Unfit s at b h p = absurd h

head_is : (s : List ℕ) (at : ℕ) {x : Heading TType Unit} {e : ℕ} → gives x e ≡ mapped heading (field_at s at) → laws.There s at e (λ b. HeadBytes b x)
head_is s at {x} {e} f =
    let m = unmapped heading (field_at s at) f in
    go m.value m.gave (is_stop m.value.field_type) refl m.seen
  where
    go : (v : TFieldIdentifier) → gives v e ≡ field_at s at → (b : Bool) → is_stop v.field_type ≡ b → x ≡ cond b stop (going v.field_type tt)
        → laws.There s at e (λ b. HeadBytes b x)
    go v g true t y = rw y (record { bytes = type_byte T.Stop ∷ []; part = stop_is s at {v = v.id} t g; holds = refl })
    go v g false t y =
        let i = field_is s at {v = v.id} t g in
        rw y
        (record {
          bytes = field_layout v.field_type i.id;
          part = i.part;
          holds = record { id = i.id; laid = refl; two = i.two; reads = i.reads; going = t };
        })

head_reads : (s : List ℕ) (at : ℕ) {e : ℕ} (b : List ℕ) (x : Heading TType Unit) → HeadBytes b x → Part s at e b → gives x e ≡ mapped heading (field_at s at)
head_reads s at b stop h p = mapped_gives heading (stop_reads (part_is p h))
head_reads s at {e} b (going t u) h p =
    let f = mapped_gives heading (field_reads t h.id h.reads h.going h.two (part_is p h.laid)) in
    let same : cond (is_stop t) stop (going t tt) ≡ going t u = rw h.going in
    ap (λ (y : Heading TType Unit). gives y e) (sym same) ∙ f

items_is : (c : TConfiguration) (s : List ℕ) (at : ℕ) {x : Items TType} {e : ℕ} → Octets s → gives x e ≡ mapped as_items (list_at c s at) → laws.There s at e (λ b. ListBytes c b x)
items_is c s at {x} {e} o f =
    let m = unmapped as_items (list_at c s at) f in
    let v = m.value in
    let i = list_is c s at o m.gave in
    subst (λ (y : Items TType). laws.There s at e (λ b. ListBytes c b y)) (sym m.seen)
    (record { bytes = list_layout v.element_type (nat_abs v.size); part = i.part; holds = record { laid = refl; reads = i.reads; fits = i.fits } })

items_reads : (c : TConfiguration) (s : List ℕ) (at : ℕ) {x : Items TType} {e : ℕ} (b : List ℕ) → ListBytes c b x → Part s at e b → gives x e ≡ mapped as_items (list_at c s at)
items_reads c s at {x} b h p = mapped_gives as_items (list_reads c x.element x.size h.reads h.fits (part_is p h.laid))

paired_is : (c : TConfiguration) (s : List ℕ) (at : ℕ) {x : Paired TType} {e : ℕ} → Octets s → gives x e ≡ mapped as_paired (map_at c s at) → laws.There s at e (λ b. MapBytes c b x)
paired_is c s at {x} {e} o f =
    let m = unmapped as_paired (map_at c s at) f in
    let v = m.value in
    let i = map_is c s at o m.gave in
    subst (λ (y : Paired TType). laws.There s at e (λ b. MapBytes c b y)) (sym m.seen)
    (record {
      bytes = map_layout v.key_type v.value_type (nat_abs v.size);
      part = i.part;
      holds = record { laid = refl; key = i.key; value = i.value; fits = i.fits };
    })

paired_reads : (c : TConfiguration) (s : List ℕ) (at : ℕ) {x : Paired TType} {e : ℕ} (b : List ℕ) → MapBytes c b x → Part s at e b → gives x e ≡ mapped as_paired (map_at c s at)
paired_reads c s at {x} b h p = mapped_gives as_paired (map_reads c x.key x.value x.size h.key h.value h.fits (part_is p h.laid))

head_some : (b : List ℕ) (x : Heading TType Unit) → HeadBytes b x → 1 ≤ length b
head_some b stop h = rw h (omega arith)
head_some b (going t u) h = rw h.laid (omega arith)

pub binary_reads : laws.Reads binary
binary_reads =
    record {
      leaf_is = λ c t s at o v f. shape_is c (shape_of t) s at o v f;
      leaf_reads = λ c t s at b v h p. shape_reads c (shape_of t) s at b h p;
      field_is = λ st s at f. head_is s at f;
      field_reads = λ st s at {x} b h p. head_reads s at b x h p;
      list_is = items_is;
      list_reads = items_reads;
      map_is = paired_is;
      map_reads = paired_reads;
      head_some = λ st {b} {x} h. head_some b x h;
    }

-- ---- more room

module _ (old new : TConfiguration) (r : Roomier old new) where
  pub binary_room : (d e : ℕ) → d ≤ e → (s x : List ℕ) → laws.Room binary old new d e s x
  binary_room d e i s x =
      record {
        leaf_grows = λ t at h. shape (shape_of t) at h;
        field_grows = λ st at h. grows_mapped (Unnamed old new d e x) heading _ _ (field_grows (Unnamed old new d e x) s x (λ j. j.short refl) at h);
        list_grows = λ at h. grows_mapped (Unnamed old new d e x) as_items _ _ (list_grows old new r d e i s x at h);
        map_grows = λ at h. grows_mapped (Unnamed old new d e x) as_paired _ _ (map_grows old new r d e i s x at h);
      }
    where
      shape : (k : Shape) (at : ℕ) → at ≤ length s → Grows (Unnamed old new d e x) ((seen_as k).read old s at) ((seen_as k).read new (s ++ x) at)
      shape (Sh.Fixed w) at h = within_grows (Unnamed old new d e x) s x (λ j. j.short refl) at w h
      shape Sh.Text at h = grows_mapped (Unnamed old new d e x) (λ _. tt) _ _ (text_grows old new r d e i s x at h)
      shape Sh.Fields at h = grows_same (Unnamed old new d e x) _
      shape Sh.Items at h = grows_same (Unnamed old new d e x) _
      shape Sh.Pairs at h = grows_same (Unnamed old new d e x) _
      shape Sh.Unfit at h = grows_same (Unnamed old new d e x) _

  pub binary_raises : laws.Raises binary old new
  binary_raises =
      record {
        leaf_more = λ t b h. more (shape_of t) b h;
        list_more = λ b x h. record { laid = h.laid; reads = h.reads; fits = size_more old new r _ _ h.fits };
        map_more = λ b x h. record { laid = h.laid; key = h.key; value = h.value; fits = size_more old new r _ _ h.fits };
      }
    where
      more : (k : Shape) (b : List ℕ) → (seen_as k).bytes old b → (seen_as k).bytes new b
      more (Sh.Fixed w) b h = h
      more Sh.Text b h = record { body = h.body; laid = h.laid; fits = text_more old new r _ h.fits }
      more Sh.Fields b h = absurd h
      more Sh.Items b h = absurd h
      more Sh.Pairs b h = absurd h
      more Sh.Unfit b h = absurd h

-- ---- places and weights

pub binary_places : laws.Places binary
binary_places =
    record {
      leaf_later = λ c t s at. shape c (shape_of t) s at;
      field_later = λ st s at. mapped_later heading at _ (places.field_later s at);
      list_later = λ c s at. mapped_later as_items at _ (places.list_later s c at);
      map_later = λ c s at. mapped_later as_paired at _ (places.map_later s c at);
    }
  where
    shape : (c : TConfiguration) (k : Shape) (s : List ℕ) (at : ℕ) → Later at ((seen_as k).read c s at)
    shape c (Sh.Fixed w) s at = within_later s at w
    shape c Sh.Text s at = mapped_later (λ _. tt) at _ (places.sized_later s BodyOf.Text c.max_string_size at)
    shape c Sh.Fields s at = here_later 12 at
    shape c Sh.Items s at = here_later 12 at
    shape c Sh.Pairs s at = here_later 12 at
    shape c Sh.Unfit s at = here_later 12 at

-- every value takes a byte at least
abbrev pub no_slack : TType → ℕ
no_slack t = 0

pub binary_weighs : laws.Weighs binary no_slack
binary_weighs =
    record {
      slight = λ t. omega arith;
      leaf_weighs = λ c t b h. weighs c t (shape_of t) refl b h;
      list_weighs = λ c s at f. let m = unmapped as_items (list_at c s at) f in (omega (arith, list_from c s at m.gave), refl);
      map_weighs = λ c s at f. let m = unmapped as_paired (map_at c s at) f in (omega (arith, map_from c s at m.gave), refl, refl);
    }
  where
    weighs : (c : TConfiguration) (t : TType) (k : Shape) → shape_of t ≡ k → (b : List ℕ) → (seen_as k).bytes c b → 1 ≤ length b + 0
    weighs c t (Sh.Fixed w) e b h = omega (arith, (fixed_least t w e).1)
    weighs c t Sh.Text e b h = rw h.laid (simp length-append (omega (arith, length-bytes_of 4 (length h.body))))
    weighs c t Sh.Fields e b h = absurd h
    weighs c t Sh.Items e b h = absurd h
    weighs c t Sh.Pairs e b h = absurd h
    weighs c t Sh.Unfit e b h = absurd h
