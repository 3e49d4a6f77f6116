-- What the headers of `read` say of the bytes. Assumes nothing.
use Rattle.std.specs.Prelude.{None, Option, Some}
use Prim.Native.Nat.{ℕ, ◌+◌, ◌*◌, ◌<◌, ◌≤◌}
use mathlib.Core.Path.{◌≡◌, refl, sym, ap, subst₂, ◌∙◌}
use mathlib.Core.Bool.{Bool, true, false, cond}
use mathlib.Core.List.{List, [], ◌∷◌, ◌++◌}
use lib.IntN.{ℤ, pos, nat_abs}
use lib.Signed.{lt_z}
use lib.ListN.{length, take, drop, length-drop}
use lib.Seq.{length-take-le}
use mir.Syntax.{w16, w32}
use mir.Val.{to_z}
use mir.ValLaws.{to_z_pos}
use native.Mathlib.Decide.{dec_lt}
use native.Mathlib.Omega.{arith}
use borrow.Author.Tests.{le-ltb, eqb-true}
use Rattle.wire.specs.Answer.{Answer, gives, refused, and_then, within}
use Rattle.codes.specs.Codes.{type_byte, type_of, is_stop, least_size}
use Rattle.codes.specs.declared.TType.{TType}
use Rattle.wire.proofs.Answers.{passed, went}
use Rattle.codes.proofs.RoundTrips.{type_read}
use Rattle.wire.proofs.Within.{inside}
use Rattle.number.specs.BigEndian.{big, bytes_of}
use Rattle.number.specs.Reads.{byte_at, i16_at, i32_at}
use Rattle.number.proofs.Widths.{Octets, read_written}
use Rattle.config.specs.Limits.{above}
use Rattle.config.specs.declared.configuration.TConfiguration.{TConfiguration}
use Rattle.text.specs.Texts.{size_at, sized_at, bytes_at, limited_at}
use Rattle.text.proofs.Texts.{size_below, limited_is}
use Rattle.text.specs.declared.Span.{Span}
use Rattle.text.specs.declared.Body.TheVariants as BodyOf
use Rattle.codes.specs.declared.TType.TheVariants as T
use Rattle.read.specs.declared.container.TListIdentifier.{TListIdentifier}
use Rattle.read.specs.declared.container.TMapIdentifier.{TMapIdentifier}
use Rattle.read.specs.declared.field.TFieldIdentifier.{TFieldIdentifier}
use Rattle.read.specs.Headers.{known, type_at, field, field_at, count_at, list, list_at, map, map_at}
use Rattle.tree.specs.Part.{Part}
use Rattle.tree.specs.Sizes.{LengthFits, SizeFits}
use Rattle.tree.proofs.Parts.{part_to, part_is, part_join, part_length}
use Rattle.tree.proofs.Heads.{clash, within_part, number_is, byte_part}
use Rattle.binary.specs.Layouts.{Readable}

-- a type byte that was read is the type's, and reads as the type
pub record TypeIs (s : List ℕ) (at : ℕ) (t : TType) (next : ℕ) : Type 0 where
  pub part : Part s at next (type_byte t ∷ [])
  pub reads : Readable t

pub type_is : (s : List ℕ) (at : ℕ) {t : TType} {next : ℕ} → gives t next ≡ type_at s at → TypeIs s at t next
unfolding type_at
type_is s at {t} {next} e =
    let a = went (byte_at s at) _ e in
    go a.value a.place (byte_part s at a.gave) (type_of a.value) refl a.on
  where
    go : (b q : ℕ) → Part s at q (b ∷ []) → (k : Option TType) → type_of b ≡ k → gives t next ≡ known at q k → TypeIs s at t next
    go b q p (Some u) f h =
        let same : u ≡ t = cc in
        let place : q ≡ next = cc in
        let code : type_byte t ≡ b = type_read b t (f ∙ ap Some same) in
        record {
          part = part_to next (part_is p (ap (λ (n : ℕ). n ∷ []) (sym code))) place;
          reads = ap type_of code ∙ f ∙ ap Some same;
        }
    go b q p None f h = clash (cc)

-- a 32-bit number that is not negative is its bits
pub as_it_stands : (n : ℕ) → lt_z (to_z w32 n) (pos 0) ≡ false → nat_abs (to_z w32 n) ≡ n
as_it_stands n h = go (dec_lt n 2147483648)
  where
    go : Dec (n < 2147483648) → nat_abs (to_z w32 n) ≡ n
    go (yes i) = ap nat_abs (to_z_pos w32 n i)
    go (no i) = clash (cc (rw (le-ltb n 2147483648 (omega arith)) at h))

-- a size that was read: its four bytes, and that it has 31 bits
pub record SizeIs (s : List ℕ) (at n next : ℕ) : Type 0 where
  pub part : Part s at next (bytes_of 4 n)
  pub not_negative : n < 2147483648

pub size_is : (s : List ℕ) (at : ℕ) → Octets s → {n next : ℕ} → gives n next ≡ size_at s at → SizeIs s at n next
unfolding size_at
size_is s at o {n} {next} e =
    let a = went (i32_at s at) _ e in
    let b = passed (lt_z a.value (pos 0)) 6 at (gives (nat_abs a.value) a.place) a.on in
    let i = number_is 4 (to_z w32) s at a.gave in
    let same : n ≡ nat_abs a.value = cc b.gave in
    let place : a.place ≡ next = cc b.gave in
    let bits = big (take 4 (drop at s)) in
    let size : n ≡ bits = same ∙ ap nat_abs i.value ∙ as_it_stands bits (ap (λ (z : ℤ). lt_z z (pos 0)) (sym i.value) ∙ b.test) in
    record {
      part = part_to next (part_is i.part (sym (read_written 4 s at o i.room) ∙ ap (bytes_of 4) (sym size))) place;
      not_negative = size_below s at e;
    }

-- a size takes four bytes, all of them there
pub size_from : (s : List ℕ) (at : ℕ) {n next : ℕ} → gives n next ≡ size_at s at → (at + 4 ≡ next) × (next ≤ length s)
unfolding size_at
size_from s at {n} {next} e =
    let a = went (i32_at s at) _ e in
    let b = passed _ 6 at (gives (nat_abs a.value) a.place) a.on in
    let i = number_is 4 (to_z w32) s at a.gave in
    let same : next ≡ a.place = cc b.gave in
    (omega (arith, i.end), omega (arith, i.end, i.room))

-- a text that was read: its body, behind its length
pub record TextIs (c : TConfiguration) (s : List ℕ) (at e : ℕ) : Type 0 where
  pub body : List ℕ
  pub part : Part s at e (bytes_of 4 (length body) ++ body)
  pub fits : LengthFits c (length body)

pub text_is : (c : TConfiguration) (s : List ℕ) (at : ℕ) → Octets s → {p : Span} {e : ℕ} → gives p e ≡ bytes_at c.max_string_size s at → TextIs c s at e
unfolding sized_at
text_is c s at o {p} {e} h =
    let a = went (limited_at BodyOf.Text c.max_string_size s at) _ h in
    let n = a.value in
    let b = limited_is BodyOf.Text c.max_string_size s at a.gave in
    let w = went (within s a.place n) _ a.on in
    let i = inside s a.place n w.gave in
    let z = size_is s at o b.size in
    let last : w.place ≡ e = cc w.on in
    let body = take n (drop a.place s) in
    let long : length body ≡ n = length-take-le n (drop a.place s) (rw (length-drop a.place s) (omega arith)) in
    record {
      body = body;
      part = part_join (part_is z.part (ap (bytes_of 4) (sym long))) (part_to e (within_part s a.place n w.gave) last);
      fits = record { not_negative = rw long z.not_negative; string = rw long b.test };
    }

-- a container's size that was read
pub record CountIs (c : TConfiguration) (least : ℕ) (s : List ℕ) (at n next : ℕ) : Type 0 where
  pub part : Part s at next (bytes_of 4 n)
  pub fits : SizeFits c least n

pub count_is : (c : TConfiguration) (least : ℕ) (s : List ℕ) (at : ℕ) → Octets s → {n next : ℕ} → gives n next ≡ count_at c least s at
    → CountIs c least s at n next
unfolding count_at
count_is c least s at o {n} {next} h =
    let a = went (size_at s at) _ h in
    let b = passed (above a.value c.max_container_size) 8 at _ a.on in
    let d = passed (above (a.value * least) c.max_message_size) 9 at (gives a.value a.place) b.gave in
    let z = size_is s at o a.gave in
    let same : a.value ≡ n = cc d.gave in
    let place : a.place ≡ next = cc d.gave in
    subst₂ (λ (x q : ℕ). CountIs c least s at x q) same place
    (record { part = z.part; fits = record { not_negative = z.not_negative; container = b.test; message = d.test } })

pub record ListIs (c : TConfiguration) (s : List ℕ) (at : ℕ) (l : TListIdentifier) (first : ℕ) : Type 0 where
  pub part : Part s at first (type_byte l.element_type ∷ bytes_of 4 (nat_abs l.size))
  pub reads : Readable l.element_type
  pub fits : SizeFits c (least_size l.element_type) (nat_abs l.size)

pub list_is : (c : TConfiguration) (s : List ℕ) (at : ℕ) → Octets s → {l : TListIdentifier} {first : ℕ} → gives l first ≡ list_at c s at → ListIs c s at l first
unfolding list_at
list_is c s at o {l} {first} h =
    let a = went (type_at s at) _ h in
    let b = went (count_at c (least_size a.value) s a.place) _ a.on in
    let x = type_is s at a.gave in
    let z = count_is c (least_size a.value) s a.place o b.gave in
    let same : list a.value b.value ≡ l = cc b.on in
    let place : b.place ≡ first = cc b.on in
    subst₂ (λ (m : TListIdentifier) (q : ℕ). ListIs c s at m q) same place
    (record { part = part_join x.part z.part; reads = x.reads; fits = z.fits })

pub record MapIs (c : TConfiguration) (s : List ℕ) (at : ℕ) (m : TMapIdentifier) (first : ℕ) : Type 0 where
  pub part : Part s at first (type_byte m.key_type ∷ type_byte m.value_type ∷ bytes_of 4 (nat_abs m.size))
  pub key : Readable m.key_type
  pub value : Readable m.value_type
  pub fits : SizeFits c (least_size m.key_type + least_size m.value_type) (nat_abs m.size)

pub map_is : (c : TConfiguration) (s : List ℕ) (at : ℕ) → Octets s → {m : TMapIdentifier} {first : ℕ} → gives m first ≡ map_at c s at → MapIs c s at m first
unfolding map_at
map_is c s at o {m} {first} h =
    let a = went (type_at s at) _ h in
    let b = went (type_at s a.place) _ a.on in
    let d = went (count_at c (least_size a.value + least_size b.value) s b.place) _ b.on in
    let x = type_is s at a.gave in
    let y = type_is s a.place b.gave in
    let z = count_is c (least_size a.value + least_size b.value) s b.place o d.gave in
    let same : map a.value b.value d.value ≡ m = cc d.on in
    let place : d.place ≡ first = cc d.on in
    subst₂ (λ (w : TMapIdentifier) (q : ℕ). MapIs c s at w q) same place
    (record { part = part_join x.part (part_join y.part z.part); key = x.reads; value = y.reads; fits = z.fits })

-- the type in a field's header
type_in : TType → Answer TFieldIdentifier → TType
type_in t (gives f p) = f.field_type
type_in t (refused n p) = t

-- a field's header that was read: its type and the two bytes of its id, or the stop byte alone
pub record FieldIs (s : List ℕ) (at : ℕ) (t : TType) (next : ℕ) : Type 0 where
  pub id : List ℕ
  pub part : Part s at next (type_byte t ∷ id)
  pub two : length id ≡ 2
  pub reads : Readable t

pub field_is : (s : List ℕ) (at : ℕ) {t : TType} {v : ℤ} {next : ℕ} → is_stop t ≡ false → gives (field t v) next ≡ field_at s at → FieldIs s at t next
unfolding field_at type_in
field_is s at {t} {v} {next} g h =
    let a = went (type_at s at) _ h in
    go a.value a.place (type_is s at a.gave) (is_stop a.value) refl a.on
  where
    go : (u : TType) (q : ℕ) → TypeIs s at u q → (b : Bool) → is_stop u ≡ b
        → gives (field t v) next ≡ cond b (gives (field u (pos 0)) q) (and_then (i16_at s q) λ id end. gives (field u id) end) → FieldIs s at t next
    go u q x true f e =
        let same : u ≡ t = ap (λ (l : Answer TFieldIdentifier). type_in t l) (sym e) in
        clash (cc (sym f ∙ ap is_stop same ∙ g))
    go u q x false f e =
        let b = went (i16_at s q) _ e in
        let i = number_is 2 (to_z w16) s q b.gave in
        let same : u ≡ t = ap (λ (l : Answer TFieldIdentifier). type_in t l) (sym b.on) in
        let place : b.place ≡ next = cc b.on in
        subst₂ (λ (y : TType) (r : ℕ). FieldIs s at y r) same place
        (record {
          id = take 2 (drop q s);
          part = part_join x.part i.part;
          two = length-take-le 2 (drop q s) (rw (length-drop q s) (omega (arith, i.room)));
          reads = x.reads;
        })

pub stop_is : (s : List ℕ) (at : ℕ) {t : TType} {v : ℤ} {next : ℕ} → is_stop t ≡ true → gives (field t v) next ≡ field_at s at
    → Part s at next (type_byte T.Stop ∷ [])
unfolding field_at type_in
stop_is s at {t} {v} {next} g h =
    let a = went (type_at s at) _ h in
    go a.value a.place (type_is s at a.gave) (is_stop a.value) refl a.on
  where
    go : (u : TType) (q : ℕ) → TypeIs s at u q → (b : Bool) → is_stop u ≡ b
        → gives (field t v) next ≡ cond b (gives (field u (pos 0)) q) (and_then (i16_at s q) λ id end. gives (field u id) end)
        → Part s at next (type_byte T.Stop ∷ [])
    go u q x true f e =
        let place : q ≡ next = cc in
        part_to next (part_is x.part (ap (λ (n : ℕ). n ∷ []) (eqb-true (type_byte u) 0 f))) place
    go u q x false f e =
        let b = went (i16_at s q) _ e in
        let same : u ≡ t = ap (λ (l : Answer TFieldIdentifier). type_in t l) (sym b.on) in
        clash (cc (sym f ∙ ap is_stop same ∙ g))

-- a container's header takes a byte for each type and four for the size: at least one
count_from : (c : TConfiguration) (least : ℕ) (s : List ℕ) (at : ℕ) {n next : ℕ} → gives n next ≡ count_at c least s at → at + 4 ≡ next
unfolding count_at
count_from c least s at {n} {next} h =
    let a = went (size_at s at) _ h in
    let b = passed _ 8 at _ a.on in
    let d = passed _ 9 at (gives a.value a.place) b.gave in
    let same : next ≡ a.place = cc d.gave in
    omega (arith, (size_from s at a.gave).0)

pub list_from : (c : TConfiguration) (s : List ℕ) (at : ℕ) {l : TListIdentifier} {first : ℕ} → gives l first ≡ list_at c s at → at + 5 ≡ first
unfolding list_at
list_from c s at {l} {first} h =
    let a = went (type_at s at) _ h in
    let b = went (count_at c (least_size a.value) s a.place) _ a.on in
    let x = part_length (type_is s at a.gave).part in
    let y = count_from c (least_size a.value) s a.place b.gave in
    let last : first ≡ b.place = cc b.on in
    omega arith

pub map_from : (c : TConfiguration) (s : List ℕ) (at : ℕ) {m : TMapIdentifier} {first : ℕ} → gives m first ≡ map_at c s at → at + 6 ≡ first
unfolding map_at
map_from c s at {m} {first} h =
    let a = went (type_at s at) _ h in
    let b = went (type_at s a.place) _ a.on in
    let d = went (count_at c (least_size a.value + least_size b.value) s b.place) _ b.on in
    let x = part_length (type_is s at a.gave).part in
    let y = part_length (type_is s a.place b.gave).part in
    let z = count_from c (least_size a.value + least_size b.value) s b.place d.gave in
    let last : first ≡ d.place = cc d.on in
    omega arith
