-- What the bytes of a tree say to the headers of `read`: where the bytes of a header stand, the read gives that header. Assumes nothing.
use Rattle.std.specs.Prelude.{Option}
use Prim.Native.Nat.{ℕ, ◌+◌, ◌<◌, zero-le}
use mathlib.Core.Path.{◌≡◌, refl, sym, ap, ◌∙◌}
use mathlib.Core.Bool.{false}
use mathlib.Core.List.{List, [], ◌∷◌}
use lib.IntN.{ℤ, pos}
use lib.ListN.{length}
use mir.Syntax.{w16, w32}
use mir.Val.{to_z}
use mir.ValLaws.{to_z_pos}
use native.Mathlib.Nat.{mod-eq_of_lt}
use native.Mathlib.Omega.{arith}
use borrow.Author.Tests.{le-ltb}
use Rattle.wire.specs.Answer.{gives}
use Rattle.codes.specs.Codes.{type_byte, is_stop, least_size}
use Rattle.codes.specs.declared.TType.{TType}
use Rattle.codes.specs.declared.TType.TheVariants as T
use Rattle.number.specs.BigEndian.{big, bytes_of}
use Rattle.number.specs.Reads.{byte_at, i32_at}
use Rattle.number.proofs.Widths.{written, length-bytes_of}
use Rattle.config.specs.Limits.{above}
use Rattle.config.specs.declared.configuration.TConfiguration.{TConfiguration}
use Rattle.text.specs.Texts.{span, sized_layout, size_at, sized_at, bytes_at}
use Rattle.text.proofs.Texts as texts
use Rattle.text.specs.declared.Body.{Body}
use Rattle.text.specs.declared.Body.TheVariants as BodyOf
use Rattle.read.specs.Headers.{type_at, field, field_at, count_at, list, list_at, map, map_at}
use Rattle.read.proofs.Headers as headers
use Rattle.tree.specs.Part.{Part}
use Rattle.tree.specs.Sizes.{LengthFits, SizeFits}
use Rattle.tree.proofs.Parts.{part_length, part_split}
use Rattle.tree.proofs.Reading.{part_within, number_reads}
use Rattle.binary.specs.Layouts.{Readable}

pub type_reads : {s : List ℕ} {at e : ℕ} (t : TType) → Readable t → Part s at e (type_byte t ∷ []) → gives t e ≡ type_at s at
unfolding big
type_reads {s} {at} {e} t r p =
    let byte : gives (type_byte t) e ≡ byte_at s at = ap (λ (n : ℕ). gives n e) (omega arith) ∙ number_reads (type_byte t ∷ []) 1 (λ (n : ℕ). n) refl p in
    headers.type_known s at byte r

pub size_reads : {s : List ℕ} {at e : ℕ} (n : ℕ) → n < 2147483648 → Part s at e (bytes_of 4 n) → gives n e ≡ size_at s at
size_reads {s} {at} {e} n h p =
    let same : big (bytes_of 4 n) ≡ n = written 4 n ∙ mod-eq_of_lt (omega arith) in
    let value : to_z w32 (big (bytes_of 4 n)) ≡ pos n = ap (to_z w32) same ∙ to_z_pos w32 n h in
    let read : gives (pos n) e ≡ i32_at s at = ap (λ (z : ℤ). gives z e) (sym value) ∙ number_reads (bytes_of 4 n) 4 (to_z w32) (length-bytes_of 4 n) p in
    texts.size s at read (le-ltb n 0 zero-le)

-- a size and its bytes, with any number for the limit
pub sized_reads : {s : List ℕ} {at e : ℕ} (body : Body) (limit : Option ℕ) (b : List ℕ) → length b < 2147483648 → above (length b) limit ≡ false
    → Part s at e (sized_layout b) → gives (span (at + 4) e) e ≡ sized_at body limit s at
sized_reads {s} {at} {e} body limit b f g p =
    let sp = part_split (bytes_of 4 (length b)) b p in
    let l = part_length sp.left in
    let mid : sp.mid ≡ at + 4 = omega (arith, length-bytes_of 4 (length b), l) in
    let size = texts.limited body limit s at (size_reads (length b) f sp.left) g in
    ap (λ (k : ℕ). gives (span k e) e) (sym mid)
    ∙ texts.whole body limit s at size (part_within b (length b) refl sp.right)

pub text_reads : {s : List ℕ} {at e : ℕ} (c : TConfiguration) (b : List ℕ) → LengthFits c (length b) → Part s at e (sized_layout b)
    → gives (span (at + 4) e) e ≡ bytes_at c.max_string_size s at
text_reads c b f p = sized_reads BodyOf.Text c.max_string_size b f.not_negative f.string p

pub count_reads : {s : List ℕ} {at e : ℕ} (c : TConfiguration) (least n : ℕ) → SizeFits c least n → Part s at e (bytes_of 4 n)
    → gives n e ≡ count_at c least s at
count_reads {s} {at} {e} c least n f p = headers.count c least s at (size_reads n f.not_negative p) f.container f.message

pub list_reads : {s : List ℕ} {at e : ℕ} (c : TConfiguration) (t : TType) (n : ℕ) → Readable t → SizeFits c (least_size t) n
    → Part s at e (type_byte t ∷ bytes_of 4 n) → gives (list t n) e ≡ list_at c s at
list_reads {s} {at} {e} c t n r f p =
    let sp = part_split (type_byte t ∷ []) (bytes_of 4 n) p in
    headers.a_list c s at (type_reads t r sp.left) (count_reads c (least_size t) n f sp.right)

pub map_reads : {s : List ℕ} {at e : ℕ} (c : TConfiguration) (k v : TType) (n : ℕ) → Readable k → Readable v → SizeFits c (least_size k + least_size v) n
    → Part s at e (type_byte k ∷ type_byte v ∷ bytes_of 4 n) → gives (map k v n) e ≡ map_at c s at
map_reads {s} {at} {e} c k v n rk rv f p =
    let sp = part_split (type_byte k ∷ []) (type_byte v ∷ bytes_of 4 n) p in
    let sq = part_split (type_byte v ∷ []) (bytes_of 4 n) sp.right in
    headers.a_map c s at (type_reads k rk sp.left) (type_reads v rv sq.left) (count_reads c (least_size k + least_size v) n f sq.right)

pub field_reads : {s : List ℕ} {at e : ℕ} (t : TType) (id : List ℕ) → Readable t → is_stop t ≡ false → length id ≡ 2 → Part s at e (type_byte t ∷ id)
    → gives (field t (to_z w16 (big id))) e ≡ field_at s at
field_reads {s} {at} {e} t id r g h p =
    let sp = part_split (type_byte t ∷ []) id p in
    headers.with_id s at (type_reads t r sp.left) g (number_reads id 2 (to_z w16) h sp.right)

pub stop_reads : {s : List ℕ} {at e : ℕ} → Part s at e (type_byte T.Stop ∷ []) → gives (field T.Stop (pos 0)) e ≡ field_at s at
stop_reads {s} {at} p = headers.stop s at (type_reads T.Stop refl p) refl
