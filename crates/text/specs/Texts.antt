-- Texts: "32-bit length; 1, 6, 7, then body 1. Names and strings then 13; bytes don't."
use Rattle.std.specs.Prelude.{ℕ, ◌-◌, cond, List, [], ◌++◌, ltb, length, take, drop, pos, nat_abs, Option}
use Rattle.std.specs.Int.Signed.{lt_z}
use Rattle.wire.specs.Answer.{Answer, gives, refused, refuse_if, and_then, within}
use Rattle.number.specs.BigEndian.{bytes_of}
use Rattle.number.specs.Reads.{i32_at}
use Rattle.config.specs.Limits.{above}
use Rattle.utf8.specs.UpTo.{not_utf8}
use Rattle.text.specs.declared.Span.{Span}
use Rattle.text.specs.declared.Body.{Body}
use Rattle.text.specs.declared.Body.TheVariants as BodyOf

abbrev pub span : ℕ → ℕ → Span
span a e = record { start = a; end = e }

-- Apache's layout of a size and as many bytes: the length in four bytes, then the bytes
abbrev pub sized_layout : List ℕ → List ℕ
sized_layout b = bytes_of 4 (length b) ++ b

-- a size of 32 bits: 1, then 6 where it is negative; past that it is a natural number
unfoldable pub size_at : List ℕ → ℕ → Answer ℕ
size_at s at =
    and_then (i32_at s at) λ size next.
    refuse_if (lt_z size (pos 0)) 6 at (gives (nat_abs size) next)

-- what a size above its limit is refused by: a text's, a frame's
abbrev pub over_number : Body → ℕ
over_number BodyOf.Text = 7
over_number BodyOf.Frame = 18

-- a size within its limit, for what it counts the bytes of
unfoldable pub limited_at : Body → Option ℕ → List ℕ → ℕ → Answer ℕ
limited_at body limit s at =
    and_then (size_at s at) λ size next.
    refuse_if (above size limit) (over_number body) at (gives size next)

-- such a size, then as many bytes; what is given is where they stand
unfoldable pub sized_at : Body → Option ℕ → List ℕ → ℕ → Answer Span
sized_at body limit s at =
    and_then (limited_at body limit s at) λ size first.
    and_then (within s first size) λ _ end.
    gives (span first end) end

-- the bytes that a span marks: none where it ends outside, nor where it ends before it starts, as that leaves none to take
unfoldable pub part_marked : List ℕ → Span → List ℕ
part_marked s p = cond (ltb (length s) p.end) [] (take (p.end - p.start) (drop p.start s))

-- the bytes that a read found: none where it refuses
abbrev pub part_found : List ℕ → Answer Span → List ℕ
part_found s (gives p next) = part_marked s p
part_found s (refused n p) = []

-- bytes: no more than that
abbrev pub bytes_at : Option ℕ → List ℕ → ℕ → Answer Span
bytes_at = sized_at BodyOf.Text

-- names and strings: then 13, at the text's first byte, where it is not UTF-8 to its end
unfoldable pub string_at : Option ℕ → List ℕ → ℕ → Answer Span
string_at limit s at =
    and_then (bytes_at limit s at) λ text next.
    refuse_if (not_utf8 (part_marked s text)) 13 text.start
    (gives text next)

-- a UUID: sixteen bytes, one item
unfoldable pub uuid_at : List ℕ → ℕ → Answer Span
uuid_at s at = and_then (within s at 16) λ _ end. gives (span at end) end
