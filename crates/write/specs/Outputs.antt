-- What bytes, strings and names put down, or the fault of their own that keeps them from it. "Checks: 2, 20, 16, 17, 13, 11 or 14, 15": 2 and 15
-- are `write_at`'s, 17 a field's and a map's (write_headers), 20, 11 and 14 those of struct begin and end, which put down nothing.
use Rattle.std.specs.Prelude.{ℕ, Bool, true, false, List, [], ◌∷◌, ltb, length, ℤ, Float}
use Rattle.std.specs.Float.{binary64}
use Rattle.std.specs.Float.Ieee.{to_bits}
use Rattle.std.specs.Int.{w8, w16, w32, w64}
use Rattle.std.proofs.Common.{of_z}
use Rattle.wire.specs.Answer.{Answer, gives, entry_of}
use Rattle.wire.specs.Writes.{Output, puts, fail_if, unless_fails, put_at, write_at}
use Rattle.number.specs.BigEndian.{bytes_of}
use Rattle.utf8.specs.UpTo.{not_utf8}
use Rattle.text.specs.Texts.{sized_layout}

-- "A bool writes 0 or 1"
abbrev pub bool_byte : Bool → ℕ
bool_byte true = 1
bool_byte false = 0

-- "a name, text or frame payload to write is longer than 2,147,483,647 bytes"
abbrev pub too_long : List ℕ → Bool
too_long b = ltb 2147483647 (length b)

unfoldable pub bytes_output : List ℕ → ℕ → Output
bytes_output b at = fail_if (too_long b) 16 at (puts (sized_layout b))

-- bytes with a name among them, a string or a message's header. "Names and strings must be UTF-8": else 13, "for writers 0, counted in the name"
unfoldable pub named_output : List ℕ → List ℕ → ℕ → Output
named_output name bs at =
    fail_if (too_long name) 16 at
    (fail_if (not_utf8 name) 13 0
    (puts bs))

-- what is judged of a name before room is asked: 2 in a buffer of n bytes, then the faults of an output with that name
unfoldable pub name_checked : ℕ → ℕ → List ℕ → Answer Unit
name_checked n at name = entry_of n at (unless_fails (named_output name [] at) λ _. gives tt at)

-- What each writer of a value comes to, in a buffer at a place: "All numbers are big-endian, signed ones two's complement", by their bits (`of_z`)
abbrev pub byte_write : ℕ → List ℕ → ℕ → Answer (List ℕ)
byte_write b out at = put_at (b ∷ []) out at

abbrev pub bool_write : Bool → List ℕ → ℕ → Answer (List ℕ)
bool_write b out at = put_at (bool_byte b ∷ []) out at

abbrev pub i8_write : ℤ → List ℕ → ℕ → Answer (List ℕ)
i8_write v out at = put_at (bytes_of 1 (of_z w8 v)) out at

abbrev pub i16_write : ℤ → List ℕ → ℕ → Answer (List ℕ)
i16_write v out at = put_at (bytes_of 2 (of_z w16 v)) out at

abbrev pub i32_write : ℤ → List ℕ → ℕ → Answer (List ℕ)
i32_write v out at = put_at (bytes_of 4 (of_z w32 v)) out at

abbrev pub i64_write : ℤ → List ℕ → ℕ → Answer (List ℕ)
i64_write v out at = put_at (bytes_of 8 (of_z w64 v)) out at

-- a double by its pattern (`to_bits`)
abbrev pub double_write : Float → List ℕ → ℕ → Answer (List ℕ)
double_write x out at = put_at (bytes_of 8 (to_bits binary64 x)) out at

-- "A UUID is written from 16 bytes by value"
abbrev pub uuid_write : List ℕ → List ℕ → ℕ → Answer (List ℕ)
uuid_write id out at = put_at id out at

abbrev pub bytes_write : List ℕ → List ℕ → ℕ → Answer (List ℕ)
bytes_write b out at = write_at (bytes_output b at) out at

abbrev pub string_write : List ℕ → List ℕ → ℕ → Answer (List ℕ)
string_write b out at = write_at (named_output b (sized_layout b) at) out at
