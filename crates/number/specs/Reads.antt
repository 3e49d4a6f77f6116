-- What reading a number at a place answers.
use Rattle.std.specs.Prelude.{ℕ, Bool, not, List, eqb, ℤ, Float}
use Rattle.std.specs.Float.{binary64}
use Rattle.std.specs.Float.Ieee.{of_bits}
use Rattle.std.specs.Int.{w8, w16, w32, w64}
use Rattle.std.proofs.Common.{to_z}
use Rattle.wire.specs.Answer.{Answer, gives, and_then, item_at}
use Rattle.number.specs.BigEndian.{big}

-- an item of w bytes, whose number stands for a value as f says
unfoldable pub number_at : {A : Type 0} → ℕ → (ℕ → A) → List ℕ → ℕ → Answer A
number_at w f s at = and_then (item_at s at w) (λ bs next. gives (f (big bs)) next)

abbrev pub byte_at : List ℕ → ℕ → Answer ℕ
byte_at = number_at 1 (λ n. n)

-- "0 is false, every other byte true"
abbrev pub bool_at : List ℕ → ℕ → Answer Bool
bool_at = number_at 1 (λ n. not (eqb n 0))

-- "signed ones two's complement": `to_z w` is the two's complement number of w bits
abbrev pub i8_at : List ℕ → ℕ → Answer ℤ
i8_at = number_at 1 (to_z w8)

abbrev pub i16_at : List ℕ → ℕ → Answer ℤ
i16_at = number_at 2 (to_z w16)

abbrev pub i32_at : List ℕ → ℕ → Answer ℤ
i32_at = number_at 4 (to_z w32)

abbrev pub i64_at : List ℕ → ℕ → Answer ℤ
i64_at = number_at 8 (to_z w64)

-- a double "is judged by its eight bytes' pattern": `of_bits binary64` is the float of a pattern, each NaN's pattern the one NaN
abbrev pub double_at : List ℕ → ℕ → Answer Float
double_at = number_at 8 (of_bits binary64)
