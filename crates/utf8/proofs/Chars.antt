-- The table's rows are the characters: bytes that fit a row are one, and a character's bytes fit a row. Assumes nothing.
use Prim.Native.Nat.{ℕ, ◌+◌, ◌*◌, ◌-◌, ◌<◌, ◌≤◌, zero-le}
use mathlib.Core.Path.{◌≡◌, refl}
use mathlib.Core.Bool.{Bool, true, false, cond}
use mathlib.Core.List.{List, [], ◌∷◌, ◌++◌}
use native.Mathlib.Decide.{dec_lt}
use native.Mathlib.Omega.{arith}
use borrow.Author.Rules.{rules}
use lib.ListN.{length, take, get_or}
use Rattle.utf8.specs.Utf8.{Char}
use Rattle.utf8.specs.Utf8.Char.{one, two, three_low, three_high, four}
use Rattle.utf8.specs.UpTo.{table, fits, width}
use Rattle.utf8.proofs.Rows.{Row, All, fitting, room, Ascending, Found, found}

infixr 20 ◌and◌
-- a claim of each row
abbrev Each : (Row → Type 0) → List Row → Type 0
Each P [] = Unit
Each P (row ∷ rows) = P row × Each P rows

abbrev ◌and◌ : {A B : Type 0} → A → B → A × B
a and b = (a, b)

-- the number that two, three and four bytes stand for
abbrev n₂ : ℕ → ℕ → ℕ
n₂ a b = (a - 0xC0) * 64 + (b - 0x80)

abbrev n₃ : ℕ → ℕ → ℕ → ℕ
n₃ a b c = (a - 0xE0) * 4096 + (b - 0x80) * 64 + (c - 0x80)

abbrev n₄ : ℕ → ℕ → ℕ → ℕ → ℕ
n₄ a b c d = (a - 0xF0) * 262144 + (b - 0x80) * 4096 + (c - 0x80) * 64 + (d - 0x80)

rows_are_chars : Each (λ row. All row Char) table
unfolding table
rows_are_chars =
    (λ a p q. one (omega arith))
    and (λ a p q b r s. two (n₂ a b) (omega arith) (omega arith) (omega arith) (omega arith))
    and (λ a p q b r s c t u. three_low (n₃ a b c) (omega arith) (omega arith) (omega arith) (omega arith) (omega arith))
    and (λ a p q b r s c t u. three_low (n₃ a b c) (omega arith) (omega arith) (omega arith) (omega arith) (omega arith))
    and (λ a p q b r s c t u. three_low (n₃ a b c) (omega arith) (omega arith) (omega arith) (omega arith) (omega arith))
    and (λ a p q b r s c t u. three_high (n₃ a b c) (omega arith) (omega arith) (omega arith) (omega arith) (omega arith))
    and (λ a p q b r s c t u d v w. four (n₄ a b c d) (omega arith) (omega arith) (omega arith) (omega arith) (omega arith) (omega arith))
    and (λ a p q b r s c t u d v w. four (n₄ a b c d) (omega arith) (omega arith) (omega arith) (omega arith) (omega arith) (omega arith))
    and (λ a p q b r s c t u d v w. four (n₄ a b c d) (omega arith) (omega arith) (omega arith) (omega arith) (omega arith) (omega arith))
    and tt

-- what a width tells of the front of l: so many bytes are there, and they are a character, or it is 0
abbrev pub Stands : List ℕ → ℕ → Type 0
Stands l w = (w ≤ length l) × ((w ≡ 0 → ⊥) → Char (take w l))

stands_by : (rows : List Row) → Each (λ row. All row Char) rows → (l : List ℕ) → Stands l (width rows l)
unfolding width
stands_by [] e l = (zero-le, λ n. absurd (n refl))
stands_by (row ∷ rows) e l = go (fits row l) refl (stands_by rows e.1 l)
  where
    go : (t : Bool) → fits row l ≡ t → Stands l (width rows l) → Stands l (cond t (length row) (width rows l))
    go true f on = (room row l f, λ n. fitting row Char e.0 l f)
    go false f on = on

pub stands : (l : List ℕ) → Stands l (width table l)
stands = stands_by table rows_are_chars

ascending : Ascending 0 table
unfolding table
ascending = search rules

-- a claim is shown on either side of a test
by_test : {P : Type 0} (m n : ℕ) → (m < n → P) → (n ≤ m → P) → P
by_test {P} m n below on = go (dec_lt m n)
  where
    go : Dec (m < n) → P
    go (yes h) = below h
    go (no h) = on (omega arith)

-- the other way: a character is found, whatever follows it
row : (m : List ℕ) (i : ℕ) → Found 0 table m (get_or table i [])
row m i = found 0 table ascending m i

pub found_char : {c : List ℕ} (m : List ℕ) → Char c → width table (c ++ m) ≡ length c
unfolding table
found_char m (one {a} h) = (row m 0).1 a (omega arith) (omega arith)
found_char m (two n {a} {b} l h x y) = (row m 1).1 a (omega arith) (omega arith) b (omega arith) (omega arith)
found_char m (three_low n {a} {b} {c} l h x y z) =
    by_test n 0x1000 (λ p. (row m 2).1 a (omega arith) (omega arith) b (omega arith) (omega arith) c (omega arith) (omega arith)) λ p.
    by_test n 0xD000 (λ q. (row m 3).1 a (omega arith) (omega arith) b (omega arith) (omega arith) c (omega arith) (omega arith)) λ q.
    (row m 4).1 a (omega arith) (omega arith) b (omega arith) (omega arith) c (omega arith) (omega arith)
found_char m (three_high n {a} {b} {c} l h x y z) = (row m 5).1 a (omega arith) (omega arith) b (omega arith) (omega arith) c (omega arith) (omega arith)
found_char m (four n {a} {b} {c} {d} l h x y z w) =
    by_test n 0x40000 (λ p. (row m 6).1 a (omega arith) (omega arith) b (omega arith) (omega arith) c (omega arith) (omega arith) d (omega arith) (omega arith)) λ p.
    by_test n 0x100000 (λ q. (row m 7).1 a (omega arith) (omega arith) b (omega arith) (omega arith) c (omega arith) (omega arith) d (omega arith) (omega arith)) λ q.
    (row m 8).1 a (omega arith) (omega arith) b (omega arith) (omega arith) c (omega arith) (omega arith) d (omega arith) (omega arith)

-- a character has bytes
pub some : (c : List ℕ) → Char c → 0 < length c
unfolding width fits table
some [] h = let e : width table (0 ∷ []) ≡ 0 = found_char (0 ∷ []) h in omega arith
some (b ∷ c) h = omega arith
