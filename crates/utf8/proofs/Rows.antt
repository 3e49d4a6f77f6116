-- Rows of ranges, and the bytes that fit them. Assumes nothing.
use Prim.Native.Nat.{ℕ, zero, suc, ◌≤◌, zero-le, suc-le-suc}
use mathlib.Core.Path.{◌≡◌, refl, ap}
use mathlib.Core.Bool.{true, ◌&&◌, and-eq-true_iff, false≢true}
use mathlib.Core.List.{List, [], ◌∷◌, ◌++◌}
use native.Mathlib.Omega.{arith}
use borrow.Author.Tests.{leb-true, le-leb, lt-leb}
use lib.Dec.{leb}
use lib.ListN.{length, take, get_or}
use Rattle.utf8.specs.UpTo.{fits, width}

-- a least and a greatest value for each byte
abbrev pub Row : Type 0
Row = List (ℕ × ℕ)

pub room : (row : Row) (l : List ℕ) → fits row l ≡ true → length row ≤ length l
unfolding fits
room [] l e = zero-le
room (r ∷ row) [] e = absurd (false≢true e)
room (r ∷ row) (b ∷ l) e = suc-le-suc (room row l ((and-eq-true_iff (leb r.0 b && leb b r.1) (fits row l)).0 e).1)

-- ---- what holds of all bytes that fit a row

abbrev pub All : Row → (List ℕ → Type 0) → Type 0
All [] P = P []
All (r ∷ row) P = (b : ℕ) → r.0 ≤ b → b ≤ r.1 → All row (λ c. P (b ∷ c))

map_all : (row : Row) (P Q : List ℕ → Type 0) → ((c : List ℕ) → P c → Q c) → All row P → All row Q
map_all [] P Q f a = f [] a
map_all (r ∷ row) P Q f a = λ b p q. map_all row (λ c. P (b ∷ c)) (λ c. Q (b ∷ c)) (λ c. f (b ∷ c)) (a b p q)

-- of the bytes at the front of a list
pub fitting : (row : Row) (P : List ℕ → Type 0) → All row P → (l : List ℕ) → fits row l ≡ true → P (take (length row) l)
unfolding fits
fitting [] P a l e = a
fitting (r ∷ row) P a [] e = absurd (false≢true e)
fitting (r ∷ row) P a (b ∷ l) e =
    let x = (and-eq-true_iff (leb r.0 b && leb b r.1) (fits row l)).0 e in
    let y = (and-eq-true_iff (leb r.0 b) (leb b r.1)).0 x.0 in
    fitting row (λ c. P (b ∷ c)) (a b (leb-true _ _ y.0) (leb-true _ _ y.1)) l x.1

-- the other way: such bytes fit, whatever follows
fit : (row : Row) (m : List ℕ) → All row (λ c. (fits row (c ++ m) ≡ true) × (length row ≡ length c))
unfolding fits
fit [] m = (refl, refl)
fit (r ∷ row) m = λ b p q. map_all row _ _ (λ c e. (rw (le-leb _ _ p, le-leb _ _ q, e.0), ap suc e.1)) (fit row m)

-- ---- a table whose rows' first bytes ascend, from n on: bytes that fit its row i are found to have the width of that row

abbrev pub Ascending : ℕ → List Row → Type 0
Ascending n [] = Unit
Ascending n ([] ∷ rows) = ⊥
Ascending n ((r ∷ row) ∷ rows) = (n ≤ r.0) × (r.0 ≤ r.1) × Ascending (suc r.1) rows

abbrev pub Found : ℕ → List Row → List ℕ → Row → Type 0
Found n rows m [] = Unit
Found n rows m (r ∷ row) = (n ≤ r.0) × All (r ∷ row) (λ c. width rows (c ++ m) ≡ length c)

pub found : (n : ℕ) (rows : List Row) → Ascending n rows → (m : List ℕ) (i : ℕ) → Found n rows m (get_or rows i [])
unfolding width fits
found n [] u m i = tt
found n ([] ∷ rows) u m i = absurd u
found n ((r ∷ row) ∷ rows) u m zero = (u.0, λ a p q. map_all row _ _ (λ c e. rw (le-leb _ _ p, le-leb _ _ q, e.0) (ap suc e.1)) (fit row m))
found n ((r ∷ row) ∷ rows) u m (suc i) = later (get_or rows i []) (found (suc r.1) rows u.2 m i)
  where
    later : (x : Row) → Found (suc r.1) rows m x → Found n ((r ∷ row) ∷ rows) m x
    later [] f = tt
    later (x ∷ xs) f =
        (omega arith, λ a p q. map_all xs _ _ (λ c e. rw (le-leb r.0 a (omega arith), lt-leb a r.1 (omega arith)) e) (f.1 a p q))
