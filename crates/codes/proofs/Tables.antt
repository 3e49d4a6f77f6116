-- A table of what each number from 0 on stands for: an entry, a rule that holds of all of them, and a match that names each. Assumes nothing.
use Prim.Native.Nat.{ℕ, zero, suc, ◌+◌}
use mathlib.Core.Path.{◌≡◌, refl}
use mathlib.Core.Bool.{Bool, true, false, true≢false}
use mathlib.Core.List.{List, [], ◌∷◌}
use native.Mathlib.Nat.{add-zero, add-suc, suc-add}
use native.Mathlib.Omega.{arith}
use Rattle.std.specs.Prelude.{Option, Some, None, is_some}
use lib.ListN.{get_or}

-- the rule, said of each entry from k on
abbrev pub Each : {A : Type 0} → (ℕ → A → Type 0) → ℕ → List A → Type 0
Each rule k [] = Unit
Each rule k (a ∷ l) = rule k a × Each rule (suc k) l

-- a rule of each entry, and of what stands past the end, holds at every number
pub entry : {A : Type 0} (rule : ℕ → A → Type 0) (k : ℕ) (l : List A) (d : A) → Each rule k l → ((n : ℕ) → rule n d) → (i : ℕ)
    → rule (k + i) (get_or l i d)
entry rule k [] d e p i = p (k + i)
entry rule k (a ∷ l) d e p zero = rw add-zero e.0
entry rule k (a ∷ l) d e p (suc i) = rw (add-suc, ← suc-add) (entry rule (suc k) l d e.1 p i)

-- ---- a `match` with an arm for the number of each entry that stands for something, and a last one

abbrev also : Bool → Type 0 → Type 0 → Type 0
also true N M = N × M
also false N M = N

also_before : (x : Bool) (N M : Type 0) → also x N M → N
also_before true N M h = h.0
also_before false N M h = h

module _ {A : Type 0} (stands : A → Bool) (nothing : A) (plain : (a : A) → stands a ≡ false → nothing ≡ a) where
  -- what the last arm knows, besides N: that the number is none of theirs
  abbrev pub Missed : Type 0 → ℕ → List A → ℕ → Type 0
  Missed N k [] b = N
  Missed N k (a ∷ l) b = Missed (also (stands a) N (b ≡ k → ⊥)) (suc k) l b

  missed_before : (N : Type 0) (k : ℕ) (l : List A) (b : ℕ) → Missed N k l b → N
  missed_before N k [] b h = h
  missed_before N k (a ∷ l) b h = also_before (stands a) N (b ≡ k → ⊥) (missed_before (also (stands a) N (b ≡ k → ⊥)) (suc k) l b h)

  missed_from : (N : Type 0) (k : ℕ) (l : List A) (i b : ℕ) → b ≡ k + i → Missed N k l b → nothing ≡ get_or l i nothing
  missed_from N k [] i b e h = refl
  missed_from N k (a ∷ l) zero b e h = here (stands a) refl (missed_before (also (stands a) N (b ≡ k → ⊥)) (suc k) l b h)
    where
      here : (x : Bool) → stands a ≡ x → also x N (b ≡ k → ⊥) → nothing ≡ a
      here true f m = absurd (m.1 (omega (arith, e)))
      here false f m = plain a f
  missed_from N k (a ∷ l) (suc i) b e h = missed_from (also (stands a) N (b ≡ k → ⊥)) (suc k) l i b (omega (arith, e)) h

  pub missed : (l : List A) (b : ℕ) → Missed Unit 0 l b → nothing ≡ get_or l b nothing
  missed l b h = missed_from Unit 0 l b b (omega arith) h

-- the same where None stands for nothing
pub none_is : {A : Type 0} (a : Option A) → is_some a ≡ false → None ≡ a
none_is (Some a) e = absurd (true≢false e)
none_is None e = refl

pub missed_none : {A : Type 0} (l : List (Option A)) (b : ℕ) → Missed is_some None none_is Unit 0 l b → None ≡ get_or l b None
missed_none = missed is_some None none_is
