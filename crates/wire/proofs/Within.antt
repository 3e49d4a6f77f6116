-- What an accepted `within` tells, and the item at a place. Assumes nothing.
use mathlib.Core.Path.{◌≡◌}
use mathlib.Core.List.{List}
use Prim.Native.Nat.{ℕ, ◌+◌, ◌-◌, ◌≤◌}
use native.Mathlib.Omega.{arith}
use borrow.Author.Tests.{le-ltb, ltb-false}
use lib.Dec.{ltb}
use lib.ListN.{length, take, drop}
use Rattle.wire.specs.Answer.{gives, refused, refuse_if, and_then, within, item_at}
use Rattle.wire.proofs.Answers.{passed}

-- so many bytes lie inside, and the place after them is as many on
pub record Inside (s : List ℕ) (at w p : ℕ) : Type 0 where
  pub room : at + w ≤ length s
  pub next : p ≡ at + w

module _ (s : List ℕ) (at w : ℕ) where
  pub whole : at ≤ length s → w ≤ length s - at → gives tt (at + w) ≡ within s at w
  unfolding within refuse_if
  whole h i = simp (le-ltb _ _ h, le-ltb _ _ i)

  pub inside : {p : ℕ} → gives tt p ≡ within s at w → Inside s at w p
  unfolding within
  inside {p} e =
      let a = passed (ltb (length s) at) 2 at _ e in
      let b = passed (ltb (length s - at) w) 1 at (gives tt (at + w)) a.gave in
      record { room = omega (arith, ltb-false (length s) at a.test, ltb-false (length s - at) w b.test); next = cc b.gave }

  -- the item itself
  pub no_item : {n p : ℕ} → refused n p ≡ within s at w → refused n p ≡ item_at s at w
  unfolding item_at and_then
  no_item e = rw (← e)

  pub item_there : {p : ℕ} {bs : List ℕ} → gives tt p ≡ within s at w → bs ≡ take w (drop at s) → gives bs p ≡ item_at s at w
  unfolding item_at and_then
  item_there e h = rw (h, ← e)
