-- A refusal never lies before the place where its read begins. Assumes nothing.
use Prim.Native.Nat.{ℕ, ◌+◌, ◌≤◌}
use mathlib.Core.Path.{◌≡◌, refl}
use mathlib.Core.Bool.{Bool, true, false}
use mathlib.Core.List.{List}
use native.Mathlib.Nat.{le_trans}
use native.Mathlib.Omega.{arith}
use Rattle.wire.specs.Answer.{Answer, gives, refused, refuse_if, and_then, mapped, within, item_at}
use Rattle.number.specs.Reads.{number_at}
use Rattle.config.specs.declared.configuration.TConfiguration.{TConfiguration}
use Rattle.nesting.specs.Structs.{struct_begin_at}
use Rattle.tree.proofs.Heads.{clash}

-- an answer whose refusals lie at a place or behind it
abbrev pub Later : {A : Type 0} → ℕ → Answer A → Type 0
Later at m = (n p : ℕ) → refused n p ≡ m → at ≤ p

pub here_later : {A : Type 0} (n at : ℕ) → Later {A = A} at (refused n at)
here_later n at k p e = let same : p ≡ at = cc in omega arith

pub gives_later : {A : Type 0} (v : A) (q at : ℕ) → Later at (gives v q)
gives_later v q at n p e = clash (cc)

pub behind : {A : Type 0} {a b : ℕ} {m : Answer A} → a ≤ b → Later b m → Later a m
behind h l n p e = le_trans h (l n p e)

pub if_later : {A : Type 0} (b : Bool) (k at : ℕ) (rest : Answer A) → Later at rest → Later at (refuse_if b k at rest)
unfolding refuse_if
if_later true k at rest l = here_later k at
if_later false k at rest l = l

pub then_later : {A B : Type 0} (at : ℕ) (m : Answer A) (rest : A → ℕ → Answer B) → Later at m
    → ((v : A) (q : ℕ) → gives v q ≡ m → Later at (rest v q)) → Later at (and_then m rest)
unfolding and_then
then_later at (gives v q) rest l on = on v q refl
then_later at (refused k q) rest l on = λ n p e. l n p (cc)

pub mapped_later : {A B : Type 0} (f : A → B) (at : ℕ) (m : Answer A) → Later at m → Later at (mapped f m)
mapped_later f at (gives v q) l = gives_later (f v) q at
mapped_later f at (refused k q) l = λ n p e. l n p (cc)

module _ (s : List ℕ) where
  pub within_later : (at w : ℕ) → Later at (within s at w)
  unfolding within
  within_later at w = if_later _ 2 at _ (if_later _ 1 at _ (gives_later tt (at + w) at))

  pub number_later : {A : Type 0} (w : ℕ) (f : ℕ → A) (at : ℕ) → Later at (number_at w f s at)
  unfolding number_at item_at
  number_later w f at =
      then_later at (item_at s at w) _ (then_later at (within s at w) _ (within_later at w) (λ v q e. gives_later _ q at)) (λ v q e. gives_later _ q at)

  pub struct_later : (c : TConfiguration) (sd at : ℕ) → Later at (struct_begin_at c.max_recursion_depth sd s at)
  unfolding struct_begin_at
  struct_later c sd at = if_later _ 2 at _ (if_later _ 20 at _ (if_later _ 11 at _ (if_later _ 11 at _ (gives_later (sd + 1) at at))))
