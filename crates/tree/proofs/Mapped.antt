-- What an answer was of which something is seen. Assumes nothing.
use Prim.Native.Nat.{ℕ}
use mathlib.Core.Path.{◌≡◌, ap}
use Rattle.wire.specs.Answer.{Answer, gives, refused, mapped}
use Rattle.tree.proofs.Heads.{clash}

pub record Mapped {A B : Type 0} (f : A → B) (m : Answer A) (w : B) (q : ℕ) : Type 0 where
  pub value : A
  pub gave : gives value q ≡ m
  pub seen : w ≡ f value

pub unmapped : {A B : Type 0} (f : A → B) (m : Answer A) {w : B} {q : ℕ} → gives w q ≡ mapped f m → Mapped f m w q
unmapped f (gives v p) {w} {q} e = let place : q ≡ p = cc in record { value = v; gave = ap (gives v) place; seen = cc }
unmapped f (refused n p) e = clash (cc)

pub mapped_gives : {A B : Type 0} (f : A → B) {m : Answer A} {v : A} {q : ℕ} → gives v q ≡ m → gives (f v) q ≡ mapped f m
mapped_gives f e = ap (mapped f) e
