-- Laws of the answers: a test that fails, a test that holds, a step after another, and what a given answer tells. Assumes nothing.
use mathlib.Core.Path.{◌≡◌, refl, sym, ◌∙◌, ap}
use mathlib.Core.Bool.{Bool, true, false}
use Prim.Native.Nat.{ℕ}
use native.Mathlib.Omega.{arith}
use Rattle.wire.specs.Answer.{Answer, gives, refused, refuse_if, and_then}

pub refuses : {A : Type 0} (b : Bool) (n p : ℕ) (rest : Answer A) → b ≡ true → refuse_if b n p rest ≡ refused n p
unfolding refuse_if
refuses true n p rest e = refl
refuses false n p rest e = cc

pub passes : {A : Type 0} (b : Bool) (n p : ℕ) (rest : Answer A) → b ≡ false → refuse_if b n p rest ≡ rest
unfolding refuse_if
passes true n p rest e = cc
passes false n p rest e = refl

-- an answer that gives has passed the test
pub record Passed {A : Type 0} (b : Bool) (v : A) (q : ℕ) (rest : Answer A) : Type 0 where
  pub test : b ≡ false
  pub gave : gives v q ≡ rest

pub passed : {A : Type 0} (b : Bool) (n p : ℕ) {v : A} {q : ℕ} (rest : Answer A) → gives v q ≡ refuse_if b n p rest → Passed b v q rest
unfolding refuse_if
passed true n p rest e = let z : ◌≡◌ {A = ℕ} 0 1 = cc in absurd (omega arith)
passed false n p rest e = record { test = refl; gave = e }

-- the first fault is the answer
pub first_fault : {A B : Type 0} {m : Answer A} {n p : ℕ} (rest : A → ℕ → Answer B) → refused n p ≡ m → refused n p ≡ and_then m rest
unfolding and_then
first_fault rest e = rw (← e)

-- what was given goes on
pub goes_on : {A B : Type 0} {m : Answer A} {v : A} {p : ℕ} (rest : A → ℕ → Answer B) → gives v p ≡ m → rest v p ≡ and_then m rest
unfolding and_then
goes_on rest e = rw (← e)

-- what an answer tells, where it is known
pub told_as : {E A : Type 0} (told : E → Answer A) {x y : E} {m : Answer A} → x ≡ y → told x ≡ m → told y ≡ m
told_as told e t = sym (ap told e) ∙ t

-- an answer that gives has gone through both steps
pub record Went {A B : Type 0} (m : Answer A) (rest : A → ℕ → Answer B) (w : B) (q : ℕ) : Type 0 where
  pub value : A
  pub place : ℕ
  pub gave : gives value place ≡ m
  pub on : gives w q ≡ rest value place

pub went : {A B : Type 0} (m : Answer A) (rest : A → ℕ → Answer B) {w : B} {q : ℕ} → gives w q ≡ and_then m rest → Went m rest w q
unfolding and_then
went (gives v p) rest e = record { value = v; place = p; gave = refl; on = e }
went (refused n p) rest e = let z : ◌≡◌ {A = ℕ} 0 1 = cc in absurd (omega arith)
