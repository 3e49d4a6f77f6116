-- What a text or a name that is written must have passed, and that a name's fault is the write's. Assumes nothing.
use Prim.Native.Nat.{ℕ, ◌≤◌}
use mathlib.Core.Path.{◌≡◌}
use mathlib.Core.Bool.{Bool, true, false}
use mathlib.Core.List.{List, []}
use borrow.Author.Tests.{le-ltb, ltb-false}
use lib.Dec.{ltb}
use lib.ListN.{length}
use Rattle.wire.specs.Answer.{Answer, gives, refused, refuse_if}
use Rattle.wire.specs.Writes.{puts, fail_if, unless_fails, write_at}
use Rattle.wire.proofs.Answers.{passed}
use Rattle.wire.proofs.Writes.{unfailed}
use Rattle.utf8.specs.UpTo.{up_to}
use Rattle.text.specs.Texts.{sized_layout}
use Rattle.tree.proofs.Heads.{clash}
use Rattle.write.specs.Outputs.{too_long, bytes_output, name_checked, named_output, bytes_write}

module _ (b : List ℕ) (at : ℕ) where
  pub short : length b ≤ 2147483647 → puts (sized_layout b) ≡ bytes_output b at
  unfolding bytes_output fail_if
  short h = rw (le-ltb _ _ h)

  -- what was written was short
  pub is_short : (out : List ℕ) {new : List ℕ} {next : ℕ} → gives new next ≡ bytes_write b out at → length b ≤ 2147483647
  unfolding bytes_output write_at
  is_short out e = let a = passed (ltb (length out) at) 2 at _ e in ltb-false 2147483647 (length b) (unfailed (too_long b) 16 at _ _ a.gave).test

-- a name that passed: its length, and all of it well formed
pub record Name (name : List ℕ) : Type 0 where
  pub short : length name ≤ 2147483647
  pub utf8 : length name ≤ up_to name

if_name : {A : Type 0} (name bs : List ℕ) (at : ℕ) (rest : List ℕ → Answer A) {v : A} {q : ℕ} → gives v q ≡ unless_fails (named_output name bs at) rest → Name name
unfolding named_output
if_name name bs at rest e =
    let b = unfailed (too_long name) 16 at _ rest e in
    let c = unfailed (ltb (up_to name) (length name)) 13 0 (puts bs) rest b.gave in
    record { short = ltb-false 2147483647 (length name) b.test; utf8 = ltb-false (up_to name) (length name) c.test }

pub a_name : (n at : ℕ) (name : List ℕ) {q : ℕ} → gives tt q ≡ name_checked n at name → Name name
unfolding name_checked
a_name n at name e = let a = passed (ltb n at) 2 at _ e in if_name name [] at _ a.gave

pub with_name : {name : List ℕ} (bs : List ℕ) (at : ℕ) → Name name → puts bs ≡ named_output name bs at
unfolding named_output fail_if
with_name bs at f = rw (le-ltb _ _ f.short, le-ltb _ _ f.utf8)

-- a name that was written passed
pub written_name : (name bs out : List ℕ) (at : ℕ) {new : List ℕ} {next : ℕ} → gives new next ≡ write_at (named_output name bs at) out at → Name name
unfolding write_at
written_name name bs out at e = let a = passed (ltb (length out) at) 2 at _ e in if_name name bs at _ a.gave

-- the name's fault is the write's
misnamed_by : {A : Type 0} (b c d : Bool) (at : ℕ) {n p : ℕ} (bs : List ℕ) (rest : List ℕ → Answer A)
    → ◌≡◌ {A = Answer Unit} (refused n p) (refuse_if b 2 at (unless_fails (fail_if c 16 at (fail_if d 13 0 (puts []))) λ _. gives tt at))
    → refused n p ≡ refuse_if b 2 at (unless_fails (fail_if c 16 at (fail_if d 13 0 (puts bs))) rest)
unfolding refuse_if fail_if unless_fails
misnamed_by true c d at bs rest e = cc
misnamed_by false true d at bs rest e = cc
misnamed_by false false true at bs rest e = cc
misnamed_by false false false at bs rest e = clash (cc)

pub misnamed : (name bs out : List ℕ) (at : ℕ) {n p : ℕ} → refused n p ≡ name_checked (length out) at name → refused n p ≡ write_at (named_output name bs at) out at
unfolding name_checked named_output write_at
misnamed name bs out at e = misnamed_by (ltb (length out) at) (too_long name) (ltb (up_to name) (length name)) at bs _ e
