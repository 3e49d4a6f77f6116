-- What a read leaves, and that no two answers meet the promise. Assumes nothing.
use Rattle.std.specs.Prelude.{Option, Some, None}
use Prim.Native.Nat.{ℕ, ◌<◌, ◌≤◌}
use mathlib.Core.Path.{◌≡◌, refl, sym, subst, ◌∙◌}
use mathlib.Core.Bool.{Bool, true, false}
use mathlib.Core.List.{List}
use lib.ListN.{length}
use lib.Dec.{ltb}
use borrow.Author.Tests.{lt-ltb, le-ltb}
use Rattle.probe_rows.specs.declared.Row.{Row}
use Rattle.probe_numbers.specs.declared.ReadStep.{ReadStep}
use Rattle.probe_reads.specs.declared.Reading.{Reading}
use Rattle.probe_reads.specs.Reads.{ReadSays}
use Rattle.probe_reads.proofs.Steps.{read_step_settled}
use Rattle.probe.specs.Kept.{Left}
use Rattle.probe.specs.Reads.{ReadByLength, Read}

module _ (step : Option ReadStep) (s : List ℕ) (c : Reading) (old : List ℕ) where
  pub too_small : length old < 48 → Read step s c old 15 old
  too_small h = subst (λ (n : Bool). ReadByLength n step s c old 15 old) (sym (lt-ltb (length old) 48 h)) (refl, refl)

  pub done : (x : Option Row) (r : ℕ) (new : List ℕ) → 48 ≤ length old → ReadSays step s c x → Left x old r new → Read step s c old r new
  done x r new h a l =
      subst (λ (n : Bool). ReadByLength n step s c old r new) (sym (le-ltb (length old) 48 h)) (record { stepped = x; says = a; leaves = l })

pub left_settled : (x y : Option Row) (old new new' : List ℕ) (r r' : ℕ) → x ≡ y → Left x old r new → Left y old r' new' → (r ≡ r') × (new ≡ new')
left_settled x y old new new' r r' e p q = go y (subst (λ (z : Option Row). Left z old r new) e p) q
  where
    go : (z : Option Row) → Left z old r new → Left z old r' new' → (r ≡ r') × (new ≡ new')
    go (Some w) a b = (a.0 ∙ sym b.0, a.1 ∙ sym b.1)
    go None a b = (a.0 ∙ sym b.0, a.1 ∙ sym b.1)

-- any two records and returns that the promise admits are equal
pub read_settled : (step : Option ReadStep) (s : List ℕ) (c : Reading) (old : List ℕ) (r r' : ℕ) (new new' : List ℕ) → Read step s c old r new → Read step s c old r' new'
    → (r ≡ r') × (new ≡ new')
read_settled step s c old r r' new new' = go (ltb (length old) 48)
  where
    go : (n : Bool) → ReadByLength n step s c old r new → ReadByLength n step s c old r' new' → (r ≡ r') × (new ≡ new')
    go true p q = (p.0 ∙ sym q.0, p.1 ∙ sym q.1)
    go false p q = left_settled p.stepped q.stepped old new new' r r' (read_step_settled step s c p.stepped q.stepped p.says q.says) p.leaves q.leaves
