-- What a write leaves, and that no two answers meet the promise. Assumes nothing.
use Rattle.std.specs.Prelude.{Option}
use Prim.Native.Nat.{ℕ, ◌<◌, ◌≤◌}
use mathlib.Core.Path.{◌≡◌, refl, sym, subst, ◌∙◌}
use mathlib.Core.Bool.{Bool, true, false}
use mathlib.Core.List.{List}
use lib.ListN.{length}
use lib.Dec.{ltb}
use borrow.Author.Tests.{lt-ltb, le-ltb}
use Rattle.probe_rows.specs.declared.Row.{Row}
use Rattle.probe_writes.specs.Writes.{Does, comes_to, WriteSays}
use Rattle.probe.specs.Kept.{Left}
use Rattle.probe.specs.Writes.{WrittenByLength, Written}
use Rattle.probe.proofs.Steps.{left_settled}

module _ (d : Does) (old out : List ℕ) where
  pub write_too_small : length old < 48 → Written d old 15 old out out
  write_too_small h = subst (λ (n : Bool). WrittenByLength n d old 15 old out out) (sym (lt-ltb (length old) 48 h)) (refl, refl, refl)

  pub write_done : (x : Option Row) (r : ℕ) (new out' : List ℕ) → 48 ≤ length old → WriteSays d x out' out → Left x old r new → Written d old r new out out'
  write_done x r new out' h a l =
      subst (λ (n : Bool). WrittenByLength n d old r new out out') (sym (le-ltb (length old) 48 h))
      (record { leaves = subst (λ (z : Option Row). Left z old r new) a.came l; holds = a.holds })

-- any two records, returns and buffers that the promise admits are equal
pub written_settled : (d : Does) (old : List ℕ) (r r' : ℕ) (new new' out mid mid' : List ℕ) → Written d old r new out mid → Written d old r' new' out mid'
    → ((r ≡ r') × (new ≡ new')) × (mid ≡ mid')
written_settled d old r r' new new' out mid mid' = go (ltb (length old) 48)
  where
    go : (n : Bool) → WrittenByLength n d old r new out mid → WrittenByLength n d old r' new' out mid' → ((r ≡ r') × (new ≡ new')) × (mid ≡ mid')
    go true p q = ((p.0 ∙ sym q.0, p.1 ∙ sym q.1), p.2 ∙ sym q.2)
    go false p q = (left_settled (comes_to d) (comes_to d) old new new' r r' refl p.leaves q.leaves, p.holds ∙ sym q.holds)
