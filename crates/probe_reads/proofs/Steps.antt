-- What the reads come to, once the step is known; and that no two things meet the promise. Assumes nothing.
use Rattle.std.specs.Prelude.{None, Option, Some, Result, Ok, Err}
use Prim.Native.Nat.{ℕ}
use mathlib.Core.Path.{◌≡◌, refl, sym, ap, subst, ◌∙◌}
use mathlib.Core.List.{List}
use Rattle.codes.specs.declared.TType.{TType}
use Rattle.tree.proofs.Only.{skip_only}
use Rattle.binary.specs.Binary.{binary}
use Rattle.binary.proofs.Binary.{binary_reads}
use Rattle.skip.specs.Skips.{told_skipped, HandsOn, SkipSays}
use Rattle.skip.specs.declared.till_depth.Skipped.{Skipped}
use Rattle.leaf.specs.declared.Halt.{Halt}
use Rattle.probe_rows.specs.declared.Row.{Row}
use Rattle.probe_rows.specs.Rows.{skip_row, depth_in}
use Rattle.probe_reads.specs.declared.Reading.{Reading}
use Rattle.probe_numbers.specs.declared.ReadStep.{ReadStep}
use Rattle.probe_numbers.specs.declared.ReadStep.TheVariants as Step
use Rattle.probe_reads.specs.Reads.{SkipStep, ReadSays}

-- the skip hands the struct depth on
handed : (sd : ℕ) (r : Result Skipped Halt) → HandsOn sd r → skip_row (depth_in r) (told_skipped r) ≡ skip_row sd (told_skipped r)
handed sd (Ok k) h = rw h
handed sd (Err x) h = refl

module _ (s : List ℕ) (c : Reading) where
  pub skip_step : {k : Option TType} {t : TType} (r : Result Skipped Halt) {w : Row} → k ≡ Some t
      → SkipSays c.limits s c.place c.depth c.struct_depth t r → w ≡ skip_row (depth_in r) (told_skipped r) → SkipStep k s c (Some w)
  skip_step r {w} e says f =
      subst (λ (k : Option TType). SkipStep k s c (Some w)) (sym e)
      (record { outcome = told_skipped r; answers = says.answers; filled_by = ap Some (f ∙ handed _ r says.hands) })

  pub no_kind : {k : Option TType} → k ≡ None → SkipStep k s c None
  no_kind e = subst (λ (k : Option TType). SkipStep k s c None) (sym e) refl

skip_one : (k : Option TType) (s : List ℕ) (c : Reading) (x y : Option Row) → SkipStep k s c x → SkipStep k s c y → x ≡ y
skip_one (Some t) s c x y p q =
    p.filled_by
    ∙ ap (λ o. Some (skip_row c.struct_depth o)) (skip_only binary binary_reads c.limits s c.place c.depth c.struct_depth t p.outcome q.outcome p.answers q.answers)
    ∙ sym q.filled_by
skip_one None s c x y p q = p ∙ sym q

-- any two things that the promise admits are equal
pub read_step_settled : (step : Option ReadStep) (s : List ℕ) (c : Reading) (x y : Option Row) → ReadSays step s c x → ReadSays step s c y → x ≡ y
read_step_settled (Some (Step.Plain p)) s c x y a b = a ∙ sym b
read_step_settled (Some (Step.Bounded p)) s c x y a b = a ∙ sym b
read_step_settled (Some Step.Scalar) s c x y a b = a ∙ sym b
read_step_settled (Some Step.Skip) s c x y a b = skip_one c.kind s c x y a b
read_step_settled None s c x y a b = a ∙ sym b
