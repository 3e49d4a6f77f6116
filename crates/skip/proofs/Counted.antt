-- The count: accepted, at least 1 and never above the bytes passed; refused, at most one above the bytes from the start to the refusal's place.
-- Assumes nothing.
use Prim.Native.Nat.{ℕ, ◌+◌, ◌≤◌}
use Rattle.std.specs.Prelude.{Result}
use mathlib.Core.Path.{◌≡◌}
use mathlib.Core.List.{List}
use native.Mathlib.Omega.{arith}
use Rattle.codes.specs.declared.TType.{TType}
use Rattle.config.specs.declared.configuration.TConfiguration.{TConfiguration}
use Rattle.tree.specs.Answers.{ended, cut_off}
use Rattle.tree.proofs.Demands as demands
use Rattle.binary.specs.Binary.{binary}
use Rattle.binary.proofs.Binary.{binary_reads, binary_places, no_slack, binary_weighs}
use Rattle.skip.specs.Skips.{told_skipped, SkipSays}
use Rattle.leaf.specs.declared.Halt.{Halt}
use Rattle.skip.specs.declared.till_depth.Skipped.{Skipped}

module _ (c : TConfiguration) (s : List ℕ) (at d sd : ℕ) (t : TType) (r : Result Skipped Halt) (says : SkipSays c s at d sd t r) where
  pub accepted_count : (e n : ℕ) → told_skipped r ≡ ended e n → (1 ≤ n) × (at + n ≤ e)
  accepted_count e n q =
      let h = demands.accepted_count binary binary_reads c s at d sd t (told_skipped r) says.answers no_slack binary_weighs e n q in
      (h.0, omega (arith, h.1))

  pub refused_count : (k p n : ℕ) → told_skipped r ≡ cut_off k p n → at + n ≤ p + 1
  refused_count k p n q = demands.refused_count binary binary_reads c s at d sd t (told_skipped r) says.answers no_slack binary_weighs binary_places k p n q
