-- A value with no depth left. Assumes nothing.
use Prim.Native.Nat.{ℕ}
use mathlib.Core.Path.{◌≡◌}
use mathlib.Core.List.{List}
use Rattle.codes.specs.declared.TType.{TType}
use Rattle.config.specs.declared.configuration.TConfiguration.{TConfiguration}
use Rattle.tree.specs.Answers.{Outcome, cut_off, Answers}
use Rattle.tree.proofs.Steps as tree
use Rattle.binary.specs.Binary.{binary}
use Rattle.binary.proofs.Binary.{binary_reads}

pub no_depth : (c : TConfiguration) (s : List ℕ) (at d sd : ℕ) (t : TType) {x : Outcome} → d ≡ 0 → x ≡ cut_off 10 at 1 → Answers binary c s at d sd t x
no_depth c s at d sd t z e = tree.deep_answers binary binary_reads c s at d sd t z e
