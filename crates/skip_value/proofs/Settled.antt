-- No two answers meet the promise, wherever the start lies, past the end too, and at every depth. Assumes nothing.
use Prim.Native.Nat.{ℕ}
use mathlib.Core.Path.{◌≡◌, refl}
use mathlib.Core.List.{List}
use Rattle.codes.specs.declared.TType.{TType}
use Rattle.config.specs.declared.configuration.TConfiguration.{TConfiguration}
use Rattle.tree.specs.Answers.{Answers}
use Rattle.tree.proofs.Only.{only}
use Rattle.binary.specs.Binary.{binary}
use Rattle.binary.proofs.Binary.{binary_reads}
use Rattle.leaf.specs.Told.{told_walked}
use Rattle.std.specs.Prelude.{Result}
use Rattle.leaf.specs.declared.Passed.{Passed}
use Rattle.leaf.specs.declared.Halt.{Halt}
use Rattle.leaf.proofs.Leaves.{walked_settled}

pub value_settled : (c : TConfiguration) (s : List ℕ) (at d sd : ℕ) (t : TType) (a b : Result Passed Halt) → Answers binary c s at d sd t (told_walked a) → Answers binary c s at d sd t (told_walked b)
    → a ≡ b
value_settled c s at d sd t a b p q = walked_settled (only binary binary_reads c s at d sd t (told_walked a) (told_walked b) p q) refl
