-- Assumes nothing.
use Rattle.sign.proofs.Floats.{same_plain, differs_nan}
use Rattle.sign.proofs.pattern.Goals as goal

pub float_to_bits-result : goal.float_to_bits-result
float_to_bits-result c = same_plain _ c.if-x.false

pub returns-then-x : goal.returns-then-x
returns-then-x c = differs_nan _ c.if-x.true
