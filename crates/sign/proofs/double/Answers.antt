-- Assumes nothing.
use lib.Ieee.{binary64, div, of_bits}
use Rattle.sign.proofs.Floats.{pattern_plain, pattern_nan}
use Rattle.sign.proofs.double.Goals as goal

pub float_from_bits-result : goal.float_from_bits-result
float_from_bits-result c = pattern_plain binary64 _ c.if-bits-le9218868437227405312.true

pub returns-else-bits-le9218868437227405312 : goal.returns-else-bits-le9218868437227405312
unfolding div of_bits
returns-else-bits-le9218868437227405312 c = pattern_nan binary64 c.args.bits c.if-bits-le9218868437227405312.false
