use Prim.Native.Nat.{◌-◌}
use lib.ListN.{length}
use Rattle.answers.proofs.line.bytes.Given as goal

abbrev pub decreases-loop-low : goal.decreases-loop-low
decreases-loop-low l = 64 - length l.bytes.items
