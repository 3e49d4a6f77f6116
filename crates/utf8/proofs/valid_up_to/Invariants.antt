-- What was passed counts in full, and what is left counts as far as it is well formed.
use Prim.Native.Nat.{◌+◌}
use mathlib.Core.Path.{◌≡◌}
use lib.ListN.{length}
use Rattle.utf8.specs.UpTo.{up_to}
use Rattle.utf8.proofs.valid_up_to.Given as goal

abbrev pub invariant-loop-width : goal.invariant-loop-width
invariant-loop-width l = length l.text + up_to l.rest ≡ length l.rest + up_to l.text

abbrev pub decreases-loop-width : goal.decreases-loop-width
decreases-loop-width l = length l.rest
