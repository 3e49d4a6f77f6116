-- Assumes nothing.
use Rattle.probe.proofs.Filled.{six_put}
use Rattle.probe.proofs.kept.fill.Goals as goal

pub returns : goal.returns
returns c = let a = c.args in six_put a.kept.now a.row c.requires c.put64.ensures c.put64-2.ensures c.put64-3.ensures c.put64-4.ensures c.put64-5.ensures c.put64-6.ensures
