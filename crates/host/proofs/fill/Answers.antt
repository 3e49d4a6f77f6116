-- Assumes nothing.
use Rattle.host.proofs.Rows.{three_put}
use Rattle.host.proofs.fill.Goals as goal

pub returns : goal.returns
returns c = let a = c.args in three_put a.kept.now a.row.number a.row.place a.row.count c.requires _ _ _ c.put64.ensures c.put64-2.ensures c.put64-3.ensures
