-- Assumes nothing.
use lib.Seq.{take-length}
use Rattle.put.proofs.Texts.{copied}
use Rattle.put.proofs.put_bytes.Goals as goal

pub returns : goal.returns
returns c = copied c.args.src.now c.args.out.now c.if-out-src.false (simp (take-length, c.copy_from_slice.ensures.after))
