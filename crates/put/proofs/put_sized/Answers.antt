-- Assumes nothing.
use native.Mathlib.Omega.{arith}
use Rattle.put.proofs.Texts.{no_sized, sized}
use Rattle.put.proofs.put_sized.Goals as goal

pub returns-then-out-lt4 : goal.returns-then-out-lt4
returns-then-out-lt4 c = let a = c.args in no_sized a.src.now a.out.now (omega arith)

pub returns-then-out-src : goal.returns-then-out-src
returns-then-out-src c = let a = c.args in no_sized a.src.now a.out.now (omega arith)

pub returns : goal.returns
returns c = let a = c.args in sized a.src.now a.out.now (omega arith) c.put32.ensures c.put_bytes.ensures
