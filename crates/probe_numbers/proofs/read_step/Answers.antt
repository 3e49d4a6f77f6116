-- Assumes nothing.
use borrow.Author.Rules.{rules}
use Rattle.codes.proofs.Tables.{missed_none}
use Rattle.probe_numbers.specs.Numbers.{reads}
use Rattle.probe_numbers.proofs.read_step.Goals as goal

pub returns-in_default : goal.returns-in_default
returns-in_default c = missed_none reads c.args.b (search rules)
