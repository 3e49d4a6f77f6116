-- What passing a value tells.
use Rattle.std.specs.Prelude.{Result, Ok, Err}
use Rattle.wire.specs.Refusals.{kind_number}
use Rattle.tree.specs.Answers.{Outcome, ended, cut_off}
use Rattle.leaf.specs.declared.Passed.{Passed}
use Rattle.leaf.specs.declared.Halt.{Halt}

abbrev pub told_walked : Result Passed Halt → Outcome
told_walked (Ok p) = ended p.next.at p.count
told_walked (Err x) = cut_off (kind_number x.refusal.kind) x.refusal.place x.count
