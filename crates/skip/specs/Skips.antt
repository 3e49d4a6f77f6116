-- What the public skip promises: the answer that the tree settles, and the struct depth handed on as it was.
use Rattle.std.specs.Prelude.{ℕ, ◌≡◌, List, Result, Ok, Err}
use Rattle.wire.specs.Refusals.{kind_number}
use Rattle.codes.specs.declared.TType.{TType}
use Rattle.config.specs.declared.configuration.TConfiguration.{TConfiguration}
use Rattle.tree.specs.Answers.{Outcome, ended, cut_off, SkipAnswers}
use Rattle.binary.specs.Binary.{binary}
use Rattle.leaf.specs.declared.Halt.{Halt}
use Rattle.skip.specs.declared.till_depth.Skipped.{Skipped}

abbrev pub told_skipped : Result Skipped Halt → Outcome
told_skipped (Ok k) = ended k.next.at k.count
told_skipped (Err x) = cut_off (kind_number x.refusal.kind) x.refusal.place x.count

-- "The depth returned is the depth given": where it passes, the struct depth is as it was
abbrev pub HandsOn : ℕ → Result Skipped Halt → Type 0
HandsOn sd (Ok k) = k.struct_depth ≡ sd
HandsOn sd (Err x) = Unit

-- the promise of the public skip
pub record SkipSays (c : TConfiguration) (s : List ℕ) (at d sd : ℕ) (t : TType) (r : Result Skipped Halt) : Type 0 where
  pub answers : SkipAnswers binary c s at d sd t (told_skipped r)
  pub hands : HandsOn sd r

-- "The default skip depth is 64"
abbrev pub default_depth : ℕ
default_depth = 64
