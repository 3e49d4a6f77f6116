-- What the public skip answers at its entry, and past it. Assumes nothing.
use Prim.Native.Nat.{ℕ}
use Rattle.std.specs.Prelude.{Result, Err}
use mathlib.Core.Path.{◌≡◌, refl, sym}
use mathlib.Core.List.{List}
use Rattle.wire.specs.Answer.{gives, refused}
use Rattle.wire.specs.Refusals.{kind_number}
use Rattle.wire.specs.declared.refusal.Refusal.{Refusal}
use Rattle.codes.specs.declared.TType.{TType}
use Rattle.config.specs.declared.configuration.TConfiguration.{TConfiguration}
use Rattle.tree.specs.Answers.{Answers, skip_entry}
use Rattle.tree.proofs.Entry.{after}
use Rattle.binary.specs.Binary.{binary}
use Rattle.skip.specs.Skips.{told_skipped, HandsOn, SkipSays}
use Rattle.leaf.specs.declared.Halt.{Halt}
use Rattle.skip.specs.declared.till_depth.Skipped.{Skipped}

module _ (c : TConfiguration) (s : List ℕ) (at d sd : ℕ) (t : TType) where
  -- a refusal at the entry, with count 0
  pub barred : (x : Refusal) → refused (kind_number x.kind) x.place ≡ skip_entry d sd s at → SkipSays c s at d sd t (Err (record { refusal = x; count = 0 }))
  barred x e =
      let r : Result Skipped Halt = Err (record { refusal = x; count = 0 }) in
      record { answers = after binary c s at d sd t (told_skipped r) (refused (kind_number x.kind) x.place) (sym e) refl; hands = tt }

  -- past it, the value's own answer
  pub let_in : {p : ℕ} (r : Result Skipped Halt) → gives tt p ≡ skip_entry d sd s at → Answers binary c s at d sd t (told_skipped r) → HandsOn sd r
      → SkipSays c s at d sd t r
  let_in {p} r e a h = record { answers = after binary c s at d sd t (told_skipped r) (gives tt p) (sym e) a; hands = h }
