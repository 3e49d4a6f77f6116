-- The two cases of building, and that no two answers meet its promise. Assumes nothing.
use mathlib.Core.Path.{◌≡◌, refl, sym, ap}
use mathlib.Core.Bool.{true, false}
use Rattle.std.specs.Prelude.{Result, Ok, Err}
use Rattle.wire.specs.Answer.{Answer, gives, refused}
use Rattle.wire.proofs.Answers.{refuses, passes}
use Rattle.wire.proofs.Refusals.{refusal_of, told_back}
use Rattle.wire.proofs.Unique.{settled}
use Rattle.config.specs.Limits.{frame_above, built_from, told_built}
use Rattle.config.specs.declared.configuration.TConfiguration.{TConfiguration}
use Rattle.wire.specs.declared.refusal.Refusal.{Refusal}

module _ (c : TConfiguration) where
  pub frame_above_lem : frame_above c.max_frame_size c.max_message_size ≡ true → refused 19 0 ≡ built_from c
  unfolding built_from
  frame_above_lem e = sym (refuses _ _ _ _ e)

  pub kept : frame_above c.max_frame_size c.max_message_size ≡ false → gives c 0 ≡ built_from c
  unfolding built_from
  kept e = sym (passes _ _ _ _ e)

pub built_back : Answer TConfiguration → Result TConfiguration Refusal
built_back (gives c p) = Ok c
built_back (refused n p) = Err (refusal_of n p)

pub built_settled : {a b : Result TConfiguration Refusal} {m : Answer TConfiguration} → told_built a ≡ m → told_built b ≡ m → a ≡ b
unfolding built_back
built_settled = settled told_built built_back same
  where
    same : (b : Result TConfiguration Refusal) → built_back (told_built b) ≡ b
    same (Ok c) = refl
    same (Err x) = ap Err (told_back x)
