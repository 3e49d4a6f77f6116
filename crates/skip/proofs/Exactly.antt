-- Demand 2: the skip accepts exactly where a value of that type stands, and ends where it ends; it refuses exactly as the cut tree says; and no two
-- answers meet its promise. Assumes nothing.
use Prim.Native.Nat.{ℕ}
use Rattle.std.specs.Prelude.{Result, Ok, Err}
use mathlib.Core.Path.{◌≡◌, sym, ap, ◌∙◌}
use mathlib.Core.Logic.{◌↔◌}
use mathlib.Core.List.{List}
use Rattle.codes.specs.declared.TType.{TType}
use Rattle.wire.specs.declared.refusal.Refusal.{Refusal}
use Rattle.wire.proofs.Refusals.{refusal_of, told_back}
use Rattle.config.specs.declared.configuration.TConfiguration.{TConfiguration}
use Rattle.tree.specs.Answers.{Outcome, ended, cut_off, StandsHere, RefusedHere}
use Rattle.tree.proofs.Demands as demands
use Rattle.tree.proofs.Only.{skip_only}
use Rattle.binary.specs.Binary.{binary}
use Rattle.binary.proofs.Binary.{binary_reads}
use Rattle.skip.specs.Skips.{told_skipped, HandsOn, SkipSays}
use Rattle.leaf.specs.declared.Halt.{Halt}
use Rattle.skip.specs.declared.till_depth.Skipped.{Skipped}

module _ (c : TConfiguration) (s : List ℕ) (at d sd : ℕ) (t : TType) (r : Result Skipped Halt) (says : SkipSays c s at d sd t r) where
  -- for every start and depth: it accepts exactly where a value stands
  pub accepts_exactly : (e n : ℕ) → (told_skipped r ≡ ended e n) ↔ StandsHere binary c s at d sd t e n
  accepts_exactly e n = demands.accepts_exactly binary binary_reads c s at d sd t (told_skipped r) says.answers e n

  -- and it refuses exactly as 2, 20 or a cut tree say
  pub refuses_exactly : (k p n : ℕ) → (told_skipped r ≡ cut_off k p n) ↔ RefusedHere binary c s at d sd t k p n
  refuses_exactly k p n = demands.refuses_exactly binary binary_reads c s at d sd t (told_skipped r) says.answers k p n

-- an answer from what it tells and the struct depth that it was given
abbrev back : ℕ → Outcome → Result Skipped Halt
back sd (ended e n) = Ok (record { next = record { at = e }; struct_depth = sd; count = n })
back sd (cut_off k p n) = Err (record { refusal = refusal_of k p; count = n })

had_back : (sd : ℕ) (a : Result Skipped Halt) → HandsOn sd a → back sd (told_skipped a) ≡ a
had_back sd (Ok k) h = ap (λ (d : ℕ). Ok (record { next = k.next; struct_depth = d; count = k.count })) (sym h)
had_back sd (Err x) h = ap (λ (z : Refusal). Err (record { refusal = z; count = x.count })) (told_back x.refusal)

-- any two answers that the promise admits are equal
pub skip_settled : (c : TConfiguration) (s : List ℕ) (at d sd : ℕ) (t : TType) (a b : Result Skipped Halt) → SkipSays c s at d sd t a → SkipSays c s at d sd t b → a ≡ b
skip_settled c s at d sd t a b p q =
    sym (had_back sd a p.hands)
    ∙ ap (back sd) (skip_only binary binary_reads c s at d sd t (told_skipped a) (told_skipped b) p.answers q.answers)
    ∙ had_back sd b q.hands
