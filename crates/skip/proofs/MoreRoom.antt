-- Demand 3: more room never alters an answer. Two skips, from one start not past the end and at one struct depth, the second with more depth
-- (to 127, where the first was within that), limits raised or removed, and bytes appended. Assumes nothing.
use Prim.Native.Nat.{ℕ, ◌≤◌}
use Rattle.std.specs.Prelude.{Result}
use mathlib.Core.Path.{◌≡◌}
use mathlib.Core.List.{List, ◌++◌}
use lib.ListN.{length}
use Rattle.codes.specs.declared.TType.{TType}
use Rattle.config.specs.declared.configuration.TConfiguration.{TConfiguration}
use Rattle.tree.specs.Answers.{ended, cut_off}
use Rattle.tree.specs.Room.{Roomier, Unnamed}
use Rattle.tree.proofs.Demands as demands
use Rattle.binary.specs.Binary.{binary}
use Rattle.binary.proofs.Binary.{binary_reads, binary_room, binary_raises}
use Rattle.skip.specs.Skips.{told_skipped, SkipSays}
use Rattle.leaf.specs.declared.Halt.{Halt}
use Rattle.skip.specs.declared.till_depth.Skipped.{Skipped}

module _ (old new : TConfiguration) (room : Roomier old new) (s x : List ℕ) (at d e sd : ℕ) (t : TType)
    (h : at ≤ length s) (i : d ≤ e) (j : d ≤ 127 → e ≤ 127) (a b : Result Skipped Halt)
    (first : SkipSays old s at d sd t a) (second : SkipSays new (s ++ x) at e sd t b) where
  -- an accept stays, with the same end and count
  pub accept_stays : (end n : ℕ) → told_skipped a ≡ ended end n → told_skipped b ≡ ended end n
  accept_stays end n q =
      demands.accept_stays binary binary_reads old new room (binary_raises old new room) (binary_room old new room) s x at d e sd t h i j
      (told_skipped a) (told_skipped b) first.answers second.answers end n q

  -- a refusal stays, with the same number, place and count, unless it names what was given room
  pub refusal_stays : (k p n : ℕ) → told_skipped a ≡ cut_off k p n → Unnamed old new d e x k → told_skipped b ≡ cut_off k p n
  refusal_stays k p n q u =
      demands.refusal_stays binary binary_reads old new room (binary_raises old new room) (binary_room old new room) s x at d e sd t h i j
      (told_skipped a) (told_skipped b) first.answers second.answers k p n q u
