-- What a writer's room and its leaf come to in the whole buffer. Assumes nothing.
use Prim.Native.Nat.{ℕ, ◌+◌, ◌-◌, ◌≤◌}
use mathlib.Core.Path.{◌≡◌, refl, sym}
use mathlib.Core.List.{List}
use native.Mathlib.Omega.{arith}
use lib.ListN.{length, take, drop}
use borrow.Rule.Slice.PartMut.{put_mid}
use Rattle.wire.specs.Answer.{gives}
use Rattle.wire.specs.Writes.{room_for, laid, in_front}
use Rattle.text.specs.Texts.{sized_layout}
use Rattle.text.proofs.Layouts.{length-sized}
use Rattle.wire.proofs.Writes.{landed, room_fits}

-- a place with room lies inside
pub starts : (n at w : ℕ) {next : ℕ} → gives tt next ≡ room_for n at w → at ≤ n
starts n at w t = omega (arith, room_fits n at w t)

-- a size and its bytes: how many they are together
pub sized_size : (b : List ℕ) → length (sized_layout b) ≡ 4 + length b
sized_size b = length-sized b

-- a leaf's part, put down
pub landing : (bs out : List ℕ) (at : ℕ) → at + length bs ≤ length out
    → laid bs out at ≡ put_mid at (length out - at) out (in_front bs (take (length out - at) (drop at out)))
landing bs out at h = sym (landed bs out at h refl)
