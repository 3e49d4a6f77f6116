-- Assumes nothing.
use native.Mathlib.Omega.{arith}
use lib.ListN.{length-take, length-drop}
use Rattle.wire.proofs.Within.{inside}
use Rattle.number.proofs.read_item.Goals as goal

pub slice_bounds-try_from-count : goal.slice_bounds-try_from-count
slice_bounds-try_from-count g c = omega (arith, (inside _ _ _ c.in_ok-next.ensures).next)

pub slice_bounds-try_from-start : goal.slice_bounds-try_from-start
slice_bounds-try_from-start g c = omega (arith, (inside _ _ _ c.in_ok-next.ensures).next)

pub slice_bounds-try_from-end : goal.slice_bounds-try_from-end
slice_bounds-try_from-end g c = let i = inside _ _ _ c.in_ok-next.ensures in omega (arith, i.next, i.room)

pub unwrap-item-requires : goal.unwrap-item-requires
unwrap-item-requires g c =
    let i = inside _ _ _ c.in_ok-next.ensures in
    c.try_from.ensures.0 (rw (length-take, length-drop) (omega (arith, i.next, i.room)))
