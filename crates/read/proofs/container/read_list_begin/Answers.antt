-- Assumes nothing.
use mir.Syntax.{w32}
use mir.ValLaws.{to_z_pos}
use Rattle.read.proofs.Headers.{count_below, a_list}
use Rattle.read.proofs.container.read_list_begin.Goals as goal

pub overflow_cast-size : goal.overflow_cast-size
overflow_cast-size c = record { sfits = count_below _ _ _ _ c.in_ok-len.ensures }

pub returns : goal.returns
returns c =
    rw (to_z_pos w32 _ (count_below _ _ _ _ c.in_ok-len.ensures))
    (a_list _ _ _ c.in_ok-element_type.ensures (rw c.min_serialized_size-least.ensures at c.in_ok-len.ensures))
