-- Assumes nothing.
use mir.Syntax.{w32}
use mir.ValLaws.{to_z_pos}
use Rattle.read.proofs.Headers.{count_below, a_map}
use Rattle.read.proofs.container.read_map_begin.Goals as goal

pub overflow_cast-map : goal.overflow_cast-map
overflow_cast-map c = record { sfits = count_below _ _ _ _ c.in_ok-len.ensures }

pub returns : goal.returns
returns c =
    rw (to_z_pos w32 _ (count_below _ _ _ _ c.in_ok-len.ensures))
    (a_map _ _ _ c.in_ok-key_type.ensures c.in_ok-value_type.ensures
    (rw (c.min_serialized_size-key.ensures, c.min_serialized_size-value.ensures) at c.in_ok-len.ensures))
