-- A value's skip calls those of a struct, a list and a map at the same depth, and they call it at the depth less one: so the measures are
-- twice the depth, and one more for a value's. What a loop has passed is what the tree says of it.
use Prim.Native.Nat.{◌+◌, ◌-◌}
use mathlib.Core.Path.{◌≡◌}
use lib.ListN.{length}
use Rattle.tree.proofs.Steps as tree
use Rattle.binary.specs.Binary.{binary}
use Rattle.skip_value.proofs.+skip_list_skip_map_skip_struct_skip_value.Given as goal

abbrev pub decreases-skip_list : goal.decreases-skip_list
decreases-skip_list l = l.depth + l.depth

abbrev pub decreases-skip_map : goal.decreases-skip_map
decreases-skip_map l = l.depth + l.depth

abbrev pub decreases-skip_struct : goal.decreases-skip_struct
decreases-skip_struct l = l.depth + l.depth

abbrev pub decreases-skip_value : goal.decreases-skip_value
decreases-skip_value l = l.depth + l.depth + 1

abbrev pub invariant-skip_list-loop : goal.invariant-skip_list-loop
invariant-skip_list-loop l =
    tree.ListLoop binary l.config l.bytes l.fn.cursor.at l.depth l.struct_depth (record { element = l.element_type; size = l.end })
    l.initial.so_far.next.at l.so_far.next.at l.so_far.count l.counter

abbrev pub invariant-skip_map-loop : goal.invariant-skip_map-loop
invariant-skip_map-loop l =
    tree.MapLoop binary l.config l.bytes l.fn.cursor.at l.depth l.struct_depth (record { key = l.map.key_type; value = l.map.value_type; size = l.end })
    l.initial.so_far.next.at l.so_far.next.at l.so_far.count l.counter

abbrev pub invariant-skip_struct-loop-field : goal.invariant-skip_struct-loop-field
invariant-skip_struct-loop-field l =
    tree.StructLoop binary l.config l.bytes l.fn.cursor.at l.depth l.struct_depth tt l.so_far.next.at l.so_far.count × (l.inner ≡ l.struct_depth + 1)

abbrev pub decreases-skip_struct-loop-field : goal.decreases-skip_struct-loop-field
decreases-skip_struct-loop-field l = length l.bytes - l.so_far.next.at
