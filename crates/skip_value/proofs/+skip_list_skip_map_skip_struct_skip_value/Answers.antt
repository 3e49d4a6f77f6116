-- The cycle of calls. A value's skip calls those of a struct, a list and a map at the same depth, and they call it at the depth less one: so the
-- measures are twice the depth, and one more for a value's. Assumes nothing.
use Prim.Native.Nat.{◌+◌}
use mathlib.Core.Path.{◌≡◌, refl, sym, ap, ◌∙◌}
use mir.Syntax.{w32}
use mir.Val.{to_z, of_z}
use native.Mathlib.Omega.{arith}
use borrow.Author.Rules.{rules}
use Rattle.std.proofs.lemmas.Result.{err_from_is_err_and}
use Rattle.wire.specs.Answer.{mapped, judged}
use Rattle.tree.specs.Coding.{fields, items, pairs}
use Rattle.tree.proofs.Bounds as bounds
use Rattle.tree.proofs.Steps as tree
use Rattle.binary.specs.Binary.{heading, as_items, as_paired, binary}
use Rattle.binary.proofs.Binary.{binary_reads, no_slack, binary_weighs}
use Rattle.binary.proofs.Steps.{leaf_answers, goes, stops, judged_as}
use Rattle.skip_value.proofs.Sizes.{list_counts, map_counts}
use Rattle.skip_value.proofs.Steps.{gone, stopped, was_read, was_refused, fits}
use Rattle.tree.proofs.Parts.{part_length}
use Rattle.tree.proofs.Heads.{struct_is}
use Rattle.binary.proofs.Heads.{field_is}
use Rattle.codes.specs.declared.shape.Shape.TheVariants as Sh
use Rattle.skip_value.proofs.+skip_list_skip_map_skip_struct_skip_value.Goals as goal

pub skip_list-returns-in_err-list : goal.skip_list-returns-in_err-list
skip_list-returns-in_err-list m c = λ t e. let p = err_from_is_err_and c.from_residual.result c.from_residual.ensures.1 in
    rw (p.1, p.2) (tree.own_refused binary binary_reads _ _ _ _ _ t items _ _ (λ z. omega (arith, c.requires)) e (ap (judged_as as_items) c.in_err-list.ensures))

pub skip_list-overflow_cast-end : goal.skip_list-overflow_cast-end
skip_list-overflow_cast-end m c = list_counts _ _ _ c.in_ok-list.ensures

pub skip_list-loop-init : goal.skip_list-loop-init
skip_list-loop-init m c = let same : to_z w32 (of_z w32 c.in_ok-list.list.size) ≡ c.in_ok-list.list.size = search rules in rw same (tree.list_start binary binary_reads _ _ _ _ _ (λ i. (c.type_inv.bytes i).fits) c.requires (ap (mapped as_items) c.in_ok-list.ensures))

pub skip_list-skip_value-element-requires : goal.skip_list-skip_value-element-requires
skip_list-skip_value-element-requires m c = (omega (arith, c.decreases, c.loop.invariant.deep), tt)

pub skip_list-then-requires : goal.skip_list-then-requires
skip_list-then-requires m c = let r = tree.list_room binary binary_reads _ _ _ _ _ no_slack binary_weighs c.loop.invariant in fits _ _ _ _ _ _ _ (omega (arith, r.0)) r.1 (omega (arith, c.well_formed.0)) c.skip_value-element.ensures

pub skip_list-returns-in_err-so_far : goal.skip_list-returns-in_err-so_far
skip_list-returns-in_err-so_far m c = λ t e. let p = err_from_is_err_and c.from_residual-in_err-so_far.result c.from_residual-in_err-so_far.ensures.1 in
    let h = stopped _ _ _ _ _ _ _ _ (sym c.then.ensures ∙ c.in_err-so_far.was) c.skip_value-element.ensures in
    rw (p.1, p.2, h.count) (tree.list_cut binary binary_reads _ _ _ _ _ t e c.loop.invariant c.loop-test.true h.cut)

pub skip_list-loop-preserved : goal.skip_list-loop-preserved
skip_list-loop-preserved m c = let v = gone _ _ _ _ _ _ _ _ (sym c.then.ensures ∙ c.in_ok-so_far.was) c.skip_value-element.ensures in
    rw v.count (tree.list_more binary binary_reads _ _ _ _ _ c.loop.invariant c.loop-test.true v.stands)

pub skip_list-returns : goal.skip_list-returns
skip_list-returns m c = λ t e. tree.list_stands binary binary_reads _ _ _ _ _ t e (λ i. (c.type_inv.bytes i).fits) c.loop.invariant c.loop-test.false

pub skip_map-returns-in_err-map : goal.skip_map-returns-in_err-map
skip_map-returns-in_err-map m c = λ t e. let p = err_from_is_err_and c.from_residual.result c.from_residual.ensures.1 in
    rw (p.1, p.2) (tree.own_refused binary binary_reads _ _ _ _ _ t pairs _ _ (λ z. omega (arith, c.requires)) e (ap (judged_as as_paired) c.in_err-map.ensures))

pub skip_map-overflow_cast-end : goal.skip_map-overflow_cast-end
skip_map-overflow_cast-end m c = map_counts _ _ _ c.in_ok-map.ensures

pub skip_map-loop-init : goal.skip_map-loop-init
skip_map-loop-init m c = let same : to_z w32 (of_z w32 c.in_ok-map.map.size) ≡ c.in_ok-map.map.size = search rules in rw same (tree.map_start binary binary_reads _ _ _ _ _ (λ i. (c.type_inv.bytes i).fits) c.requires (ap (mapped as_paired) c.in_ok-map.ensures))

pub skip_map-skip_value-key-requires : goal.skip_map-skip_value-key-requires
skip_map-skip_value-key-requires m c = (omega (arith, c.decreases, c.loop.invariant.deep), tt)

pub skip_map-then-requires : goal.skip_map-then-requires
skip_map-then-requires m c = let r = tree.map_room binary binary_reads _ _ _ _ _ no_slack binary_weighs c.loop.invariant in fits _ _ _ _ _ _ _ (omega (arith, r.0)) r.1 (omega (arith, c.well_formed.0)) c.skip_value-key.ensures

pub skip_map-returns-in_err-so_far : goal.skip_map-returns-in_err-so_far
skip_map-returns-in_err-so_far m c = λ t e. let p = err_from_is_err_and c.from_residual-in_err-so_far.result c.from_residual-in_err-so_far.ensures.1 in
    let h = stopped _ _ _ _ _ _ _ _ (sym c.then.ensures ∙ c.in_err-so_far.was) c.skip_value-key.ensures in
    rw (p.1, p.2, h.count) (tree.map_key_cut binary binary_reads _ _ _ _ _ t e c.loop.invariant c.loop-test.true h.cut)

pub skip_map-skip_value-value-requires : goal.skip_map-skip_value-value-requires
skip_map-skip_value-value-requires m c = (omega (arith, c.decreases, c.loop.invariant.deep), tt)

pub skip_map-then-requires-in-loop : goal.skip_map-then-requires-in-loop
skip_map-then-requires-in-loop m c = let k = gone _ _ _ _ _ _ _ _ (sym c.then.ensures ∙ c.in_ok-so_far.was) c.skip_value-key.ensures in
    let g = bounds.stands_count binary binary_reads no_slack binary_weighs _ _ _ _ _ _ _ _ k.stands in
    let r = tree.map_room binary binary_reads _ _ _ _ _ no_slack binary_weighs c.loop.invariant in
    fits _ _ _ _ _ _ _ (omega (arith, k.count, g.1, r.0)) k.stands.part.within (omega (arith, c.well_formed.0)) c.skip_value-value.ensures

pub skip_map-returns-in_err-so_far-2 : goal.skip_map-returns-in_err-so_far-2
skip_map-returns-in_err-so_far-2 m c = λ t e. let p = err_from_is_err_and c.from_residual-in_err-so_far-2.result c.from_residual-in_err-so_far-2.ensures.1 in
    let k = gone _ _ _ _ _ _ _ _ (sym c.then.ensures ∙ c.in_ok-so_far.was) c.skip_value-key.ensures in
    let h = stopped _ _ _ _ _ _ _ _ (sym c.then-in-loop.ensures ∙ c.in_err-so_far-2.was) c.skip_value-value.ensures in
    rw (p.1, p.2, h.count ∙ ap (λ n. n + h.values) k.count) (tree.map_value_cut binary binary_reads _ _ _ _ _ t e c.loop.invariant c.loop-test.true k.stands h.cut)

pub skip_map-loop-preserved : goal.skip_map-loop-preserved
skip_map-loop-preserved m c = let k = gone _ _ _ _ _ _ _ _ (sym c.then.ensures ∙ c.in_ok-so_far.was) c.skip_value-key.ensures in
    let v = gone _ _ _ _ _ _ _ _ (sym c.then-in-loop.ensures ∙ c.in_ok-so_far-2.was) c.skip_value-value.ensures in
    rw (v.count ∙ ap (λ n. n + v.values) k.count) (tree.map_more binary binary_reads _ _ _ _ _ c.loop.invariant c.loop-test.true k.stands v.stands)

pub skip_map-returns : goal.skip_map-returns
skip_map-returns m c = λ t e. tree.map_stands binary binary_reads _ _ _ _ _ t e (λ i. (c.type_inv.bytes i).fits) c.loop.invariant c.loop-test.false

pub skip_struct-returns-in_err-inner : goal.skip_struct-returns-in_err-inner
skip_struct-returns-in_err-inner m c = λ t e. let p = err_from_is_err_and c.from_residual.result c.from_residual.ensures.1 in
    rw (p.1, p.2) (tree.own_refused binary binary_reads _ _ _ _ _ t fields _ _ (λ z. omega (arith, c.requires)) e (ap judged c.in_err-inner.ensures))

pub skip_struct-loop-field-init : goal.skip_struct-loop-field-init
skip_struct-loop-field-init m c = (tree.struct_start binary binary_reads _ _ _ _ _ c.requires c.in_ok-inner.ensures, (struct_is c.args.config _ _ _ c.in_ok-inner.ensures).deeper)

pub skip_struct-returns-in_err-field : goal.skip_struct-returns-in_err-field
skip_struct-returns-in_err-field m c = λ t e. let p = err_from_is_err_and c.from_residual-in_err-field.result c.from_residual-in_err-field.ensures.1 in
    let f = was_refused _ _ (sym c.after.ensures ∙ c.in_err-field.was) c.read_field_begin.ensures in
    rw (p.1, p.2, f.1) (tree.struct_head_cut binary binary_reads _ _ _ _ _ t e _ _ _ _ c.loop-field.invariant.0 (ap (mapped heading) f.0))

pub skip_struct-returns-in_err-next : goal.skip_struct-returns-in_err-next
skip_struct-returns-in_err-next m c = λ t e. let f = was_read _ _ (sym c.after.ensures ∙ c.in_ok-field.was) c.read_field_begin.ensures in
    let g = was_refused _ _ (sym c.after-then-is_stop.ensures ∙ c.in_err-next.was) c.read_struct_end.ensures in
    tree.struct_stays_open binary binary_reads _ _ _ _ _ c.loop-field.invariant.0 (stops _ _ (sym c.is_stop.ensures ∙ c.if-is_stop.true) f) c.loop-field.invariant.1 g.0

pub skip_struct-returns-then-is_stop : goal.skip_struct-returns-then-is_stop
skip_struct-returns-then-is_stop m c = λ t e. let f = was_read _ _ (sym c.after.ensures ∙ c.in_ok-field.was) c.read_field_begin.ensures in
    let g = was_read _ _ (sym c.after-then-is_stop.ensures ∙ c.in_ok-next.was) c.read_struct_end.ensures in
    tree.struct_closes binary binary_reads _ _ _ _ _ c.loop-field.invariant.0 (stops _ _ (sym c.is_stop.ensures ∙ c.if-is_stop.true) f) c.loop-field.invariant.1 t e g

pub skip_struct-skip_value-value-requires : goal.skip_struct-skip_value-value-requires
skip_struct-skip_value-value-requires m c = (omega (arith, c.decreases, c.loop-field.invariant.0.deep), tt)

pub skip_struct-then-requires : goal.skip_struct-then-requires
skip_struct-then-requires m c = let f = was_read _ _ (sym c.after.ensures ∙ c.in_ok-field.was) c.read_field_begin.ensures in
    let i = field_is _ _ (sym c.is_stop.ensures ∙ c.if-is_stop.false) f in
    let r = tree.struct_room binary binary_reads _ _ _ _ _ no_slack binary_weighs c.loop-field.invariant.0 in
    fits _ _ _ _ _ _ _ (omega (arith, i.part.from, r.0)) i.part.within (omega (arith, c.well_formed.0)) c.skip_value-value.ensures

pub skip_struct-returns-in_err-so_far : goal.skip_struct-returns-in_err-so_far
skip_struct-returns-in_err-so_far m c = λ t e. let p = err_from_is_err_and c.from_residual-in_err-so_far.result c.from_residual-in_err-so_far.ensures.1 in
    let f = was_read _ _ (sym c.after.ensures ∙ c.in_ok-field.was) c.read_field_begin.ensures in
    let h = stopped _ _ _ _ _ _ _ _ (sym c.then.ensures ∙ c.in_err-so_far.was) (rw c.loop-field.invariant.1 at c.skip_value-value.ensures) in
    rw (p.1, p.2, h.count) (tree.struct_value_cut binary binary_reads _ _ _ _ _ t e _ _ c.loop-field.invariant.0 (goes _ _ (sym c.is_stop.ensures ∙ c.if-is_stop.false) f) h.cut)

pub skip_struct-loop-field-smaller : goal.skip_struct-loop-field-smaller
skip_struct-loop-field-smaller m c = let f = was_read _ _ (sym c.after.ensures ∙ c.in_ok-field.was) c.read_field_begin.ensures in
    let v = gone _ _ _ _ _ _ _ _ (sym c.then.ensures ∙ c.in_ok-so_far.was) (rw c.loop-field.invariant.1 at c.skip_value-value.ensures) in
    let i = field_is _ _ (sym c.is_stop.ensures ∙ c.if-is_stop.false) f in
    let l = part_length i.part in
    omega (arith, l, i.two, v.stands.part.from, v.stands.part.within)

pub skip_struct-loop-field-preserved : goal.skip_struct-loop-field-preserved
skip_struct-loop-field-preserved m c = let f = was_read _ _ (sym c.after.ensures ∙ c.in_ok-field.was) c.read_field_begin.ensures in
    let v = gone _ _ _ _ _ _ _ _ (sym c.then.ensures ∙ c.in_ok-so_far.was) (rw c.loop-field.invariant.1 at c.skip_value-value.ensures) in
    (rw v.count (tree.struct_more binary binary_reads _ _ _ _ _ _ _ c.loop-field.invariant.0 (goes _ _ (sym c.is_stop.ensures ∙ c.if-is_stop.false) f) v.stands), c.loop-field.invariant.1)

pub skip_value-skip_struct-requires : goal.skip_value-skip_struct-requires
skip_value-skip_struct-requires m c = (omega (arith, c.decreases), omega arith)

pub skip_value-skip_list-requires : goal.skip_value-skip_list-requires
skip_value-skip_list-requires m c = (omega (arith, c.decreases), omega arith)

pub skip_value-skip_map-requires : goal.skip_value-skip_map-requires
skip_value-skip_map-requires m c = (omega (arith, c.decreases), omega arith)

pub skip_value-returns-in-Fixed : goal.skip_value-returns-in-Fixed
skip_value-returns-in-Fixed m c = let a = c.args in leaf_answers a.config a.bytes.now a.cursor.at a.depth a.struct_depth (λ i. (c.type_inv.bytes i).fits) a.field_type (Sh.Fixed c.in-Fixed.width) (λ z. omega arith) (sym c.shape_of.ensures ∙ c.in-Fixed.is) refl c.skip_fixed.ensures

pub skip_value-returns-in-Text : goal.skip_value-returns-in-Text
skip_value-returns-in-Text m c = let a = c.args in leaf_answers a.config a.bytes.now a.cursor.at a.depth a.struct_depth (λ i. (c.type_inv.bytes i).fits) a.field_type Sh.Text (λ z. omega arith) (sym c.shape_of.ensures ∙ c.in-Text.is) refl c.skip_text.ensures

pub skip_value-returns-in-Unfit : goal.skip_value-returns-in-Unfit
skip_value-returns-in-Unfit m c = let a = c.args in leaf_answers a.config a.bytes.now a.cursor.at a.depth a.struct_depth (λ i. (c.type_inv.bytes i).fits) a.field_type Sh.Unfit (λ z. omega arith) (sym c.shape_of.ensures ∙ c.in-Unfit.is) refl c.refused-in-Unfit.ensures
