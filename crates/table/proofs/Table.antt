-- Document 01's cases: each promise settles the answer that stands there. Assumes nothing.
use Prim.Native.Nat.{ℕ, ◌<◌}
use mathlib.Core.Path.{refl}
use mathlib.Core.List.{List, [], ◌∷◌}
use native.Mathlib.Omega.{arith}
use borrow.Author.Rules.{rules}
use Rattle.wire.specs.Answer.{gives, refused, refuse_if, and_then, stay_at, within, item_at}
use Rattle.wire.specs.Writes.{room_for, laid, unless_fails, write_at}
use Rattle.codes.proofs.Tables.{Each, entry}
use Rattle.codes.specs.declared.TType.{TType}
use Rattle.codes.specs.declared.TType.TheVariants as T
use Rattle.config.specs.Limits.{default_limits}
use Rattle.number.specs.BigEndian.{big, bytes_of}
use Rattle.number.specs.Reads.{number_at}
use Rattle.number.proofs.Widths.{Octets}
use Rattle.utf8.specs.UpTo.{table as utf8Table, fits, width, widths, up_to}
use Rattle.text.specs.Texts.{size_at, limited_at, sized_at, part_marked, string_at}
use Rattle.read.specs.Headers.{type_at, field_at, count_at, list_at}
use Rattle.nesting.specs.Structs.{struct_begin_at}
use Rattle.message.specs.Messages.{message_type_at, sequence_at, versioned_at, unversioned_at, message_at}
use Rattle.tree.specs.Answers.{Outcome, SkipAnswers, Stands, IsCut}
use Rattle.tree.proofs.Only.{skip_only}
use Rattle.tree.proofs.Steps as steps
use Rattle.binary.specs.Binary.{binary}
use Rattle.binary.proofs.Binary.{binary_reads}
use Rattle.skip.specs.Skips.{told_skipped}
use Rattle.write_headers.specs.Outputs.{field_output}
use Rattle.framed.specs.Frames.{frame_at}
use Rattle.table.specs.Table.{table, Every, Settled, skipped, two_bytes, voids, i32_field}

-- an answer that the promise admits is the only one
the_one : (t : TType) (d : ℕ) (s : List ℕ) (x : Outcome) → SkipAnswers binary default_limits s 0 d 0 t x → Settled (skipped t d s x)
the_one t d s x a = (a, λ r h. skip_only binary binary_reads default_limits s 0 d 0 t (told_skipped r) x h.answers a)

-- bytes are below 256, each of them
octets : (s : List ℕ) → Each (λ n b. b < 256) 0 s → Octets s
octets s e i = entry (λ n b. b < 256) 0 s 0 e (λ n. omega arith) i

-- W5 to W8: a list's header, and its elements as far as they go
begun : (d : ℕ) → 0 < d → steps.ListLoop binary default_limits two_bytes 0 d 0 (record { element = T.I08; size = 2 }) 5 5 1 0
unfolding list_at type_at count_at size_at number_at item_at big within refuse_if and_then
begun d deep = steps.list_start binary binary_reads default_limits two_bytes 0 d 0 (octets two_bytes (search rules)) deep refl

two_elements : Stands binary default_limits two_bytes 0 2 0 T.List 7 3
unfolding within refuse_if
two_elements =
    let o = octets two_bytes (search rules) in
    steps.list_stands binary binary_reads default_limits two_bytes 0 2 0 T.List refl o
    (steps.list_more binary binary_reads default_limits two_bytes 0 2 0
    (steps.list_more binary binary_reads default_limits two_bytes 0 2 0 (begun 2 (omega arith)) (omega arith)
    (steps.leaf_answers binary binary_reads default_limits two_bytes 5 1 0 o T.I08 (λ z. omega arith) refl (gives tt 6) refl)) (omega arith)
    (steps.leaf_answers binary binary_reads default_limits two_bytes 6 1 0 o T.I08 (λ z. omega arith) refl (gives tt 7) refl))
    (omega arith)

no_depth_left : IsCut binary default_limits two_bytes 0 1 0 T.List 10 5 2
no_depth_left =
    steps.list_cut binary binary_reads default_limits two_bytes 0 1 0 T.List refl (begun 1 (omega arith)) (omega arith)
    (steps.too_deep binary binary_reads default_limits two_bytes 5 0 0 T.I08 refl)

no_elements : Stands binary default_limits (voids 0) 0 1 0 T.List 5 1
unfolding list_at type_at count_at size_at number_at item_at big within refuse_if and_then
no_elements =
    let o = octets (voids 0) (search rules) in
    steps.list_stands binary binary_reads default_limits (voids 0) 0 1 0 T.List refl o (steps.list_start binary binary_reads default_limits (voids 0) 0 1 0 o {x = record { element = T.Void; size = 0 }} {first = 5} (omega arith) refl) (omega arith)

a_void : IsCut binary default_limits (voids 1) 0 2 0 T.List 12 5 2
unfolding list_at type_at count_at size_at number_at item_at big within refuse_if and_then
a_void =
    let o = octets (voids 1) (search rules) in
    steps.list_cut binary binary_reads default_limits (voids 1) 0 2 0 T.List refl
    (steps.list_start binary binary_reads default_limits (voids 1) 0 2 0 o {x = record { element = T.Void; size = 1 }} {first = 5} (omega arith) refl) (omega arith)
    (steps.leaf_answers binary binary_reads default_limits (voids 1) 5 1 0 o T.Void (λ z. omega arith) refl (refused 12 5) refl)

-- W9: the field of four bytes, then the stop
a_struct : Stands binary default_limits i32_field 0 2 0 T.Struct 8 2
unfolding struct_begin_at field_at type_at number_at item_at big stay_at within refuse_if and_then
a_struct =
    steps.struct_stands binary binary_reads default_limits i32_field 0 2 0 T.Struct refl 7 2
    (steps.struct_more binary binary_reads default_limits i32_field 0 2 0 0 1 {t = T.I32} {p = 3} {e = 7}
    (steps.struct_start binary binary_reads default_limits i32_field 0 2 0 {inner = 1} {p = 0} (omega arith) refl) refl
    (steps.leaf_answers binary binary_reads default_limits i32_field 3 1 1 (octets i32_field (search rules)) T.I32 (λ z. omega arith) refl (gives tt 7) refl))
    refl

-- W10: the size is negative
negative : IsCut binary default_limits (0xFF ∷ 0xFF ∷ 0xFF ∷ 0xFF ∷ []) 0 64 0 T.String 6 0 1
unfolding sized_at limited_at size_at number_at item_at big within refuse_if and_then
negative =
    let s : List ℕ = 0xFF ∷ 0xFF ∷ 0xFF ∷ 0xFF ∷ [] in
    steps.leaf_answers binary binary_reads default_limits s 0 64 0 (octets s (search rules)) T.String (λ z. omega arith) refl (refused 6 0) refl

pub every_case : Every table
unfolding message_at versioned_at unversioned_at message_type_at sequence_at frame_at string_at up_to widths width fits utf8Table sized_at part_marked limited_at size_at number_at item_at stay_at within refuse_if and_then big bytes_of field_output unless_fails write_at room_for laid
every_case = (
  (refl, refl),
  (
    (refl, refl),
    (
      (refl, refl),
      (
        the_one T.Bool 1 (0x02 ∷ []) _ (steps.leaf_answers binary binary_reads default_limits (0x02 ∷ []) 0 1 0 (octets (0x02 ∷ []) (search rules)) T.Bool (λ z. omega arith) refl (gives tt 1) refl),
        (
          the_one T.Bool 0 (0x02 ∷ []) _ (steps.too_deep binary binary_reads default_limits (0x02 ∷ []) 0 0 0 T.Bool refl),
          (
            the_one T.List 2 two_bytes _ two_elements,
            (
              the_one T.List 1 two_bytes _ no_depth_left,
              (
                the_one T.List 1 (voids 0) _ no_elements,
                (
                  the_one T.List 2 (voids 1) _ a_void,
                  (
                    the_one T.Struct 2 i32_field _ a_struct,
                    (
                      the_one T.String 64 (0xFF ∷ 0xFF ∷ 0xFF ∷ 0xFF ∷ []) _ negative,
                      (
                        refl,
                        (
                          refl,
                          tt,
                        ),
                      ),
                    ),
                  ),
                ),
              ),
            ),
          ),
        ),
      ),
    ),
  ),
)
