-- What each read sets the record to.
use Rattle.std.specs.Prelude.{ℕ, ◌≡◌, not, List, eqb, None, Option, Some}
use Rattle.std.specs.Int.{w8, w16, w32, w64}
use Rattle.wire.specs.Answer.{stay_at}
use Rattle.codes.specs.declared.TType.{TType}
use Rattle.config.specs.Limits.{built_from}
use Rattle.config.specs.declared.configuration.TConfiguration.{TConfiguration}
use Rattle.number.specs.Reads.{byte_at, bool_at, i8_at, i16_at, i32_at, i64_at, double_at}
use Rattle.text.specs.Texts.{bytes_at, string_at, uuid_at}
use Rattle.read.specs.Headers.{type_at, field_at, list_at, set_at, map_at}
use Rattle.nesting.specs.Structs.{struct_begin_at, struct_end_at}
use Rattle.scalar.specs.Scalars.{scalar_at}
use Rattle.message.specs.Messages.{message_type_at, message_at}
use Rattle.framed.specs.Frames.{frame_at}
use Rattle.tree.specs.Answers.{Outcome, SkipAnswers}
use Rattle.binary.specs.Binary.{binary}
use Rattle.probe_rows.specs.declared.Row.{Row}
use Rattle.probe_reads.specs.declared.Reading.{Reading}
use Rattle.probe_numbers.specs.declared.Plain.{Plain}
use Rattle.probe_numbers.specs.declared.Plain.TheVariants as P
use Rattle.probe_numbers.specs.declared.Bounded.{Bounded}
use Rattle.probe_numbers.specs.declared.Bounded.TheVariants as B
use Rattle.probe_numbers.specs.declared.ReadStep.{ReadStep}
use Rattle.probe_numbers.specs.declared.ReadStep.TheVariants as Step
use Rattle.probe_numbers.specs.Numbers.{kind_of}
use Rattle.probe_rows.specs.Rows.{row_by, none_row, number_row, bool_row, bits_row, double_row, span_row, type_row, field_row, list_row, set_row, map_row, message_type_row, message_row, frame_row, scalar_row, skip_row}

-- strict where its number is not 0
abbrev pub reading_of : ℕ → ℕ → ℕ → ℕ → ℕ → TConfiguration → Reading
reading_of place strict kind depth sd limits =
    record { place = place; strict = not (eqb strict 0); kind = kind_of kind; depth = depth; struct_depth = sd; limits = limits }

abbrev pub plain_row : Plain → List ℕ → ℕ → Row
plain_row P.Byte s at = row_by number_row (byte_at s at)
plain_row P.Bool s at = row_by bool_row (bool_at s at)
plain_row P.I8 s at = row_by (bits_row w8) (i8_at s at)
plain_row P.I16 s at = row_by (bits_row w16) (i16_at s at)
plain_row P.I32 s at = row_by (bits_row w32) (i32_at s at)
plain_row P.I64 s at = row_by (bits_row w64) (i64_at s at)
plain_row P.Double s at = row_by double_row (double_at s at)
plain_row P.Uuid s at = row_by span_row (uuid_at s at)
plain_row P.Type s at = row_by type_row (type_at s at)
plain_row P.Field s at = row_by field_row (field_at s at)
plain_row P.MessageType s at = row_by message_type_row (message_type_at s at)
plain_row P.MessageEnd s at = row_by none_row (stay_at s at)
plain_row P.FieldEnd s at = row_by none_row (stay_at s at)
plain_row P.ListEnd s at = row_by none_row (stay_at s at)
plain_row P.SetEnd s at = row_by none_row (stay_at s at)
plain_row P.MapEnd s at = row_by none_row (stay_at s at)

abbrev pub bounded_row : Bounded → List ℕ → Reading → Row
bounded_row B.Bytes s c = row_by span_row (bytes_at c.limits.max_string_size s c.place)
bounded_row B.String s c = row_by span_row (string_at c.limits.max_string_size s c.place)
bounded_row B.List s c = row_by list_row (list_at c.limits s c.place)
bounded_row B.Set s c = row_by set_row (set_at c.limits s c.place)
bounded_row B.Map s c = row_by map_row (map_at c.limits s c.place)
bounded_row B.StructBegin s c = row_by number_row (struct_begin_at c.limits.max_recursion_depth c.struct_depth s c.place)
bounded_row B.StructEnd s c = row_by number_row (struct_end_at c.struct_depth s c.place)
bounded_row B.Message s c = row_by message_row (message_at c.strict c.limits.max_string_size s c.place)
bounded_row B.Frame s c = row_by frame_row (frame_at c.limits.max_frame_size s c.place)
bounded_row B.Limits s c = row_by none_row (built_from c.limits)

abbrev pub scalar_step : Option TType → List ℕ → ℕ → Option Row
scalar_step (Some t) s at = Some (row_by (scalar_row t) (scalar_at t s at))
scalar_step None s at = None

-- a record set by an outcome that the skip answers
pub record SkipSet (t : TType) (s : List ℕ) (c : Reading) (x : Option Row) : Type 0 where
  pub outcome : Outcome
  pub answers : SkipAnswers binary c.limits s c.place c.depth c.struct_depth t outcome
  pub filled_by : x ≡ Some (skip_row c.struct_depth outcome)

abbrev pub SkipStep : Option TType → List ℕ → Reading → Option Row → Type 0
SkipStep (Some t) s c x = SkipSet t s c x
SkipStep None s c x = x ≡ None

abbrev pub ReadSays : Option ReadStep → List ℕ → Reading → Option Row → Type 0
ReadSays (Some (Step.Plain p)) s c x = x ≡ Some (plain_row p s c.place)
ReadSays (Some (Step.Bounded b)) s c x = x ≡ Some (bounded_row b s c)
ReadSays (Some Step.Scalar) s c x = x ≡ scalar_step c.kind s c.place
ReadSays (Some Step.Skip) s c x = SkipStep c.kind s c x
ReadSays None s c x = x ≡ None
