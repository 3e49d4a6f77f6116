-- What each write sets the record to, and what it leaves in the buffer.
use Rattle.std.specs.Prelude.{ℕ, ◌/◌, ◌%◌, ◌≡◌, not, cond, List, eqb, length, ℤ, None, Option, Some}
use Rattle.std.specs.Float.{binary64}
use Rattle.std.specs.Float.Ieee.{of_bits}
use Rattle.std.specs.Int.{w8, w16, w32, w64}
use Rattle.std.proofs.Common.{to_z}
use Rattle.wire.specs.Answer.{Answer, judged, stay_at}
use Rattle.codes.specs.declared.TMessageType.{TMessageType}
use Rattle.codes.specs.Codes.{message_of}
use Rattle.wire.specs.Writes.{left}
use Rattle.codes.specs.declared.TType.{TType}
use Rattle.nesting.specs.Structs.{struct_begin_at, struct_end_at}
use Rattle.write.specs.Outputs.{byte_write, bool_write, i8_write, i16_write, i32_write, i64_write, double_write, uuid_write, bytes_write, string_write}
use Rattle.write_headers.specs.Outputs.{field_write, stop_write, list_write, map_write}
use Rattle.write_message.specs.Outputs.{message_write}
use Rattle.framed.specs.Frames.{frame_write}
use Rattle.probe_rows.specs.declared.Row.{Row}
use Rattle.probe_writes.specs.declared.Writing.{Writing}
use Rattle.probe_numbers.specs.declared.Put.{Put}
use Rattle.probe_numbers.specs.declared.Put.TheVariants as U
use Rattle.probe_numbers.specs.declared.Headed.{Headed}
use Rattle.probe_numbers.specs.declared.Headed.TheVariants as H
use Rattle.probe_numbers.specs.declared.Still.{Still}
use Rattle.probe_numbers.specs.declared.Still.TheVariants as Q
use Rattle.probe_numbers.specs.declared.WriteStep.{WriteStep}
use Rattle.probe_numbers.specs.declared.WriteStep.TheVariants as Write
use Rattle.config.specs.Limits.{limit_of}
use Rattle.probe_numbers.specs.Numbers.{kind_of}
use Rattle.probe_rows.specs.Rows.{row_by, none_row, number_row}

abbrev pub writing_of : ℕ → ℕ → ℕ → ℕ → ℕ → ℕ → ℕ → ℕ → Writing
writing_of place strict kind other absent number sd structs =
    record { place = place; strict = not (eqb strict 0); kind = kind; other = other; absent = absent; number = number; struct_depth = sd; structs = limit_of structs }

-- the signed number of the low bits at a width
abbrev pub low8 : ℕ → ℤ
low8 n = to_z w8 (n % 256)

abbrev pub low16 : ℕ → ℤ
low16 n = to_z w16 (n % 65536)

abbrev pub low32 : ℕ → ℤ
low32 n = to_z w32 (n % 4294967296)

-- a write of a number, or of a text, into a buffer at a place
abbrev pub put_write : Put → ℕ → List ℕ → List ℕ → ℕ → Answer (List ℕ)
put_write U.Stop n text out at = stop_write out at
put_write U.Byte n text out at = byte_write (n % 256) out at
put_write U.Bool n text out at = bool_write (not (eqb n 0)) out at
put_write U.I8 n text out at = i8_write (low8 n) out at
put_write U.I16 n text out at = i16_write (low16 n) out at
put_write U.I32 n text out at = i32_write (low32 n) out at
put_write U.I64 n text out at = i64_write (to_z w64 n) out at
put_write U.Double n text out at = double_write (of_bits binary64 n) out at
put_write U.Bytes n text out at = bytes_write text out at
put_write U.String n text out at = string_write text out at
put_write U.Frame n text out at = frame_write text out at

-- bit 0 set: missing
abbrev pub unless_absent : {A : Type 0} → ℕ → A → Option A
unless_absent absent v = cond (eqb (absent % 2) 1) None (Some v)

abbrev pub field_id_of : ℕ → ℕ → Option ℤ
field_id_of absent n = unless_absent absent (low16 n)

abbrev pub map_type_of : ℕ → TType → Option TType
map_type_of absent t = unless_absent absent t

abbrev pub headed_write : Headed → TType → Writing → List ℕ → ℕ → Answer (List ℕ)
headed_write H.Field t c out at = field_write t (field_id_of c.absent c.number) out at
headed_write H.List t c out at = list_write t (low32 c.number) out at
headed_write H.Set t c out at = list_write t (low32 c.number) out at

-- a map: bit 0 for the key's type, bit 1 for the value's
abbrev pub map_asked : TType → TType → Writing → List ℕ → ℕ → Answer (List ℕ)
map_asked k v c out at = map_write (map_type_of c.absent k) (map_type_of (c.absent / 2) v) (low32 c.number) out at

abbrev pub still_row : Still → Writing → List ℕ → ℕ → Row
still_row Q.MessageEnd c out at = row_by none_row (stay_at out at)
still_row Q.StructBegin c out at = row_by number_row (struct_begin_at c.structs c.struct_depth out at)
still_row Q.StructEnd c out at = row_by number_row (struct_end_at c.struct_depth out at)
still_row Q.FieldEnd c out at = row_by none_row (stay_at out at)
still_row Q.ListEnd c out at = row_by none_row (stay_at out at)
still_row Q.SetEnd c out at = row_by none_row (stay_at out at)
still_row Q.MapEnd c out at = row_by none_row (stay_at out at)

-- what a step does: a write, a row with the buffer as it was, or nothing as there is no such step or type
pub data Does : Type 0 where
  writes : Answer (List ℕ) → Does
  stays : Row → Does
  nothing : Does

abbrev pub comes_to : Does → Option Row
comes_to (writes w) = Some (row_by none_row (judged w))
comes_to (stays w) = Some w
comes_to nothing = None

abbrev pub buffer : Does → List ℕ → List ℕ
buffer (writes w) old = left w old
buffer (stays w) old = old
buffer nothing old = old

pub record WriteSays (d : Does) (x : Option Row) (new old : List ℕ) : Type 0 where
  pub came : x ≡ comes_to d
  pub holds : new ≡ buffer d old

-- a type index, or a message type's byte, must be known
abbrev pub if_type : Option TType → (TType → Does) → Does
if_type (Some t) does = does t
if_type None does = nothing

abbrev pub headed_does : Headed → Writing → List ℕ → ℕ → Does
headed_does h c out at = if_type (kind_of c.kind) λ t. writes (headed_write h t c out at)

abbrev pub map_does : Writing → List ℕ → ℕ → Does
map_does c out at =
    if_type (kind_of c.kind) λ k.
    if_type (kind_of c.other) λ v.
    writes (map_asked k v c out at)

abbrev pub message_by : Option TMessageType → Writing → List ℕ → List ℕ → ℕ → Does
message_by (Some t) c name out at = writes (message_write c.strict name t (low32 c.number) out at)
message_by None c name out at = nothing

abbrev pub message_does : Writing → List ℕ → List ℕ → ℕ → Does
message_does c name out at = message_by (message_of c.kind) c name out at

abbrev pub uuid_does : List ℕ → List ℕ → ℕ → Does
uuid_does text out at = cond (eqb (length text) 16) (writes (uuid_write text out at)) nothing

abbrev pub does_of : Option WriteStep → Writing → List ℕ → List ℕ → Does
does_of (Some (Write.Put p)) c text out = writes (put_write p c.number text out c.place)
does_of (Some (Write.Headed h)) c text out = headed_does h c out c.place
does_of (Some Write.Map) c text out = map_does c out c.place
does_of (Some Write.Message) c text out = message_does c text out c.place
does_of (Some Write.Uuid) c text out = uuid_does text out c.place
does_of (Some (Write.Still q)) c text out = stays (still_row q c out c.place)
does_of None c text out = nothing
