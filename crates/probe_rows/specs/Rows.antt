-- The record's six numbers for each kind of answer. Signed values are given by their bits, types by their bytes.
use Rattle.std.specs.Prelude.{ℕ, Bool, ℤ, Float, Option, Some, None, Result, Ok, Err}
use Rattle.std.specs.Float.{binary64}
use Rattle.std.specs.Float.Ieee.{to_bits}
use Rattle.std.specs.Int.{Width, w8, w16, w32, w64}
use Rattle.std.proofs.Common.{of_z}
use Rattle.wire.specs.Answer.{Answer, gives, refused}
use Rattle.codes.specs.Codes.{type_byte, message_byte}
use Rattle.codes.specs.declared.TType.{TType}
use Rattle.codes.specs.declared.TMessageType.{TMessageType}
use Rattle.text.specs.declared.Span.{Span}
use Rattle.read.specs.declared.field.TFieldIdentifier.{TFieldIdentifier}
use Rattle.read.specs.declared.container.TListIdentifier.{TListIdentifier}
use Rattle.read.specs.declared.container.TSetIdentifier.{TSetIdentifier}
use Rattle.read.specs.declared.container.TMapIdentifier.{TMapIdentifier}
use Rattle.scalar.specs.declared.Scalar.{Scalar}
use Rattle.scalar.specs.declared.Scalar.TheVariants as S
use Rattle.message.specs.declared.TMessageIdentifier.{TMessageIdentifier}
use Rattle.write.specs.Outputs.{bool_byte}
use Rattle.tree.specs.Answers.{Outcome, ended, cut_off}
use Rattle.leaf.specs.declared.Halt.{Halt}
use Rattle.skip.specs.declared.till_depth.Skipped.{Skipped}
use Rattle.probe_rows.specs.declared.Row.{Row}

-- refusal number or 0, end or place, a, b, c, d
abbrev pub row : ℕ → ℕ → ℕ → ℕ → ℕ → ℕ → Row
row n p a b c d = record { number = n; place = p; a = a; b = b; c = c; d = d }

-- a value's row is as it says, with the place after it; a refusal has no values
abbrev pub row_by : {A : Type 0} → (A → ℕ → Row) → Answer A → Row
row_by says (gives v p) = says v p
row_by says (refused n p) = row n p 0 0 0 0

abbrev pub none_row : {A : Type 0} → A → ℕ → Row
none_row v p = row 0 p 0 0 0 0

abbrev pub number_row : ℕ → ℕ → Row
number_row v p = row 0 p v 0 0 0

abbrev pub bool_row : Bool → ℕ → Row
bool_row v p = row 0 p (bool_byte v) 0 0 0

abbrev pub bits_row : Width → ℤ → ℕ → Row
bits_row w v p = row 0 p (of_z w v) 0 0 0

-- any NaN as 7ff8000000000000
abbrev pub double_row : Float → ℕ → Row
double_row v p = row 0 p (to_bits binary64 v) 0 0 0

abbrev pub span_row : Span → ℕ → Row
span_row v p = row 0 p v.start v.end 0 0

abbrev pub type_row : TType → ℕ → Row
type_row t p = row 0 p (type_byte t) 0 0 0

abbrev pub field_row : TFieldIdentifier → ℕ → Row
field_row v p = row 0 p (type_byte v.field_type) (of_z w16 v.id) 0 0

abbrev pub list_row : TListIdentifier → ℕ → Row
list_row v p = row 0 p (type_byte v.element_type) (of_z w32 v.size) 0 0

abbrev pub set_row : TSetIdentifier → ℕ → Row
set_row v p = row 0 p (type_byte v.element_type) (of_z w32 v.size) 0 0

abbrev pub map_row : TMapIdentifier → ℕ → Row
map_row v p = row 0 p (type_byte v.key_type) (type_byte v.value_type) (of_z w32 v.size) 0

abbrev pub message_type_row : TMessageType → ℕ → Row
message_type_row t p = row 0 p (message_byte t) 0 0 0

abbrev pub message_row : TMessageIdentifier → ℕ → Row
message_row v p = row 0 p v.name.start v.name.end (message_byte v.message_type) (of_z w32 v.sequence_number)

-- 1 where there is a frame, 0 at the end
abbrev pub frame_row : Option Span → ℕ → Row
frame_row (Some v) p = row 0 p 1 v.start v.end 0
frame_row None p = row 0 p 0 0 0 0

abbrev pub scalar_bits : Scalar → ℕ
scalar_bits (S.Bool b) = bool_byte b
scalar_bits (S.I08 i) = of_z w8 i
scalar_bits (S.I16 i) = of_z w16 i
scalar_bits (S.I32 i) = of_z w32 i
scalar_bits (S.I64 i) = of_z w64 i
scalar_bits (S.Double d) = to_bits binary64 d

abbrev pub scalar_row : TType → Scalar → ℕ → Row
scalar_row t v p = row 0 p (type_byte t) (scalar_bits v) 0 0

-- count and struct depth; a refusal too has its count
abbrev pub skip_row : ℕ → Outcome → Row
skip_row sd (ended e n) = row 0 e n sd 0 0
skip_row sd (cut_off k p n) = row k p n 0 0 0

-- the struct depth in the skip's own answer; a refusal has none
abbrev pub depth_in : Result Skipped Halt → ℕ
depth_in (Ok k) = k.struct_depth
depth_in (Err x) = 0
