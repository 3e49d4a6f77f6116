-- The bytes of a field's and of a map's header, or what is missing for them: 17.
use Rattle.std.specs.Prelude.{ℕ, not, List, [], ◌∷◌, ℤ, Option, Some, None}
use Rattle.std.specs.Int.{w16, w32}
use Rattle.std.proofs.Common.{of_z}
use Rattle.wire.specs.Answer.{Answer}
use Rattle.wire.specs.Writes.{Output, puts, fails, fail_if, put_at, write_at}
use Rattle.codes.specs.Codes.{type_byte, is_stop}
use Rattle.codes.specs.declared.TType.{TType}
use Rattle.codes.specs.declared.TType.TheVariants as T
use Rattle.number.specs.BigEndian.{bytes_of}
use Rattle.read.specs.Layouts.{field_layout, list_layout, map_layout}

-- "an absent id is 17 unless the type is Stop. A Stop with an id writes three bytes, as in the Rust; a Stop without one … one"
unfoldable pub field_output : TType → Option ℤ → ℕ → Output
field_output t (Some id) at = puts (field_layout t (bytes_of 2 (of_z w16 id)))
field_output t None at = fail_if (not (is_stop t)) 17 at (puts (type_byte t ∷ []))

-- "field id or map type missing"
unfoldable pub map_output : Option TType → Option TType → ℤ → ℕ → Output
map_output None value size at = fails 17 at
map_output (Some k) None size at = fails 17 at
map_output (Some k) (Some v) size at = puts (map_layout k v (of_z w32 size))

-- What each writer of a header comes to, in a buffer at a place
abbrev pub field_write : TType → Option ℤ → List ℕ → ℕ → Answer (List ℕ)
field_write t id out at = write_at (field_output t id at) out at

-- "the stop writer" writes one byte
abbrev pub stop_write : List ℕ → ℕ → Answer (List ℕ)
stop_write out at = put_at (type_byte T.Stop ∷ []) out at

-- "Negative container sizes are written as given"
abbrev pub list_write : TType → ℤ → List ℕ → ℕ → Answer (List ℕ)
list_write t size out at = put_at (list_layout t (of_z w32 size)) out at

abbrev pub map_write : Option TType → Option TType → ℤ → List ℕ → ℕ → Answer (List ℕ)
map_write k v size out at = write_at (map_output k v size at) out at
