-- Headers: a type byte, a field, lists, sets and maps.
use Rattle.std.specs.Prelude.{ℕ, ◌+◌, ◌*◌, cond, List, ℤ, pos, Option, Some, None}
use Rattle.wire.specs.Answer.{Answer, gives, refused, refuse_if, and_then, mapped}
use Rattle.codes.specs.Codes.{type_of, is_stop, least_size}
use Rattle.codes.specs.declared.TType.{TType}
use Rattle.number.specs.Reads.{byte_at, i16_at}
use Rattle.config.specs.Limits.{above}
use Rattle.config.specs.declared.configuration.TConfiguration.{TConfiguration}
use Rattle.text.specs.Texts.{size_at}
use Rattle.read.specs.declared.field.TFieldIdentifier.{TFieldIdentifier}
use Rattle.read.specs.declared.container.TListIdentifier.{TListIdentifier}
use Rattle.read.specs.declared.container.TSetIdentifier.{TSetIdentifier}
use Rattle.read.specs.declared.container.TMapIdentifier.{TMapIdentifier}

-- "type byte (1, 5)": what the byte stands for, or 5 at that byte
abbrev pub known : ℕ → ℕ → Option TType → Answer TType
known at next (Some t) = gives t next
known at next None = refused 5 at

unfoldable pub type_at : List ℕ → ℕ → Answer TType
type_at s at = and_then (byte_at s at) λ b next. known at next (type_of b)

abbrev pub field : TType → ℤ → TFieldIdentifier
field t id = record { field_type = t; id = id }

-- "00 is Stop with id 0 and nothing more; else a 16-bit id"
unfoldable pub field_at : List ℕ → ℕ → Answer TFieldIdentifier
field_at s at =
    and_then (type_at s at) λ t next.
    cond (is_stop t) (gives (field t (pos 0)) next)
    (and_then (i16_at s next) λ id end. gives (field t id) end)

-- a number of elements of at least so many bytes each: "Then 6, 8, 9", and rule 9 counts size times the least bytes
unfoldable pub count_at : TConfiguration → ℕ → List ℕ → ℕ → Answer ℕ
count_at c least s at =
    and_then (size_at s at) λ size next.
    refuse_if (above size c.max_container_size) 8 at
    (refuse_if (above (size * least) c.max_message_size) 9 at
    (gives size next))

-- an identifier holds its size in 32 signed bits, as the Rust's does
abbrev pub list : TType → ℕ → TListIdentifier
list t size = record { element_type = t; size = pos size }

-- "type byte (5), size"
unfoldable pub list_at : TConfiguration → List ℕ → ℕ → Answer TListIdentifier
list_at c s at =
    and_then (type_at s at) λ t next.
    and_then (count_at c (least_size t) s next) λ size end.
    gives (list t size) end

-- a set is laid out as a list is
abbrev pub as_set : TListIdentifier → TSetIdentifier
as_set l = record { element_type = l.element_type; size = l.size }

unfoldable pub set_at : TConfiguration → List ℕ → ℕ → Answer TSetIdentifier
set_at c s at = mapped as_set (list_at c s at)

abbrev pub map : TType → TType → ℕ → TMapIdentifier
map k v size = record { key_type = k; value_type = v; size = pos size }

-- "key type (5), value type (5), size"; rule 9 counts "key plus value sizes"
unfoldable pub map_at : TConfiguration → List ℕ → ℕ → Answer TMapIdentifier
map_at c s at =
    and_then (type_at s at) λ k value.
    and_then (type_at s value) λ v next.
    and_then (count_at c (least_size k + least_size v) s next) λ size end.
    gives (map k v size) end
