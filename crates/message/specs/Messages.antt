-- A message's header, strict and not.
use Rattle.std.specs.Prelude.{ℕ, ◌+◌, Bool, not, cond, List, ltb, eqb, ℤ, get_or, None, Option, Some}
use Rattle.wire.specs.Answer.{Answer, gives, refused, refuse_if, and_then, mapped, within}
use Rattle.codes.specs.Codes.{message_of}
use Rattle.codes.specs.declared.TMessageType.{TMessageType}
use Rattle.number.specs.Reads.{byte_at, i32_at}
use Rattle.text.specs.Texts.{string_at}
use Rattle.text.specs.declared.Span.{Span}
use Rattle.message.specs.declared.TMessageIdentifier.{TMessageIdentifier}

-- "type byte (1, 4)"
abbrev pub known_message : ℕ → ℕ → Option TMessageType → Answer TMessageType
known_message at next (Some t) = gives t next
known_message at next None = refused 4 at

unfoldable pub message_type_at : List ℕ → ℕ → Answer TMessageType
message_type_at s at = and_then (byte_at s at) λ b next. known_message at next (message_of b)

abbrev pub message : Span → TMessageType → ℤ → TMessageIdentifier
message name t seq = record { name = name; message_type = t; sequence_number = seq }

-- "then a 32-bit sequence number"
unfoldable pub sequence_at : Span → TMessageType → List ℕ → ℕ → Answer TMessageIdentifier
sequence_at name t s at = and_then (i32_at s at) λ seq end. gives (message name t seq) end

-- from the type byte on: "byte 3 is the type (4), then name, then a 32-bit sequence number"
unfoldable pub versioned_at : Option ℕ → List ℕ → ℕ → Answer TMessageIdentifier
versioned_at limit s at =
    and_then (message_type_at s at) λ t named.
    and_then (string_at limit s named) λ name next.
    sequence_at name t s next

-- "the four bytes are the name length, then limit (7), body (1), UTF-8 (13), type byte (1, 4), sequence number": with its top bit clear
-- the length is not negative, so this is a string at the same place
unfoldable pub unversioned_at : Option ℕ → List ℕ → ℕ → Answer TMessageIdentifier
unversioned_at limit s at =
    and_then (string_at limit s at) λ name typed.
    and_then (message_type_at s typed) λ t next.
    sequence_at name t s next

-- "Top bit set: bytes 0 and 1 must be 80 01 (else 3), byte 2 is ignored"; "Top bit clear: in strict mode 3"
unfoldable pub message_at : Bool → Option ℕ → List ℕ → ℕ → Answer TMessageIdentifier
message_at strict limit s at =
    and_then (within s at 4) λ _ _.
    cond (ltb (get_or s at 0) 0x80)
    (refuse_if strict 3 at
    (unversioned_at limit s at))
    (refuse_if (not (eqb (get_or s at 0) 0x80)) 3 at
    (refuse_if (not (eqb (get_or s (at + 1) 0) 0x01)) 3 at
    (versioned_at limit s (at + 3))))

-- the name in what was read
abbrev pub name_of : Answer TMessageIdentifier → Answer Span
name_of m = mapped (λ (v : TMessageIdentifier). v.name) m
