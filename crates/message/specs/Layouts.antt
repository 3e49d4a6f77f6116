-- A message's header as bytes.
use Rattle.std.specs.Prelude.{ℕ, Bool, true, false, List, [], ◌∷◌, ◌++◌}
use Rattle.codes.specs.Codes.{message_byte}
use Rattle.codes.specs.declared.TMessageType.{TMessageType}
use Rattle.number.specs.BigEndian.{bytes_of}
use Rattle.text.specs.Texts.{sized_layout}

-- "Strict message: 80 01 00 and type, name, sequence", else "legacy": name, type, sequence. The sequence is given by its 32 bits
abbrev pub message_layout : Bool → List ℕ → TMessageType → ℕ → List ℕ
message_layout true name t seq = ((0x80 ∷ 0x01 ∷ 0x00 ∷ message_byte t ∷ []) ++ sized_layout name) ++ bytes_of 4 seq
message_layout false name t seq = (sized_layout name ++ (message_byte t ∷ [])) ++ bytes_of 4 seq
