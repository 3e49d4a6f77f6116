-- Apache's layout of the headers: the very bytes, which the tree's layout and the writers both cite.
use Rattle.std.specs.Prelude.{ℕ, List, ◌∷◌}
use Rattle.codes.specs.Codes.{type_byte}
use Rattle.codes.specs.declared.TType.{TType}
use Rattle.number.specs.BigEndian.{bytes_of}

-- a field: its type, then the two bytes of its id
abbrev pub field_layout : TType → List ℕ → List ℕ
field_layout t id = type_byte t ∷ id

-- a list or a set: the element type, then the number of elements in four bytes
abbrev pub list_layout : TType → ℕ → List ℕ
list_layout t n = type_byte t ∷ bytes_of 4 n

-- a map: the key type, the value type, then the number of pairs in four bytes
abbrev pub map_layout : TType → TType → ℕ → List ℕ
map_layout k v n = type_byte k ∷ type_byte v ∷ bytes_of 4 n
