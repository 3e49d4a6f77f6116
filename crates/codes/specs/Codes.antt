-- The bytes that stand for types and for message types, and the least sizes of 01's rule 9.
use Rattle.std.specs.Prelude.{ℕ, Bool, List, [], ◌∷◌, eqb, get_or, Option, Some, None}
use Rattle.codes.specs.declared.TType.{TType}
use Rattle.codes.specs.declared.TType.TheVariants as T
use Rattle.codes.specs.declared.TMessageType.{TMessageType}
use Rattle.codes.specs.declared.TMessageType.TheVariants as M

-- the byte that a type is written as
abbrev pub type_byte : TType → ℕ
type_byte T.Stop = 0x00
type_byte T.Void = 0x01
type_byte T.Bool = 0x02
type_byte T.I08 = 0x03
type_byte T.Double = 0x04
type_byte T.I16 = 0x06
type_byte T.I32 = 0x08
type_byte T.I64 = 0x0A
type_byte T.String = 0x0B
type_byte T.Utf7 = 0x0B
type_byte T.Struct = 0x0C
type_byte T.Map = 0x0D
type_byte T.Set = 0x0E
type_byte T.List = 0x0F
type_byte T.Uuid = 0x10

-- what each byte is read as, from 00 on: 0B as String; 05, 07 and 09 stand for nothing, and so do all above 10 (hex)
abbrev pub types : List (Option TType)
types =
    Some T.Stop  -- 00
    ∷ Some T.Void  -- 01
    ∷ Some T.Bool  -- 02
    ∷ Some T.I08  -- 03
    ∷ Some T.Double  -- 04
    ∷ None  -- 05
    ∷ Some T.I16  -- 06
    ∷ None  -- 07
    ∷ Some T.I32  -- 08
    ∷ None  -- 09
    ∷ Some T.I64  -- 0A
    ∷ Some T.String  -- 0B
    ∷ Some T.Struct  -- 0C
    ∷ Some T.Map  -- 0D
    ∷ Some T.Set  -- 0E
    ∷ Some T.List  -- 0F
    ∷ Some T.Uuid  -- 10
    ∷ []

abbrev pub type_of : ℕ → Option TType
type_of b = get_or types b None

-- a type that ends a struct's fields: the one of byte 00
abbrev pub is_stop : TType → Bool
is_stop t = eqb (type_byte t) 0

-- the type that a written type is read as: Utf7 shares String's byte
abbrev pub as_read : TType → TType
as_read T.Stop = T.Stop
as_read T.Void = T.Void
as_read T.Bool = T.Bool
as_read T.I08 = T.I08
as_read T.Double = T.Double
as_read T.I16 = T.I16
as_read T.I32 = T.I32
as_read T.I64 = T.I64
as_read T.String = T.String
as_read T.Utf7 = T.String
as_read T.Struct = T.Struct
as_read T.Map = T.Map
as_read T.Set = T.Set
as_read T.List = T.List
as_read T.Uuid = T.Uuid

-- Call 1, Reply 2, Exception 3, OneWay 4, and nothing else
abbrev pub message_byte : TMessageType → ℕ
message_byte M.Call = 1
message_byte M.Reply = 2
message_byte M.Exception = 3
message_byte M.OneWay = 4

-- what each byte is read as, from 0 on
abbrev pub messages : List (Option TMessageType)
messages =
    None  -- 0
    ∷ Some M.Call  -- 1
    ∷ Some M.Reply  -- 2
    ∷ Some M.Exception  -- 3
    ∷ Some M.OneWay  -- 4
    ∷ []

abbrev pub message_of : ℕ → Option TMessageType
message_of b = get_or messages b None

-- rule 9's least sizes, as the crate counts them
abbrev pub least_size : TType → ℕ
least_size T.Stop = 1
least_size T.Void = 1
least_size T.Bool = 1
least_size T.I08 = 1
least_size T.Double = 8
least_size T.I16 = 2
least_size T.I32 = 4
least_size T.I64 = 8
least_size T.String = 4
least_size T.Utf7 = 1
least_size T.Struct = 1
least_size T.Map = 4
least_size T.Set = 4
least_size T.List = 4
least_size T.Uuid = 16
