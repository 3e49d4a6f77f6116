-- Which bytes are a value with no value in it, and which a header: "Layout comes from Apache's public Thrift binary protocol document".
use Rattle.std.specs.Prelude.{ℕ, ◌+◌, ◌≡◌, false, List, [], ◌∷◌, length, Some}
use Rattle.codes.specs.Codes.{type_byte, type_of, is_stop, least_size}
use Rattle.codes.specs.declared.TType.{TType}
use Rattle.codes.specs.declared.TType.TheVariants as T
use Rattle.config.specs.declared.configuration.TConfiguration.{TConfiguration}
use Rattle.text.specs.Texts.{sized_layout}
use Rattle.read.specs.Layouts.{field_layout, list_layout, map_layout}
use Rattle.tree.specs.Sizes.{LengthFits, SizeFits}
use Rattle.tree.specs.Coding.{Items, Paired, Heading, stop, going}

-- "Utf7 writes as 0B; 0B reads as String": a type in a header is one that its byte reads as, which is every one but Utf7
abbrev pub Readable : TType → Type 0
Readable t = type_of (type_byte t) ≡ Some t

-- "a string its length and body, no UTF-8 check"
pub record TextBytes (c : TConfiguration) (b : List ℕ) : Type 0 where
  pub body : List ℕ
  pub laid : b ≡ sized_layout body
  pub fits : LengthFits c (length body)

-- a field that goes on: its type byte is known and no Stop, then "a 16-bit id"
pub record FieldBytes (b : List ℕ) (t : TType) : Type 0 where
  pub id : List ℕ
  pub laid : b ≡ field_layout t id
  pub two : length id ≡ 2
  pub reads : Readable t
  pub going : is_stop t ≡ false

-- "00 is Stop with id 0 and nothing more"
abbrev pub HeadBytes : List ℕ → Heading TType Unit → Type 0
HeadBytes b stop = b ≡ type_byte T.Stop ∷ []
HeadBytes b (going t u) = FieldBytes b t

-- "List and set: type byte (5), size"
pub record ListBytes (c : TConfiguration) (b : List ℕ) (x : Items TType) : Type 0 where
  pub laid : b ≡ list_layout x.element x.size
  pub reads : Readable x.element
  pub fits : SizeFits c (least_size x.element) x.size

-- "Map: key type (5), value type (5), size", for rule 9 "key plus value sizes"
pub record MapBytes (c : TConfiguration) (b : List ℕ) (x : Paired TType) : Type 0 where
  pub laid : b ≡ map_layout x.key x.value x.size
  pub key : Readable x.key
  pub value : Readable x.value
  pub fits : SizeFits c (least_size x.key + least_size x.value) x.size
