-- What an encoding is, to a skip: how its headers and its values with no value in them are read, and which bytes they are.
use Rattle.std.specs.Prelude.{ℕ, List}
use Rattle.wire.specs.Answer.{Answer}
use Rattle.config.specs.declared.configuration.TConfiguration.{TConfiguration}

-- what is in the values of a kind: nothing ("a scalar or a UUID", a string, and what can't be skipped), fields, elements, or pairs
pub data View : Type 0 where
  leaf : View
  fields : View
  items : View
  pairs : View

-- what a list's or a set's header says: the elements' kind and their number
pub record Items (K : Type 0) : Type 0 where
  pub element : K
  pub size : ℕ

-- what a map's header says: "key type (5), value type (5), size"
pub record Paired (K : Type 0) : Type 0 where
  pub key : K
  pub value : K
  pub size : ℕ

-- what a field's header says: Stop; or the kind of the value that follows, and what is remembered for the next header
pub data Heading (K S : Type 0) : Type 0 where
  stop : Heading K S
  going : K → S → Heading K S

-- an encoding
pub record Coding : Type 1 where
  -- what a value is asked for as: in the binary encoding, its type
  pub Kind : Type 0
  -- what one field's header leaves for the next: in the binary encoding, nothing
  pub State : Type 0
  pub view : Kind → View
  -- what is remembered before a struct's first field
  pub start : State
  -- what is read at a place: a value with no value in it, a field's header, a list's or set's, a map's
  pub leaf_at : TConfiguration → Kind → List ℕ → ℕ → Answer Unit
  pub field_at : State → List ℕ → ℕ → Answer (Heading Kind State)
  pub list_at : TConfiguration → List ℕ → ℕ → Answer (Items Kind)
  pub map_at : TConfiguration → List ℕ → ℕ → Answer (Paired Kind)
  -- which bytes lie there: of such a value, and of a header that says this
  pub Leaf : TConfiguration → Kind → List ℕ → Type 0
  pub Head : State → List ℕ → Heading Kind State → Type 0
  pub ListHead : TConfiguration → List ℕ → Items Kind → Type 0
  pub MapHead : TConfiguration → List ℕ → Paired Kind → Type 0
