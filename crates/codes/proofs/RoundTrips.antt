-- The codes: what is written reads back, and what is read is written so. Assumes nothing.
use Prim.Native.Nat.{ℕ}
use mathlib.Core.Path.{◌≡◌, refl, subst}
use native.Mathlib.Nat.{zero-add}
use borrow.Author.Rules.{rules}
use Rattle.std.specs.Prelude.{Option, Some, None}
use Rattle.codes.specs.Codes.{type_byte, type_of, types, as_read, message_byte, message_of, messages}
use Rattle.codes.specs.declared.TType.{TType}
use Rattle.codes.specs.declared.TType.TheVariants as T
use Rattle.codes.specs.declared.TMessageType.{TMessageType}
use Rattle.codes.specs.declared.TMessageType.TheVariants as M
use Rattle.codes.proofs.Tables.{entry}

-- what the byte of each type is read as: itself, but Utf7 as String
pub type_written : (t : TType) → type_of (type_byte t) ≡ Some (as_read t)
type_written T.Stop = refl
type_written T.Void = refl
type_written T.Bool = refl
type_written T.I08 = refl
type_written T.Double = refl
type_written T.I16 = refl
type_written T.I32 = refl
type_written T.I64 = refl
type_written T.String = refl
type_written T.Utf7 = refl
type_written T.Struct = refl
type_written T.Map = refl
type_written T.Set = refl
type_written T.List = refl
type_written T.Uuid = refl

pub message_written : (t : TMessageType) → message_of (message_byte t) ≡ Some t
message_written M.Call = refl
message_written M.Reply = refl
message_written M.Exception = refl
message_written M.OneWay = refl

-- the rule of both tables: a number that stands for something is that thing's byte
abbrev TypeRule : ℕ → Option TType → Type 0
TypeRule b (Some t) = type_byte t ≡ b
TypeRule b None = Unit

abbrev MessageRule : ℕ → Option TMessageType → Type 0
MessageRule b (Some t) = message_byte t ≡ b
MessageRule b None = Unit

type_rule : (b : ℕ) → TypeRule b (type_of b)
type_rule b = rw zero-add at (entry TypeRule 0 types None (search rules) (λ n. tt) b)

pub type_read : (b : ℕ) (t : TType) → type_of b ≡ Some t → type_byte t ≡ b
type_read b t e = subst (TypeRule b) e (type_rule b)

message_rule : (b : ℕ) → MessageRule b (message_of b)
message_rule b = rw zero-add at (entry MessageRule 0 messages None (search rules) (λ n. tt) b)

pub message_read : (b : ℕ) (t : TMessageType) → message_of b ≡ Some t → message_byte t ≡ b
message_read b t e = subst (MessageRule b) e (message_rule b)
