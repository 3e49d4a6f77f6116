-- The cases of a message's header, each from what leads to it. Assumes nothing.
use Rattle.std.specs.Prelude.{Option, Some}
use Prim.Native.Nat.{ℕ, ◌+◌, ◌<◌, ◌≤◌}
use mathlib.Core.Path.{◌≡◌}
use mathlib.Core.Bool.{Bool, false}
use mathlib.Core.List.{List}
use borrow.Author.Tests.{lt-ltb, le-ltb, eq-eqb}
use lib.IntN.{ℤ}
use lib.ListN.{get_or}
use Rattle.wire.specs.Answer.{Answer, gives, refuse_if, and_then, within}
use Rattle.codes.specs.Codes.{message_of}
use Rattle.codes.specs.declared.TMessageType.{TMessageType}
use Rattle.wire.proofs.Answers.{goes_on}
use Rattle.number.specs.Reads.{byte_at, i32_at}
use Rattle.text.specs.declared.Span.{Span}
use Rattle.message.specs.declared.TMessageIdentifier.{TMessageIdentifier}
use Rattle.text.specs.Texts.{string_at}
use Rattle.message.specs.Messages.{message_type_at, message, sequence_at, versioned_at, unversioned_at, message_at}

module _ (s : List ℕ) (at : ℕ) where
  pub message_known : {b next : ℕ} → gives b next ≡ byte_at s at → {t : TMessageType} → message_of b ≡ Some t → gives t next ≡ message_type_at s at
  unfolding message_type_at and_then
  message_known e h = rw (← e, h)

  pub sequence : (name : Span) (t : TMessageType) {seq : ℤ} {end : ℕ} → gives seq end ≡ i32_at s at → gives (message name t seq) end ≡ sequence_at name t s at
  unfolding sequence_at
  sequence name t e = goes_on _ e

module _ (limit : Option ℕ) (s : List ℕ) (at : ℕ) where
  pub versioned : {t : TMessageType} {named : ℕ} → gives t named ≡ message_type_at s at → {name : Span} {next : ℕ} {r : Answer TMessageIdentifier}
      → gives name next ≡ string_at limit s named → r ≡ sequence_at name t s next → r ≡ versioned_at limit s at
  unfolding versioned_at and_then
  versioned e f g = rw (← e, ← f) g

  pub unversioned : {name : Span} {typed : ℕ} → gives name typed ≡ string_at limit s at → {t : TMessageType} {next : ℕ} {r : Answer TMessageIdentifier}
      → gives t next ≡ message_type_at s typed → r ≡ sequence_at name t s next → r ≡ unversioned_at limit s at
  unfolding unversioned_at and_then
  unversioned e f g = rw (← e, ← f) g

module _ (strict : Bool) (limit : Option ℕ) (s : List ℕ) (at : ℕ) {next : ℕ} (e : gives tt next ≡ within s at 4) where
  pub older : {r : Answer TMessageIdentifier} → get_or s at 0 < 0x80 → strict ≡ false → r ≡ unversioned_at limit s at → r ≡ message_at strict limit s at
  unfolding message_at and_then refuse_if
  older h i f = rw (← e, lt-ltb _ _ h, i) f

  pub newer : {r : Answer TMessageIdentifier} → 0x80 ≤ get_or s at 0 → get_or s at 0 ≡ 0x80 → get_or s (at + 1) 0 ≡ 0x01 → r ≡ versioned_at limit s (at + 3)
      → r ≡ message_at strict limit s at
  unfolding message_at and_then refuse_if
  newer h i j f = rw (← e, le-ltb _ _ h, eq-eqb _ _ i, eq-eqb _ _ j) f
