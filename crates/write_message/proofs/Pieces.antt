-- The pieces of a message's header, one behind the other. Assumes nothing.
use Prim.Native.Nat.{ℕ, ◌+◌, ◌-◌, ◌≤◌}
use mathlib.Core.Path.{◌≡◌, refl, sym}
use mathlib.Core.Bool.{Bool, true, false, cond}
use mathlib.Core.List.{List, [], ◌∷◌, ◌++◌}
use native.Mathlib.Omega.{arith}
use lib.ListN.{length, take, drop, length-append}
use borrow.Rule.Slice.PartMut.{put_mid}
use Rattle.codes.specs.Codes.{message_byte}
use Rattle.wire.specs.Writes.{in_front}
use Rattle.codes.specs.declared.TMessageType.{TMessageType}
use Rattle.wire.proofs.Writes.{behind}
use Rattle.number.specs.BigEndian.{bytes_of}
use Rattle.number.proofs.Widths.{length-bytes_of}
use Rattle.text.specs.Texts.{sized_layout}
use Rattle.text.proofs.Layouts.{length-sized}
use Rattle.message.specs.Layouts.{message_layout}

module _ (name : List ℕ) (t : TMessageType) (seq : ℕ) where
  pub length_versioned : length (message_layout true name t seq) ≡ 12 + length name
  length_versioned = simp (length-append, length-bytes_of) (omega arith)

  pub length_unversioned : length (message_layout false name t seq) ≡ 9 + length name
  length_unversioned = simp (length-append, length-bytes_of) (omega arith)

-- of either layout
pub length_layout : (strict : Bool) (name : List ℕ) (t : TMessageType) (seq : ℕ) → length (message_layout strict name t seq) ≡ cond strict 12 9 + length name
length_layout true name t seq = length_versioned name t seq
length_layout false name t seq = length_unversioned name t seq

-- what a leaf leaves that puts bs at a place of out
abbrev put_in : ℕ → List ℕ → List ℕ → List ℕ
put_in p bs out = put_mid p (length out - p) out (in_front bs (take (length out - p) (drop p out)))

-- each piece is put where the one before it ends
module _ (out name : List ℕ) (strict : Bool) (t : TMessageType) (seq : ℕ) where
  pub versioned : strict ≡ true → 12 + length name ≤ length out
      → in_front (message_layout strict name t seq) out
      ≡ put_in (8 + length name) (bytes_of 4 seq) (put_in 4 (sized_layout name) (in_front (0x80 ∷ 0x01 ∷ 0x00 ∷ message_byte t ∷ []) out))
  versioned e h =
      let head : List ℕ = 0x80 ∷ 0x01 ∷ 0x00 ∷ message_byte t ∷ [] in
      let two : length (head ++ sized_layout name) ≡ 8 + length name = simp (length-append, length-bytes_of) (omega arith) in
      let all : length (message_layout true name t seq) ≡ 12 + length name = length_versioned name t seq in
      let first = behind out head (sized_layout name) 4 refl (omega arith) refl refl in
      rw e (sym (behind out (head ++ sized_layout name) (bytes_of 4 seq) (8 + length name) (omega arith) (omega arith) first refl))

  pub unversioned : strict ≡ false → 9 + length name ≤ length out
      → in_front (message_layout strict name t seq) out
      ≡ put_in (5 + length name) (bytes_of 4 seq) (put_in (4 + length name) (message_byte t ∷ []) (in_front (sized_layout name) out))
  unversioned e h =
      let one : length (sized_layout name) ≡ 4 + length name = length-sized name in
      let two : length (sized_layout name ++ message_byte t ∷ []) ≡ 5 + length name = simp (length-append, length-bytes_of) (omega arith) in
      let all : length (message_layout false name t seq) ≡ 9 + length name = length_unversioned name t seq in
      let first = behind out (sized_layout name) (message_byte t ∷ []) (4 + length name) (omega arith) (omega arith) refl refl in
      rw e (sym (behind out (sized_layout name ++ message_byte t ∷ []) (bytes_of 4 seq) (5 + length name) (omega arith) (omega arith) first refl))
