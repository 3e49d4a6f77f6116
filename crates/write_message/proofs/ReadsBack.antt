-- A message that is written reads back: a strict one by any reader, "a legacy message needs a non-strict reader". Assumes nothing.
use Rattle.std.specs.Prelude.{Option}
use Prim.Native.Nat.{ℕ, ◌+◌, ◌<◌, ◌≤◌}
use mathlib.Core.Path.{◌≡◌, refl, sym, ap, ◌∙◌}
use mathlib.Core.Bool.{Bool, true, false}
use mathlib.Core.List.{List, [], ◌∷◌, ◌++◌}
use native.Mathlib.Omega.{arith}
use lib.IntN.{ℤ}
use lib.ListN.{length, get_or}
use mir.Syntax.{w32}
use mir.Val.{SFits, to_z, of_z}
use Rattle.wire.specs.Answer.{Answer, gives}
use Rattle.codes.specs.Codes.{message_byte}
use Rattle.codes.specs.declared.TMessageType.{TMessageType}
use Rattle.codes.proofs.RoundTrips.{message_written}
use Rattle.number.specs.BigEndian.{big, bytes_of}
use Rattle.number.specs.Reads.{byte_at, i32_at}
use Rattle.number.proofs.Widths.{signed_written, length-bytes_of}
use Rattle.config.specs.Limits.{above}
use Rattle.text.specs.Texts.{sized_layout}
use Rattle.text.specs.declared.Span.{Span}
use Rattle.message.specs.Layouts.{message_layout}
use Rattle.message.specs.Messages.{message_type_at, message, message_at}
use Rattle.message.specs.declared.TMessageIdentifier.{TMessageIdentifier}
use Rattle.message.proofs.Messages as messages
use Rattle.tree.specs.Part.{Part}
use Rattle.tree.proofs.Parts.{part_split, part_first}
use Rattle.tree.proofs.Reading.{part_within, number_reads}
use Rattle.write.specs.Found.{Finds}
use Rattle.write.proofs.Outputs.{Name, with_name, written_name}
use Rattle.write.proofs.ReadsBack.{stands, string_found}
use Rattle.write_message.specs.Outputs.{message_write}

-- a header that was read: type, sequence number, and a name whose bytes are those that were written
abbrev Headed : List ℕ → List ℕ → TMessageType → ℤ → Answer TMessageIdentifier → ℕ → Type 0
Headed s name t seq read next = Finds (λ (p : Span). message p t seq) s name read next

module _ {s : List ℕ} {at e : ℕ} where
  message_type_reads : (t : TMessageType) → Part s at e (message_byte t ∷ []) → gives t e ≡ message_type_at s at
  unfolding big
  message_type_reads t p =
      let byte : gives (message_byte t) e ≡ byte_at s at = ap (λ (n : ℕ). gives n e) (omega arith) ∙ number_reads (message_byte t ∷ []) 1 (λ (n : ℕ). n) refl p in
      messages.message_known s at byte (message_written t)

  sequence_reads : (seq : ℤ) → SFits w32 seq → Part s at e (bytes_of 4 (of_z w32 seq)) → gives seq e ≡ i32_at s at
  sequence_reads seq f p =
      ap (λ (z : ℤ). gives z e) (sym (signed_written 4 w32 seq refl f))
      ∙ number_reads (bytes_of 4 (of_z w32 seq)) 4 (to_z w32) (length-bytes_of 4 (of_z w32 seq)) p

-- the first byte of a length below 2,147,483,648 has its top bit clear
clear_top : {s : List ℕ} {at e : ℕ} (n : ℕ) → n < 2147483648 → Part s at e (bytes_of 4 n) → get_or s at 0 < 0x80
unfolding bytes_of
clear_top n h p =
    let first = part_first p in
    rw first.byte (omega arith)

module _ (limit : Option ℕ) (name : List ℕ) (t : TMessageType) (seq : ℤ) (below : above (length name) limit ≡ false) (n : Name name) (g : SFits w32 seq)
    {s : List ℕ} {at e : ℕ} where
  strict_reads : (reader : Bool) → Part s at e (message_layout true name t (of_z w32 seq)) → Headed s name t seq (message_at reader limit s at) e
  strict_reads reader p =
      let head : List ℕ = 0x80 ∷ 0x01 ∷ 0x00 ∷ message_byte t ∷ [] in
      let sp = part_split (head ++ sized_layout name) (bytes_of 4 (of_z w32 seq)) p in
      let sq = part_split head (sized_layout name) sp.left in
      let one = part_first sq.left in
      let two = part_first one.rest in
      let three = part_first two.rest in
      let third : at + 1 + 1 + 1 ≡ at + 3 = omega arith in
      let typed : gives t sq.mid ≡ message_type_at s (at + 3) = message_type_reads t (rw third at three.rest) in
      let found = string_found limit name below sq.right n in
      let high : 0x80 ≤ get_or s at 0 = rw one.byte (omega arith) in
      record {
        place = found.place;
        gave = messages.newer reader limit s at (part_within head 4 refl sq.left) high one.byte two.byte
            (messages.versioned limit s (at + 3) typed found.gave
            (messages.sequence s sp.mid found.place t (sequence_reads seq g sp.right)));
        bytes = found.bytes;
      }

  older_reads : Part s at e (message_layout false name t (of_z w32 seq)) → Headed s name t seq (message_at false limit s at) e
  older_reads p =
      let sp = part_split (sized_layout name ++ (message_byte t ∷ [])) (bytes_of 4 (of_z w32 seq)) p in
      let sq = part_split (sized_layout name) (message_byte t ∷ []) sp.left in
      let size = part_split (bytes_of 4 (length name)) name sq.left in
      let low : get_or s at 0 < 0x80 = clear_top (length name) (omega (arith, n.short)) size.left in
      let found = string_found limit name below sq.left n in
      record {
        place = found.place;
        gave = messages.older false limit s at (part_within (bytes_of 4 (length name)) 4 (length-bytes_of 4 (length name)) size.left) low refl
            (messages.unversioned limit s at found.gave (message_type_reads t sq.right)
            (messages.sequence s sp.mid found.place t (sequence_reads seq g sp.right)));
        bytes = found.bytes;
      }

-- within the reader's limit
module _ (limit : Option ℕ) (name : List ℕ) (t : TMessageType) (seq : ℤ) (below : above (length name) limit ≡ false) (g : SFits w32 seq)
    (out : List ℕ) (at : ℕ) {new : List ℕ} {next : ℕ} where
  pub strict_message_back : (reader : Bool) → gives new next ≡ message_write true name t seq out at
      → Finds (λ (p : Span). message p t seq) new name (message_at reader limit new at) next
  strict_message_back reader e =
      let bs = message_layout true name t (of_z w32 seq) in
      let n = written_name name bs out at e in
      strict_reads limit name t seq below n g reader (stands _ out at (with_name bs at n) e)

  pub older_message_back : gives new next ≡ message_write false name t seq out at
      → Finds (λ (p : Span). message p t seq) new name (message_at false limit new at) next
  older_message_back e =
      let bs = message_layout false name t (of_z w32 seq) in
      let n = written_name name bs out at e in
      older_reads limit name t seq below n g (stands _ out at (with_name bs at n) e)
