-- What is written reads back, over any bytes before and after: each kind by the definition of its read, at the place where it was written, to the
-- place where the write ended. Not so, by 01: a Stop with an id, a negative size, a NaN's payload as a float. Assumes nothing.
use Rattle.std.specs.Prelude.{Option}
use Prim.Native.Nat.{ℕ, ◌+◌, ◌%◌, ◌^◌, ◌≤◌}
use mathlib.Core.Path.{◌≡◌, refl, sym, ap, ◌∙◌}
use mathlib.Core.Bool.{Bool, true, false, not}
use mathlib.Core.List.{List, [], ◌∷◌, append_assoc}
use native.Mathlib.Nat.{mod-eq_of_lt, add-sub_cancel_left}
use native.Mathlib.Omega.{arith}
use lib.Dec.{T, ltb, eqb}
use lib.Ieee.{Float, binary64, fits, of_bits, to_bits}
use lib.Ieee.Bits.{of_bits-to_bits, to_bits-lt}
use lib.IntN.{ℤ}
use lib.ListN.{length, take, length-take}
use lib.Seq.{take-append_seam, drop_at}
use mir.Syntax.{Width, w8, w16, w32, w64}
use mir.Val.{SFits, bits, to_z, of_z}
use Rattle.wire.specs.Answer.{gives}
use Rattle.wire.specs.Writes.{room_for, laid, Output, puts, unless_fails, write_at, put_at}
use Rattle.wire.proofs.Answers.{passed, went}
use Rattle.wire.proofs.Writes.{has_room, room_fits, length_laid}
use Rattle.number.specs.BigEndian.{big, bytes_of}
use Rattle.number.specs.Reads.{number_at, byte_at, bool_at, i8_at, i16_at, i32_at, i64_at, double_at}
use Rattle.number.proofs.Widths.{written, signed_written, length-bytes_of}
use Rattle.config.specs.Limits.{above}
use Rattle.text.specs.Texts.{span, sized_layout, part_marked, sized_at, bytes_at, string_at, uuid_at}
use Rattle.text.proofs.Texts as texts
use Rattle.text.specs.declared.Body.{Body}
use Rattle.text.specs.declared.Body.TheVariants as BodyOf
use Rattle.tree.specs.Part.{Part}
use Rattle.tree.proofs.Parts.{part_length, part_split}
use Rattle.tree.proofs.Reading.{part_within, number_reads}
use Rattle.binary.proofs.Reading.{sized_reads}
use Rattle.write.specs.Found.{Found}
use Rattle.write.specs.Outputs.{byte_write, bool_write, i8_write, i16_write, i32_write, i64_write, double_write, uuid_write, bytes_write, string_write}
use Rattle.write.proofs.Outputs.{Name, short, is_short, with_name, written_name}

-- bytes that were laid stand where they were laid
pub laid_part : (bs out : List ℕ) (at : ℕ) → at + length bs ≤ length out → Part (laid bs out at) at (at + length bs) bs
unfolding laid
laid_part bs out at h =
    let head : length (take at out) ≡ at = rw (length-take) (omega arith) in
    record {
      from = omega arith;
      within = rw (length_laid bs out at h) h;
      bytes = rw (add-sub_cancel_left, append_assoc, drop_at (take at out) _ at head, take-append_seam);
    }

-- what a write put down stands from its place to its end
pub stands : (output : Output) (out : List ℕ) (at : ℕ) {bs new : List ℕ} {next : ℕ} → puts bs ≡ output → gives new next ≡ write_at output out at
    → Part new at next bs
unfolding write_at unless_fails
stands output out at {bs} {new} {next} e w =
    let a = passed (ltb (length out) at) 2 at _ (rw (← e) at w) in
    let b = went (room_for (length out) at (length bs)) _ a.gave in
    let room = room_fits (length out) at (length bs) b.gave in
    let buffer : new ≡ laid bs out at = cc b.on in
    let place : next ≡ at + length bs = cc (b.on, (has_room (length out) at (length bs) b.gave).after) in
    rw (buffer, place) (laid_part bs out at room)

-- a part is what a span over it marks
marked : {s b : List ℕ} {at e : ℕ} → Part s at e b → part_marked s (span at e) ≡ b
marked {s} {b} {at} {e} p = sym (texts.part_inside s (span at e) p.within) ∙ p.bytes

-- a size and its bytes within the reader's limit
module _ {s : List ℕ} {at e : ℕ} (limit : Option ℕ) (b : List ℕ) (below : above (length b) limit ≡ false) (p : Part s at e (sized_layout b)) where
  -- with any number for the limit
  pub sized_found : (body : Body) → length b ≤ 2147483647 → Found s b (sized_at body limit s at) e
  sized_found body h =
      let sp = part_split (bytes_of 4 (length b)) b p in
      let l = part_length sp.left in
      let mid : sp.mid ≡ at + 4 = omega (arith, length-bytes_of 4 (length b), l) in
      record { place = span (at + 4) e; gave = sized_reads body limit b (omega arith) below p; bytes = marked (rw mid at sp.right) }

  pub string_found : Name b → Found s b (string_at limit s at) e
  string_found n =
      let t = sized_found BodyOf.Text n.short in
      record { place = t.place; gave = texts.string limit s at t.gave (rw t.bytes n.utf8); bytes = t.bytes }

module _ (out : List ℕ) (at : ℕ) {new : List ℕ} {next : ℕ} where
  -- numbers, at any width
  pub number_back : {A : Type 0} (w n : ℕ) (f : ℕ → A) → gives new next ≡ put_at (bytes_of w n) out at → gives (f (n % 256 ^ w)) next ≡ number_at w f new at
  number_back w n f e =
      ap (λ (m : ℕ). gives (f m) next) (sym (written w n))
      ∙ number_reads (bytes_of w n) w f (length-bytes_of w n) (stands _ out at refl e)

  -- signed ones, at any width whose bits are the bytes'
  pub signed_back : (w : ℕ) (k : Width) (v : ℤ) → 256 ^ w ≡ 2 ^ bits k → SFits k v → gives new next ≡ put_at (bytes_of w (of_z k v)) out at
      → gives v next ≡ number_at w (to_z k) new at
  signed_back w k v s f e =
      ap (λ (z : ℤ). gives z next) (sym (signed_written w k v s f))
      ∙ number_reads (bytes_of w (of_z k v)) w (to_z k) (length-bytes_of w (of_z k v)) (stands _ out at refl e)

  pub i8_back : (v : ℤ) → SFits w8 v → gives new next ≡ i8_write v out at → gives v next ≡ i8_at new at
  i8_back v f e = signed_back 1 w8 v refl f e

  pub i16_back : (v : ℤ) → SFits w16 v → gives new next ≡ i16_write v out at → gives v next ≡ i16_at new at
  i16_back v f e = signed_back 2 w16 v refl f e

  pub i32_back : (v : ℤ) → SFits w32 v → gives new next ≡ i32_write v out at → gives v next ≡ i32_at new at
  i32_back v f e = signed_back 4 w32 v refl f e

  pub i64_back : (v : ℤ) → SFits w64 v → gives new next ≡ i64_write v out at → gives v next ≡ i64_at new at
  i64_back v f e = signed_back 8 w64 v refl f e

  pub byte_back : (b : ℕ) → gives new next ≡ byte_write b out at → gives b next ≡ byte_at new at
  unfolding big
  byte_back b e = ap (λ (n : ℕ). gives n next) (omega arith) ∙ number_reads (b ∷ []) 1 (λ (n : ℕ). n) refl (stands _ out at refl e)

  pub bool_back : (b : Bool) → gives new next ≡ bool_write b out at → gives b next ≡ bool_at new at
  unfolding big
  bool_back true e = number_reads (1 ∷ []) 1 (λ (n : ℕ). not (eqb n 0)) refl (stands _ out at refl e)
  bool_back false e = number_reads (0 ∷ []) 1 (λ (n : ℕ). not (eqb n 0)) refl (stands _ out at refl e)

  -- a double, by its pattern; the one NaN too
  pub double_back : (x : Float) → T (fits binary64 x) → gives new next ≡ double_write x out at → gives x next ≡ double_at new at
  double_back x f e =
      let whole : to_bits binary64 x % 256 ^ 8 ≡ to_bits binary64 x = mod-eq_of_lt (to_bits-lt binary64 x f) in
      ap (λ (y : Float). gives y next) (sym (ap (of_bits binary64) whole ∙ of_bits-to_bits binary64 x f))
      ∙ number_back 8 (to_bits binary64 x) (of_bits binary64) e

  pub uuid_back : (id : List ℕ) → length id ≡ 16 → gives new next ≡ uuid_write id out at → Found new id (uuid_at new at) next
  uuid_back id l e =
      let p = stands _ out at refl e in
      record { place = span at next; gave = texts.uuid new at (part_within id 16 l p); bytes = marked p }

  -- bytes and strings, within the reader's limit
  module _ (limit : Option ℕ) (b : List ℕ) (below : above (length b) limit ≡ false) where
    pub bytes_back : gives new next ≡ bytes_write b out at → Found new b (bytes_at limit new at) next
    bytes_back e =
        let h = is_short b at out e in
        sized_found limit b below (stands _ out at (short b at h) e) BodyOf.Text h

    pub string_back : gives new next ≡ string_write b out at → Found new b (string_at limit new at) next
    string_back e =
        let n = written_name b (sized_layout b) out at e in
        string_found limit b below (stands _ out at (with_name (sized_layout b) at n) e) n
