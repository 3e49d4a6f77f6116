-- The claim on one page. Each sentence of the client's three demands, and of "What would be worthless here", that speaks of what is answered is a field
-- below, in the words of our definitions, with the sentence above it; proofs/Demands gives them all. What the client asks of the code's form, of runs or of
-- documents has no statement: docs/DEMANDS.md says what shows it.
use Rattle.std.specs.Prelude.{ℕ, ◌+◌, ◌%◌, ◌^◌, ◌<◌, ◌≤◌, ◌≡◌, Bool, true, false, ◌↔◌, List, ◌++◌, T, ℤ, pos, length, drop, None, Some, Option, Result}
use Rattle.std.specs.Float.{binary64}
use Rattle.std.specs.Float.Ieee.{fits}
use Rattle.std.specs.Int.{w8, w16, w32, w64}
use Rattle.std.proofs.Common.{SFits}
use Rattle.wire.specs.declared.refusal.Refusal.{Refusal}
use Rattle.wire.specs.declared.cursor.Cursor.{Cursor}
use Rattle.wire.specs.Answer.{Answer, gives, refused, judged}
use Rattle.wire.specs.Refusals.{kind_number, told, told_moved}
use Rattle.wire.specs.Writes.{put_at, Wrote}
use Rattle.wire.specs.declared.refusal.Kind.{Kind}
use Rattle.codes.specs.Codes.{as_read, is_stop, least_size}
use Rattle.codes.specs.declared.TMessageType.{TMessageType}
use Rattle.codes.specs.declared.TType.{TType}
use Rattle.codes.specs.declared.TType.TheVariants as Ty
use Rattle.config.specs.Limits.{above, told_built}
use Rattle.config.specs.declared.configuration.TConfiguration.{TConfiguration}
use Rattle.number.specs.BigEndian.{bytes_of}
use Rattle.number.specs.Reads.{number_at}
use Rattle.text.specs.Texts.{bytes_at, string_at, uuid_at}
use Rattle.text.specs.declared.Span.{Span}
use Rattle.read.specs.Headers.{field, field_at, list, list_at, as_set, set_at, map, map_at}
use Rattle.scalar.specs.Scalars.{scalar_at}
use Rattle.scalar.specs.declared.Scalar.{Scalar}
use Rattle.scalar.specs.declared.Scalar.TheVariants as Sc
use Rattle.message.specs.Messages.{message, message_at}
use Rattle.tree.specs.Answers.{ended, cut_off, Answers, StandsHere, RefusedHere}
use Rattle.tree.specs.Coding.{leaf}
use Rattle.tree.specs.Room.{Roomier, Unnamed}
use Rattle.tree.specs.Sizes.{SizeFits}
use Rattle.binary.specs.Binary.{binary}
use Rattle.leaf.specs.Told.{told_walked}
use Rattle.leaf.specs.declared.Passed.{Passed}
use Rattle.leaf.specs.declared.Halt.{Halt}
use Rattle.skip.specs.Skips.{told_skipped, SkipSays}
use Rattle.skip.specs.declared.till_depth.Skipped.{Skipped}
use Rattle.write.specs.Found.{Finds, Found}
use Rattle.write.specs.Outputs.{bool_write, i8_write, i16_write, i32_write, i64_write, double_write, uuid_write, bytes_write, string_write}
use Rattle.write_headers.specs.Outputs.{field_write, stop_write, list_write, map_write}
use Rattle.write_message.specs.Outputs.{message_write}
use Rattle.framed.specs.Frames.{frame_at, frame_write}
use Rattle.host.specs.Host.{Hosted}
use Rattle.table.specs.Table.{table, Every}

-- what the public read of a single value answers: the typed scalar read, but for a string its bytes and for a UUID its own read
abbrev pub read_alone : TConfiguration → TType → List ℕ → ℕ → Answer Unit
read_alone c Ty.Stop s at = judged (scalar_at Ty.Stop s at)
read_alone c Ty.Void s at = judged (scalar_at Ty.Void s at)
read_alone c Ty.Bool s at = judged (scalar_at Ty.Bool s at)
read_alone c Ty.I08 s at = judged (scalar_at Ty.I08 s at)
read_alone c Ty.Double s at = judged (scalar_at Ty.Double s at)
read_alone c Ty.I16 s at = judged (scalar_at Ty.I16 s at)
read_alone c Ty.I32 s at = judged (scalar_at Ty.I32 s at)
read_alone c Ty.I64 s at = judged (scalar_at Ty.I64 s at)
read_alone c Ty.String s at = judged (bytes_at c.max_string_size s at)
read_alone c Ty.Utf7 s at = judged (scalar_at Ty.Utf7 s at)
read_alone c Ty.Struct s at = judged (scalar_at Ty.Struct s at)
read_alone c Ty.Map s at = judged (scalar_at Ty.Map s at)
read_alone c Ty.Set s at = judged (scalar_at Ty.Set s at)
read_alone c Ty.List s at = judged (scalar_at Ty.List s at)
read_alone c Ty.Uuid s at = judged (uuid_at s at)

-- a scalar: its type, what its writer comes to, and that its type holds it (a double that is no NaN with a payload)
abbrev pub type_of_scalar : Scalar → TType
type_of_scalar (Sc.Bool b) = Ty.Bool
type_of_scalar (Sc.I08 v) = Ty.I08
type_of_scalar (Sc.I16 v) = Ty.I16
type_of_scalar (Sc.I32 v) = Ty.I32
type_of_scalar (Sc.I64 v) = Ty.I64
type_of_scalar (Sc.Double x) = Ty.Double

abbrev pub scalar_write : Scalar → List ℕ → ℕ → Answer (List ℕ)
scalar_write (Sc.Bool b) out at = bool_write b out at
scalar_write (Sc.I08 v) out at = i8_write v out at
scalar_write (Sc.I16 v) out at = i16_write v out at
scalar_write (Sc.I32 v) out at = i32_write v out at
scalar_write (Sc.I64 v) out at = i64_write v out at
scalar_write (Sc.Double x) out at = double_write x out at

abbrev pub Holds : Scalar → Type 0
Holds (Sc.Bool b) = Unit
Holds (Sc.I08 v) = SFits w8 v
Holds (Sc.I16 v) = SFits w16 v
Holds (Sc.I32 v) = SFits w32 v
Holds (Sc.I64 v) = SFits w64 v
Holds (Sc.Double x) = T (fits binary64 x)

-- Demand 1
pub record Refusals : Type 0 where
  -- "Bad input gets a numbered refusal from document 01"
  pub numbered : (k : Kind) → (1 ≤ kind_number k) × (kind_number k ≤ 20)
  -- 01: "A number is given only for its meaning"
  pub one_meaning : (j k : Kind) → kind_number j ≡ kind_number k → j ≡ k
  -- "every lent byte are then as before the call": of a write that is refused
  pub untouched : (r : Result Cursor Refusal) (new old : List ℕ) (write : Answer (List ℕ)) (n p : ℕ) → Wrote r new old write → refused n p ≡ write → new ≡ old
  -- "save the host's record": untouched under 24 bytes, and else behind the 24th; under the default limits and any others
  pub host_short : (c : TConfiguration) (sd : ℕ) (s : List ℕ) (at d b : ℕ) (old : List ℕ) (r : ℕ) (new : List ℕ) → Hosted c sd s at d b old r new → length old < 24
      → (r ≡ 15) × (new ≡ old)
  pub host_behind : (c : TConfiguration) (sd : ℕ) (s : List ℕ) (at d b : ℕ) (old : List ℕ) (r : ℕ) (new : List ℕ) → Hosted c sd s at d b old r new → drop 24 new ≡ drop 24 old

-- Demand 2: "Skip accepts exactly where a value of that type stands within depth and limits, and ends where it ends"
module _ (c : TConfiguration) (s : List ℕ) (at d sd : ℕ) (t : TType) (r : Result Skipped Halt) where
  pub record SkipsExactly : Type 0 where
    pub accepts : SkipSays c s at d sd t r → (e n : ℕ) → (told_skipped r ≡ ended e n) ↔ StandsHere binary c s at d sd t e n
    -- "A refusal's count is defined over a tree too, cut off at the place"; "A skip refusal also gives its count, 0 for 2 and 20"
    pub refuses : SkipSays c s at d sd t r → (n p m : ℕ) → (told_skipped r ≡ cut_off n p m) ↔ RefusedHere binary c s at d sd t n p m

-- Demand 2: "What is written reads back the same under 01's conditions", where a write to a buffer at a place gave the buffer `new` and the place `next`
module _ (out : List ℕ) (at : ℕ) (new : List ℕ) (next : ℕ) where
  pub record ReadsBack : Type 0 where
    pub scalar_back : (v : Scalar) → Holds v → gives new next ≡ scalar_write v out at → gives v next ≡ scalar_at (type_of_scalar v) new at
    pub bytes_back : (limit : Option ℕ) (b : List ℕ) → above (length b) limit ≡ false → gives new next ≡ bytes_write b out at → Found new b (bytes_at limit new at) next
    pub string_back : (limit : Option ℕ) (b : List ℕ) → above (length b) limit ≡ false → gives new next ≡ string_write b out at → Found new b (string_at limit new at) next
    pub uuid_back : (id : List ℕ) → length id ≡ 16 → gives new next ≡ uuid_write id out at → Found new id (uuid_at new at) next
    -- "Utf7 comes back as String" (`as_read`), "a Stop without an id with id 0"
    pub field_back : (t : TType) (id : ℤ) → SFits w16 id → is_stop t ≡ false → gives new next ≡ field_write t (Some id) out at → gives (field (as_read t) id) next ≡ field_at new at
    pub stop_back : gives new next ≡ stop_write out at → gives (field Ty.Stop (pos 0)) next ≡ field_at new at
    pub stop_field_back : gives new next ≡ field_write Ty.Stop None out at → gives (field Ty.Stop (pos 0)) next ≡ field_at new at
    pub list_back : (c : TConfiguration) (t : TType) (n : ℕ) → SizeFits c (least_size (as_read t)) n → gives new next ≡ list_write t (pos n) out at
        → gives (list (as_read t) n) next ≡ list_at c new at
    pub set_back : (c : TConfiguration) (t : TType) (n : ℕ) → SizeFits c (least_size (as_read t)) n → gives new next ≡ list_write t (pos n) out at
        → gives (as_set (list (as_read t) n)) next ≡ set_at c new at
    pub map_back : (c : TConfiguration) (k v : TType) (n : ℕ) → SizeFits c (least_size (as_read k) + least_size (as_read v)) n
        → gives new next ≡ map_write (Some k) (Some v) (pos n) out at → gives (map (as_read k) (as_read v) n) next ≡ map_at c new at
    -- "a legacy message needs a non-strict reader"
    pub strict_back : (limit : Option ℕ) (name : List ℕ) (t : TMessageType) (seq : ℤ) → above (length name) limit ≡ false → SFits w32 seq → (reader : Bool)
        → gives new next ≡ message_write true name t seq out at → Finds (λ (p : Span). message p t seq) new name (message_at reader limit new at) next
    pub legacy_back : (limit : Option ℕ) (name : List ℕ) (t : TMessageType) (seq : ℤ) → above (length name) limit ≡ false → SFits w32 seq
        → gives new next ≡ message_write false name t seq out at → Finds (λ (p : Span). message p t seq) new name (message_at false limit new at) next
    -- "any written value but … an empty frame payload"
    pub frame_back : (limit : Option ℕ) (payload : List ℕ) → 0 < length payload → above (length payload) limit ≡ false → gives new next ≡ frame_write payload out at
        → Finds Some new payload (frame_at limit new at) next

-- Demand 3: "More room never alters an answer. For one start not past the bytes' end and one struct depth", the second skip "with more depth (to 127), limits
-- raised or removed, and bytes appended"
module _ (old new : TConfiguration) (room : Roomier old new) (s x : List ℕ) (at d e sd : ℕ) (t : TType) (inside : at ≤ length s) (more : d ≤ e)
    (top : d ≤ 127 → e ≤ 127) (a b : Result Skipped Halt) (first : SkipSays old s at d sd t a) (second : SkipSays new (s ++ x) at e sd t b) where
  pub record Stays : Type 0 where
    -- "if skip accepts, … it accepts with the same end and count"
    pub accept_stays : (end n : ℕ) → told_skipped a ≡ ended end n → told_skipped b ≡ ended end n
    -- "A refusal stays the same in number, place and count unless it names a limit or depth that was raised or removed, or short input where bytes were appended"
    pub refusal_stays : (n p m : ℕ) → told_skipped a ≡ cut_off n p m → Unnamed old new d e x n → told_skipped b ≡ cut_off n p m

-- Demand 3: "The count is the number of values in demand 2's definition when accepted" (`StandsHere`)
module _ (c : TConfiguration) (s : List ℕ) (at d sd : ℕ) (t : TType) (r : Result Skipped Halt) (says : SkipSays c s at d sd t r) where
  pub record Counts : Type 0 where
    -- "never above the bytes passed"
    pub accepted : (e n : ℕ) → told_skipped r ≡ ended e n → (1 ≤ n) × (at + n ≤ e)
    -- "when refused, it is the values begun, at most one above the bytes from start to place"
    pub refused_at : (k p n : ℕ) → told_skipped r ≡ cut_off k p n → at + n ≤ p + 1

-- an answer is known by what it tells: so no two meet an equation with what is told
abbrev pub Known : {E A : Type 0} → (E → A) → Type 0
Known {E} told = (a b : E) → told a ≡ told b → a ≡ b

-- Worthless: "For each, show that any two answers it admits are equal"
pub record OneAnswer : Type 1 where
  -- every read that gives a value and the moved cursor: of numbers, texts, headers, scalars, messages, struct depths and frames
  pub reads : (A : Type 0) → Known (told {A = A})
  pub moves : Known told_moved
  pub limits : Known told_built
  pub leaves : Known told_walked
  pub values : (c : TConfiguration) (s : List ℕ) (at d sd : ℕ) (t : TType) (a b : Result Passed Halt) → Answers binary c s at d sd t (told_walked a)
      → Answers binary c s at d sd t (told_walked b) → a ≡ b
  pub skips : (c : TConfiguration) (s : List ℕ) (at d sd : ℕ) (t : TType) (a b : Result Skipped Halt) → SkipSays c s at d sd t a → SkipSays c s at d sd t b → a ≡ b
  -- answer and buffer of a write; return and record of the host's call
  pub writes : (r r' : Result Cursor Refusal) (new new' old : List ℕ) (write : Answer (List ℕ)) → Wrote r new old write → Wrote r' new' old write → (r ≡ r') × (new ≡ new')
  pub host : (c : TConfiguration) (sd : ℕ) (s : List ℕ) (at d b : ℕ) (old : List ℕ) (r r' : ℕ) (new new' : List ℕ) → Hosted c sd s at d b old r new
      → Hosted c sd s at d b old r' new' → (r ≡ r') × (new ≡ new')

pub record Demands : Type 1 where
  pub refusals : Refusals
  pub skips_exactly : (c : TConfiguration) (s : List ℕ) (at d sd : ℕ) (t : TType) (r : Result Skipped Halt) → SkipsExactly c s at d sd t r
  -- a value with no value in it is skipped as it is read: the same end, the same refusal
  pub skipped_as_read : (c : TConfiguration) (t : TType) (s : List ℕ) (at : ℕ) → at ≤ length s → binary.view t ≡ leaf → binary.leaf_at c t s at ≡ read_alone c t s at
  pub reads_back : (out : List ℕ) (at : ℕ) (new : List ℕ) (next : ℕ) → ReadsBack out at new next
  pub stays : (old new : TConfiguration) (room : Roomier old new) (s x : List ℕ) (at d e sd : ℕ) (t : TType) (inside : at ≤ length s) (more : d ≤ e) (top : d ≤ 127 → e ≤ 127)
      (a b : Result Skipped Halt) (first : SkipSays old s at d sd t a) (second : SkipSays new (s ++ x) at e sd t b) → Stays old new room s x at d e sd t inside more top a b first second
  pub counts : (c : TConfiguration) (s : List ℕ) (at d sd : ℕ) (t : TType) (r : Result Skipped Halt) (says : SkipSays c s at d sd t r) → Counts c s at d sd t r says
  pub one_answer : OneAnswer
  -- "Number widths share one fact, proved once over the width"
  pub widths : {A : Type 0} (w n : ℕ) (f : ℕ → A) (out : List ℕ) (at : ℕ) (new : List ℕ) (next : ℕ) → gives new next ≡ put_at (bytes_of w n) out at
      → gives (f (n % 256 ^ w)) next ≡ number_at w f new at
  -- "Cases W1 to W12 are proved together as one table with a single statement"
  pub cases : Every table
