-- What the two calls for C and Rust return, and what they leave in the record.
use Rattle.std.specs.Prelude.{ℕ, ◌≡◌, Bool, true, false, List, ◌++◌, ltb, length, drop, None, Option, Some}
use Rattle.codes.specs.declared.TType.{TType}
use Rattle.codes.specs.Codes.{type_of}
use Rattle.number.specs.BigEndian.{bytes_of}
use Rattle.config.specs.Limits.{default_limits, no_limit, limits_of}
use Rattle.config.specs.declared.configuration.TConfiguration.{TConfiguration}
use Rattle.tree.specs.Answers.{Outcome, ended, cut_off, skip_entry, AfterEntry, SkipAnswers}
use Rattle.binary.specs.Binary.{binary}
use Rattle.host.specs.declared.Row.{Row}

-- "refusal or 0, end or place, count"
abbrev pub row_of : Outcome → Row
row_of (ended e n) = record { number = 0; place = e; count = n }
row_of (cut_off k p n) = record { number = k; place = p; count = n }

-- "sets the first 24 bytes to three big-endian 64-bit numbers"; the rest stays
abbrev pub filled : Row → List ℕ → List ℕ
filled w old = (bytes_of 8 w.number ++ bytes_of 8 w.place ++ bytes_of 8 w.count) ++ drop 24 old

-- "An unknown type byte is 5 at the start, count 0, after 2 and 20"
abbrev pub NoType : ℕ → List ℕ → ℕ → ℕ → Outcome → Type 0
NoType sd s at d x = AfterEntry (skip_entry d sd s at) x (x ≡ cut_off 5 at 0)

-- under some limits and inside so many open structs: of these bytes from a place on, to a depth, a value of the type that a byte stands for
abbrev pub ByType : TConfiguration → ℕ → Option TType → List ℕ → ℕ → ℕ → Outcome → Type 0
ByType c sd (Some t) s at d x = SkipAnswers binary c s at d sd t x
ByType c sd None s at d x = NoType sd s at d x

abbrev pub HostAnswers : TConfiguration → ℕ → List ℕ → ℕ → ℕ → ℕ → Outcome → Type 0
HostAnswers c sd s at d b x = ByType c sd (type_of b) s at d x

-- the record as it was filled: by an outcome that the skip answers
pub record Filled (c : TConfiguration) (sd : ℕ) (s : List ℕ) (at d b : ℕ) (old : List ℕ) (r : ℕ) (new : List ℕ) : Type 0 where
  pub outcome : Outcome
  pub answers : HostAnswers c sd s at d b outcome
  pub returned : r ≡ 0
  pub bytes : new ≡ filled (row_of outcome) old

-- "A record under 24 bytes returns 15 before any other check and stays untouched"
abbrev pub ByLength : Bool → TConfiguration → ℕ → List ℕ → ℕ → ℕ → ℕ → List ℕ → ℕ → List ℕ → Type 0
ByLength true c sd s at d b old r new = (r ≡ 15) × (new ≡ old)
ByLength false c sd s at d b old r new = Filled c sd s at d b old r new

abbrev pub Hosted : TConfiguration → ℕ → List ℕ → ℕ → ℕ → ℕ → List ℕ → ℕ → List ℕ → Type 0
Hosted c sd s at d b old r new = ByLength (ltb (length old) 24) c sd s at d b old r new

-- "Default limits, struct depth 0"
abbrev pub HostedByDefault : List ℕ → ℕ → ℕ → ℕ → List ℕ → ℕ → List ℕ → Type 0
HostedByDefault = Hosted default_limits 0

-- the four limits that a skip reads, as numbers; it reads no frame, so that limit is absent
abbrev pub skip_limits : ℕ → ℕ → ℕ → ℕ → TConfiguration
skip_limits message structs container string = limits_of message no_limit structs container string
