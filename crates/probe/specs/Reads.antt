-- What a read returns, and what it leaves in the record.
use Rattle.std.specs.Prelude.{ℕ, ◌≡◌, Bool, true, false, List, ltb, length, Option}
use Rattle.probe_rows.specs.declared.Row.{Row}
use Rattle.probe_numbers.specs.declared.ReadStep.{ReadStep}
use Rattle.probe_reads.specs.declared.Reading.{Reading}
use Rattle.probe_reads.specs.Reads.{ReadSays}
use Rattle.probe.specs.Kept.{Left}

-- what was left by what the step came to
pub record ReadDone (step : Option ReadStep) (s : List ℕ) (c : Reading) (old : List ℕ) (r : ℕ) (new : List ℕ) : Type 0 where
  pub stepped : Option Row
  pub says : ReadSays step s c stepped
  pub leaves : Left stepped old r new

-- a record under 48 bytes: 15, and nothing touched
abbrev pub ReadByLength : Bool → Option ReadStep → List ℕ → Reading → List ℕ → ℕ → List ℕ → Type 0
ReadByLength true step s c old r new = (r ≡ 15) × (new ≡ old)
ReadByLength false step s c old r new = ReadDone step s c old r new

abbrev pub Read : Option ReadStep → List ℕ → Reading → List ℕ → ℕ → List ℕ → Type 0
Read step s c old r new = ReadByLength (ltb (length old) 48) step s c old r new
