-- What a write returns, and what it leaves in the record and in the buffer.
use Rattle.std.specs.Prelude.{ℕ, ◌≡◌, Bool, true, false, List, ltb, length}
use Rattle.probe_writes.specs.Writes.{Does, comes_to, buffer}
use Rattle.probe.specs.Kept.{Left}

-- the record, the return and every byte of the buffer
pub record WriteDone (d : Does) (old : List ℕ) (r : ℕ) (new out out' : List ℕ) : Type 0 where
  pub leaves : Left (comes_to d) old r new
  pub holds : out' ≡ buffer d out

-- a record under 48 bytes: 15, and nothing touched
abbrev pub WrittenByLength : Bool → Does → List ℕ → ℕ → List ℕ → List ℕ → List ℕ → Type 0
WrittenByLength true d old r new out out' = (r ≡ 15) × (new ≡ old) × (out' ≡ out)
WrittenByLength false d old r new out out' = WriteDone d old r new out out'

abbrev pub Written : Does → List ℕ → ℕ → List ℕ → List ℕ → List ℕ → Type 0
Written d old r new out out' = WrittenByLength (ltb (length old) 48) d old r new out out'
