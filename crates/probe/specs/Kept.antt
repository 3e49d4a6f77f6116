-- What a call returns, and what it leaves in the record.
use Rattle.std.specs.Prelude.{ℕ, ◌≡◌, List, ◌++◌, drop, Option, Some, None}
use Rattle.number.specs.BigEndian.{bytes_of}
use Rattle.probe_rows.specs.declared.Row.{Row}

abbrev pub six : Row → List ℕ
six w = ((((bytes_of 8 w.number ++ bytes_of 8 w.place) ++ bytes_of 8 w.a) ++ bytes_of 8 w.b) ++ bytes_of 8 w.c) ++ bytes_of 8 w.d

-- six big-endian 64-bit numbers; bytes after the 48th stay
abbrev pub filled : Row → List ℕ → List ℕ
filled w old = six w ++ drop 48 old

-- 0 and the record set, or 255, which is no refusal of 01's, and nothing touched
abbrev pub Left : Option Row → List ℕ → ℕ → List ℕ → Type 0
Left (Some w) old r new = (r ≡ 0) × (new ≡ filled w old)
Left None old r new = (r ≡ 255) × (new ≡ old)
