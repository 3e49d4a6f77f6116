-- A part of the bytes: from a place up to another.
use Rattle.std.specs.Prelude.{ℕ, ◌-◌, ◌≤◌, ◌≡◌, List, length, take, drop}

-- the bytes of s from a up to e are l
pub record Part (s : List ℕ) (a e : ℕ) (l : List ℕ) : Type 0 where
  pub from : a ≤ e
  pub within : e ≤ length s
  pub bytes : take (e - a) (drop a s) ≡ l
