-- One value after another: the count of what was passed so far comes on top, where the next is refused too. Two inner
-- functions promise these to the skip of a value; no public call's promise cites them: what they come to is the tree's.
use Rattle.std.specs.Prelude.{ℕ, ◌+◌, ◌<◌, ◌^◌, Result, Ok, Err}
use Rattle.wire.specs.declared.refusal.Refusal.{Refusal}
use Rattle.leaf.specs.declared.Passed.{Passed}
use Rattle.leaf.specs.declared.Halt.{Halt}

abbrev pub then : ℕ → Result Passed Halt → Result Passed Halt
then n (Ok v) = Ok (record { next = v.next; count = n + v.count })
then n (Err x) = Err (record { refusal = x.refusal; count = n + x.count })

-- what is read after so many values: where it is refused, these were begun
abbrev pub after : {A : Type 0} → ℕ → Result A Refusal → Result A Halt
after n (Ok v) = Ok v
after n (Err x) = Err (record { refusal = x; count = n })

-- the counts together fit a word
abbrev pub Room : ℕ → Result Passed Halt → Type 0
Room n (Ok v) = n + v.count < 2 ^ 64
Room n (Err x) = n + x.count < 2 ^ 64
