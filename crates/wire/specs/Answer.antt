-- What a call answers, in document 01's words, and the one judgement that every read goes through.
use Rattle.std.specs.Prelude.{ℕ, ◌+◌, ◌-◌, Bool, true, false, List, length, take, drop, ltb}

-- a value and the place after it, or a refusal: 01's number, and its place
pub data Answer (A : Type 0) : Type 0 where
  gives : A → ℕ → Answer A
  refused : ℕ → ℕ → Answer A

-- where the test holds, the refusal of that number at that place; else the rest. A definition lists its faults in 01's order by it
unfoldable pub refuse_if : {A : Type 0} → Bool → ℕ → ℕ → Answer A → Answer A
refuse_if true n p rest = refused n p
refuse_if false n p rest = rest

-- one step after another: "the first fault met is the answer", else the rest goes on with what was given, at the place after it
unfoldable pub and_then : {A B : Type 0} → Answer A → (A → ℕ → Answer B) → Answer B
and_then (gives v p) rest = rest v p
and_then (refused n p) rest = refused n p

-- the same answer, its value seen as f says
abbrev pub mapped : {A B : Type 0} → (A → B) → Answer A → Answer B
mapped f (gives v p) = gives (f v) p
mapped f (refused n p) = refused n p

-- only whether it is refused, and where it ends
abbrev pub judged : {A : Type 0} → Answer A → Answer Unit
judged m = mapped (λ _. tt) m

-- every entry: 2 where the place is beyond the length, then the rest
abbrev pub entry_of : {A : Type 0} → ℕ → ℕ → Answer A → Answer A
entry_of n at rest = refuse_if (ltb n at) 2 at rest

abbrev pub entry : {A : Type 0} → List ℕ → ℕ → Answer A → Answer A
entry s at rest = entry_of (length s) at rest

-- no byte is taken: the ends of messages, fields, lists, sets and maps
unfoldable pub stay_at : List ℕ → ℕ → Answer Unit
stay_at s at = entry s at (gives tt at)

-- So many bytes at a place of s: 2, then 1 where they are not all there, else the place after them
unfoldable pub within : List ℕ → ℕ → ℕ → Answer Unit
within s at w = entry s at (refuse_if (ltb (length s - at) w) 1 at (gives tt (at + w)))

-- an item of w bytes at a place: the bytes themselves
unfoldable pub item_at : List ℕ → ℕ → ℕ → Answer (List ℕ)
item_at s at w = and_then (within s at w) (λ _ next. gives (take w (drop at s)) next)
