-- What a write into a lent buffer comes to: 01's "Writing and frames", over what the call would put down.
use Rattle.std.specs.Prelude.{ℕ, ◌+◌, ◌-◌, ◌≡◌, Bool, true, false, cond, List, ◌++◌, length, take, drop, ltb, Result}
use Rattle.wire.specs.Answer.{Answer, gives, refused, refuse_if, and_then, judged, entry, entry_of}
use Rattle.wire.specs.Refusals.{told_moved}
use Rattle.wire.specs.declared.cursor.Cursor.{Cursor}
use Rattle.wire.specs.declared.refusal.Refusal.{Refusal}

-- "room is asked for the call's whole output at once, and 15 is given exactly when it needs more bytes than remain": n is the buffer's length, w the bytes wanted from the place on
unfoldable pub room_for : ℕ → ℕ → ℕ → Answer Unit
room_for n at w = entry_of n at (refuse_if (ltb (n - at) w) 15 at (gives tt (at + w)))

-- "Bytes outside that output stay as they were": a buffer with bs from a place on
unfoldable pub laid : List ℕ → List ℕ → ℕ → List ℕ
laid bs out at = take at out ++ bs ++ drop (at + length bs) out

-- what a call would put down: its bytes, or the fault of its own that keeps it from it, by 01's number and place
pub data Output : Type 0 where
  puts : List ℕ → Output
  fails : ℕ → ℕ → Output

-- where the test holds, the fault of that number at that place; else the rest
unfoldable pub fail_if : Bool → ℕ → ℕ → Output → Output
fail_if true n p rest = fails n p
fail_if false n p rest = rest

-- the output's own fault is the answer; else the rest goes on with its bytes
unfoldable pub unless_fails : {A : Type 0} → Output → (List ℕ → Answer A) → Answer A
unless_fails (puts bs) rest = rest bs
unless_fails (fails n p) rest = refused n p

-- A write at a place: 2, then the output's own fault, then 15. It gives the whole buffer and the place after the output
unfoldable pub write_at : Output → List ℕ → ℕ → Answer (List ℕ)
write_at output out at =
    entry out at
    (unless_fails output λ bs.
    and_then (room_for (length out) at (length bs)) λ _ next.
    gives (laid bs out at) next)

-- a write with no fault of its own
abbrev pub put_at : List ℕ → List ℕ → ℕ → Answer (List ℕ)
put_at bs out at = write_at (puts bs) out at

-- the buffer after a write: a refusal "changes no lent byte"
unfoldable pub left : Answer (List ℕ) → List ℕ → List ℕ
left (gives new next) old = new
left (refused n p) old = old

-- what a writer promises: its answer, without the buffer, and every byte of the buffer
pub record Wrote (r : Result Cursor Refusal) (new old : List ℕ) (write : Answer (List ℕ)) : Type 0 where
  pub answer : told_moved r ≡ judged write
  pub buffer : new ≡ left write old

-- a leaf writer's part: bs in front of what it was lent, which stays as it was where there is no room for all of them
unfoldable pub in_front : List ℕ → List ℕ → List ℕ
in_front bs out = cond (ltb (length out) (length bs)) out (bs ++ drop (length bs) out)
