-- What passing a text comes to after its size, and why no two answers meet a promise. Assumes nothing.
use Prim.Native.Nat.{ℕ}
use mathlib.Core.Path.{◌≡◌, refl, ap}
use mathlib.Core.List.{List}
use Rattle.std.specs.Prelude.{Option, Result, Ok, Err}
use Rattle.wire.specs.Answer.{Answer, gives, refused, and_then, judged, within}
use Rattle.wire.specs.declared.refusal.Refusal.{Refusal}
use Rattle.wire.proofs.Refusals.{refusal_of, told_back}
use Rattle.wire.proofs.Unique.{settled}
use Rattle.text.specs.Texts.{span, limited_at, sized_at, bytes_at}
use Rattle.text.specs.declared.Body.TheVariants as BodyOf
use Rattle.tree.specs.Answers.{Outcome, ended, cut_off}
use Rattle.leaf.specs.Told.{told_walked}
use Rattle.leaf.specs.declared.Passed.{Passed}
use Rattle.leaf.specs.declared.Halt.{Halt}

-- after its size, a text is so many bytes
pub text_onward : (limit : Option ℕ) (s : List ℕ) (at : ℕ) {size first : ℕ} → gives size first ≡ limited_at BodyOf.Text limit s at → within s first size ≡ judged (bytes_at limit s at)
unfolding sized_at and_then
text_onward limit s at {size} {first} e = rw (← e) (go (within s first size))
  where
    go : (m : Answer Unit) → m ≡ judged (and_then m λ _ end. gives (span first end) end)
    go (gives u q) = refl
    go (refused n p) = refl

-- an answer from what it tells
abbrev back : Outcome → Result Passed Halt
back (ended e n) = Ok (record { next = record { at = e }; count = n })
back (cut_off k p n) = Err (record { refusal = refusal_of k p; count = n })

-- any two answers that tell the same are equal
pub walked_settled : {a b : Result Passed Halt} {x : Outcome} → told_walked a ≡ x → told_walked b ≡ x → a ≡ b
walked_settled = settled told_walked back same
  where
    same : (w : Result Passed Halt) → back (told_walked w) ≡ w
    same (Ok p) = refl
    same (Err x) = ap (λ (z : Refusal). Err (record { refusal = z; count = x.count })) (told_back x.refusal)
