-- Why no two answers meet a promise: an answer can be had back from what it tells. Assumes nothing.
use mathlib.Core.Path.{◌≡◌, refl, sym, ◌∙◌, ap}
use Rattle.std.specs.Prelude.{Result, Ok, Err}
use Rattle.wire.specs.Answer.{Answer, gives, refused}
use Rattle.wire.specs.Refusals.{told, told_moved}
use Rattle.wire.specs.declared.refusal.Refusal.{Refusal}
use Rattle.wire.specs.declared.cursor.Cursor.{Cursor}
use Rattle.wire.proofs.Refusals.{refusal_of, told_back}

-- for any kind of answer E that tells a T
module _ {E T : Type 0} (told : E → T) (back : T → E) (same : (e : E) → back (told e) ≡ e) where
  pub unique : {a b : E} → told a ≡ told b → a ≡ b
  unique {a} {b} e = sym (same a) ∙ ap back e ∙ same b

  -- two answers that tell what one definition says
  pub settled : {a b : E} {m : T} → told a ≡ m → told b ≡ m → a ≡ b
  settled p q = unique (p ∙ sym q)

-- an answer of a value with the moved cursor, or a refusal, from what it tells
module _ {E A : Type 0} (value : A → Cursor → E) (turned : Refusal → E) where
  unfoldable pub back_by : Answer A → E
  back_by (gives v p) = value v (record { at = p })
  back_by (refused n p) = turned (refusal_of n p)

  -- such an answer is settled by what it tells, if each of its values is one of the two
  module _ (told : E → Answer A) (same : (e : E) → back_by (told e) ≡ e) where
    pub cursor_settled : {a b : E} {m : Answer A} → told a ≡ m → told b ≡ m → a ≡ b
    cursor_settled = settled told back_by same

-- of a value with the moved cursor
unfoldable pub back : {A : Type 0} → Answer A → Result (A × Cursor) Refusal
back = back_by (λ v c. Ok (v, c)) Err

pub told_settled : {A : Type 0} {a b : Result (A × Cursor) Refusal} {m : Answer A} → told a ≡ m → told b ≡ m → a ≡ b
unfolding back back_by
told_settled {A} = cursor_settled (λ (v : A) c. Ok (v, c)) Err told same
  where
    same : (r : Result (A × Cursor) Refusal) → back (told r) ≡ r
    same (Ok r) = refl
    same (Err x) = ap Err (told_back x)

-- of the moved cursor alone
pub moved_settled : {a b : Result Cursor Refusal} {m : Answer Unit} → told_moved a ≡ m → told_moved b ≡ m → a ≡ b
unfolding back_by
moved_settled = cursor_settled (λ (u : Unit) c. Ok c) Err told_moved same
  where
    same : (r : Result Cursor Refusal) → back_by (λ (u : Unit) c. Ok c) Err (told_moved r) ≡ r
    same (Ok c) = refl
    same (Err x) = ap Err (told_back x)
