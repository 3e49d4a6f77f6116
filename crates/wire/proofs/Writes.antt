-- Where there is room, what a leaf leaves in the whole buffer, and that no two answers meet a writer's promise. Assumes nothing.
use mathlib.Core.Path.{◌≡◌, refl, sym, ap, ◌∙◌}
use mathlib.Core.Bool.{Bool, true, false}
use mathlib.Core.List.{List, [], ◌++◌, append-nil, append_assoc}
use Prim.Native.Nat.{ℕ, ◌+◌, ◌-◌, ◌<◌, ◌≤◌}
use native.Mathlib.Nat.{le_of_eq, zero-add, add-zero}
use native.Mathlib.Omega.{arith}
use borrow.Author.Tests.{lt-ltb, le-ltb, ltb-true, ltb-false}
use borrow.Rule.Slice.PartMut.{put_mid}
use lib.Dec.{ltb}
use lib.ListN.{length, take, drop, length-append, length-take, length-drop, drop_of_length-le, take-append-drop}
use lib.Seq.{take_all, take_at, drop-drop, drop-append-add}
use Rattle.std.specs.Prelude.{Result, Ok, Err}
use Rattle.wire.specs.Answer.{Answer, gives, refused, refuse_if, and_then}
use Rattle.wire.specs.Refusals.{told_moved}
use Rattle.wire.specs.Writes.{room_for, laid, Output, puts, fails, fail_if, unless_fails, write_at, left, Wrote, in_front}
use Rattle.wire.specs.declared.cursor.Cursor.{Cursor}
use Rattle.wire.specs.declared.refusal.Refusal.{Refusal}
use Rattle.wire.proofs.Answers.{Passed, passed}
use Rattle.wire.proofs.Unique.{moved_settled}

-- where there is room, the place after and both tests are known
pub record Room (n at w next : ℕ) : Type 0 where
  pub inside : ltb n at ≡ false
  pub enough : ltb (n - at) w ≡ false
  pub after : next ≡ at + w

pub has_room : (n at w : ℕ) {next : ℕ} → gives tt next ≡ room_for n at w → Room n at w next
unfolding room_for
has_room n at w f =
    let a = passed (ltb n at) 2 at _ f in
    let b = passed (ltb (n - at) w) 15 at (gives tt (at + w)) a.gave in
    record { inside = a.test; enough = b.test; after = cc b.gave }

pub room_fits : (n at w : ℕ) {next : ℕ} → gives tt next ≡ room_for n at w → at + w ≤ n
room_fits n at w f = let i = has_room n at w f in omega (arith, ltb-false n at i.inside, ltb-false (n - at) w i.enough)

-- no room is asked for past the end
pub no_place : (n at w : ℕ) → n < at → refused 2 at ≡ room_for n at w
unfolding room_for refuse_if
no_place n at w h = simp (lt-ltb _ _ h)

-- the cases of a write
module _ (output : Output) (out : List ℕ) (at : ℕ) where
  pub write_beyond : length out < at → refused 2 at ≡ write_at output out at
  unfolding write_at refuse_if
  write_beyond h = rw (lt-ltb _ _ h)

  -- the write's own fault, at a place inside
  pub write_fault : {n p : ℕ} → at ≤ length out → fails n p ≡ output → refused n p ≡ write_at output out at
  unfolding write_at refuse_if unless_fails
  write_fault h e = rw (le-ltb _ _ h, ← e)

  -- room was asked for w bytes, the length of the output
  module _ {bs : List ℕ} (w : ℕ) (e : puts bs ≡ output) (l : length bs ≡ w) where
    pub write_no_room : {n p : ℕ} → refused n p ≡ room_for (length out) at w → refused n p ≡ write_at output out at
    unfolding write_at unless_fails and_then refuse_if
    write_no_room {n} {p} f = go (ltb (length out) at) refl
      where
        go : (b : Bool) → ltb (length out) at ≡ b → refused n p ≡ refuse_if b 2 at (unless_fails output λ cs. and_then (room_for (length out) at (length cs)) λ _ next. gives (laid cs out at) next)
        go true g = cc (f ∙ sym (no_place (length out) at w (ltb-true (length out) at g)))
        go false g = rw (← e, l, ← f)

    pub writes : {next : ℕ} {new : List ℕ} → gives tt next ≡ room_for (length out) at w → new ≡ laid bs out at → gives new next ≡ write_at output out at
    unfolding write_at unless_fails and_then refuse_if
    writes f g = let i = has_room (length out) at w f in rw (← e, l, i.inside, ← f, g)

-- where it went on past an output, the output had passed its test
pub unfailed : {A : Type 0} (b : Bool) (n p : ℕ) (output : Output) (rest : List ℕ → Answer A) {v : A} {q : ℕ}
    → gives v q ≡ unless_fails (fail_if b n p output) rest → Passed b v q (unless_fails output rest)
unfolding fail_if unless_fails
unfailed true n p output rest e = let z : ◌≡◌ {A = ℕ} 0 1 = cc in absurd (omega arith)
unfailed false n p output rest e = record { test = refl; gave = e }

-- what a leaf puts in front of the part that it was lent stands in the whole buffer
module _ (bs out : List ℕ) (at : ℕ) where
  part_length : length (take (length out - at) (drop at out)) ≡ length out - at
  part_length = rw (length-take, length-drop) (omega arith)

  pub landed : {ys : List ℕ} → at + length bs ≤ length out → ys ≡ in_front bs (take (length out - at) (drop at out))
      → put_mid at (length out - at) out ys ≡ laid bs out at
  unfolding laid in_front
  landed {ys} h e =
      let rest : take (length out - at) (drop at out) ≡ drop at out = take_all _ _ (le_of_eq (length-drop at out)) in
      let none : drop (length out - at) (drop at out) ≡ [] = drop_of_length-le _ (le_of_eq (length-drop at out)) in
      let fits : ltb (length (drop at out)) (length bs) ≡ false = le-ltb (length (drop at out)) (length bs) (rw (length-drop at out) (omega arith)) in
      simp (e, rest, none, fits, append-nil, drop-drop, append_assoc)

  -- one piece after another
  pub laid_behind : (cs : List ℕ) → at + length bs ≤ length out → laid cs (laid bs out at) (at + length bs) ≡ laid (bs ++ cs) out at
  unfolding laid
  laid_behind cs h =
      let head : length (take at out ++ bs) ≡ at + length bs = simp (length-append, length-take) (omega arith) in
      let tail : drop (at + length bs + length cs) (take at out ++ bs ++ drop (at + length bs) out) ≡ drop (at + length bs + length cs) out =
      rw (← head) (drop-append-add (take at out ++ bs) _ (length cs) ∙ drop-drop (length cs) _ out) in
      let sum : at + length bs + length cs ≡ at + (length bs + length cs) = omega arith in
      rw (take_at (take at out ++ bs) (drop (at + length bs) out) (at + length bs) head, tail, length-append bs cs, sum, ← append_assoc (take at out) bs cs)

  pub length_laid : at + length bs ≤ length out → length (laid bs out at) ≡ length out
  unfolding laid
  length_laid h = simp (length-append, length-take, length-drop) (omega arith)

-- what a leaf put in front of the whole buffer stands at place 0
pub front_laid : (bs out : List ℕ) → length bs ≤ length out → in_front bs out ≡ laid bs out 0
unfolding in_front laid
front_laid bs out h = rw (le-ltb _ _ h, zero-add (length bs))

-- the two cases of a leaf
pub no_front : (bs out : List ℕ) → length out < length bs → out ≡ in_front bs out
unfolding in_front
no_front bs out h = rw (lt-ltb _ _ h)

pub unfronted : (bs out : List ℕ) → length bs ≤ length out → in_front bs out ≡ bs ++ drop (length bs) out
unfolding in_front
unfronted bs out h = rw (le-ltb _ _ h)

pub fronted : (bs out : List ℕ) {new : List ℕ} → length bs ≤ length out → new ≡ bs ++ drop (length bs) out → new ≡ in_front bs out
fronted bs out h e = e ∙ sym (unfronted bs out h)

-- one leaf behind another: what it puts at the place after hd stands behind hd
pub behind : (out hd bs : List ℕ) (p : ℕ) {d ys : List ℕ} → p ≡ length hd → length (hd ++ bs) ≤ length out
    → d ≡ in_front hd out → ys ≡ in_front bs (take (length d - p) (drop p d)) → put_mid p (length d - p) d ys ≡ in_front (hd ++ bs) out
behind out hd bs p {d} e h f g =
    let room : length hd + length bs ≤ length out = rw (length-append hd bs) at h in
    let before : 0 + length hd ≤ length out = omega arith in
    let first : d ≡ laid hd out 0 = f ∙ front_laid hd out (omega arith) in
    let same : length d ≡ length out = ap length first ∙ length_laid hd out 0 before in
    let place : p ≡ 0 + length hd = omega arith in
    landed bs d p (omega arith) g ∙ rw (first, place) (laid_behind hd out 0 bs before) ∙ sym (front_laid (hd ++ bs) out h)

-- a write of nothing leaves the buffer as it was
pub laid_none : (out : List ℕ) (at : ℕ) → laid [] out at ≡ out
unfolding laid
laid_none out at = simp (append-nil, add-zero) (take-append-drop at out)

pub nothing_put : (output : Output) (out : List ℕ) (at : ℕ) {r : Result Cursor Refusal} → puts [] ≡ output → told_moved r ≡ room_for (length out) at 0
    → Wrote r out out (write_at output out at)
unfolding left
nothing_put output out at {r} e t = go r t
  where
    go : (r : Result Cursor Refusal) → told_moved r ≡ room_for (length out) at 0 → Wrote r out out (write_at output out at)
    go (Ok c) t = let w = writes output out at 0 e refl t (sym (laid_none out at)) in record { answer = rw (← w); buffer = rw (← w) }
    go (Err x) t = let w = write_no_room output out at 0 e refl t in record { answer = rw (← w); buffer = rw (← w) }

-- a writer's promise settles its answer and the buffer
pub wrote_settled : {r r' : Result Cursor Refusal} {new new' old : List ℕ} {write : Answer (List ℕ)} → Wrote r new old write → Wrote r' new' old write → (r ≡ r') × (new ≡ new')
wrote_settled p q = (moved_settled p.answer q.answer, p.buffer ∙ sym q.buffer)
