-- `up_to` is as `ValidUpTo` says, and no other place is. Assumes nothing.
use Prim.Native.Nat.{ℕ, zero, suc, ◌+◌, ◌≤◌, ◌<◌, zero-le}
use mathlib.Core.Path.{◌≡◌, refl, sym, ◌∙◌, ap}
use mathlib.Core.List.{List, ◌++◌, append_assoc, append-nil}
use native.Mathlib.Omega.{arith}
use lib.ListN.{length, take, drop, length-append, length-drop, take-append-drop}
use lib.Seq.{take-add, drop-drop, drop-append_seam, length-take-le}
use Rattle.utf8.specs.Utf8.{Char, Text, Nothing, ValidUpTo}
use Rattle.utf8.specs.Utf8.Text.{empty, more}
use Rattle.utf8.specs.UpTo.{table, width, widths, up_to}
use Rattle.utf8.proofs.Chars.{stands, found_char, some}

-- the width is 0 where no character stands, and only there
nothing : (l : List ℕ) → width table l ≡ 0 → Nothing l
nothing l e k h c =
    let w : width table l ≡ length (take k l) = rw take-append-drop at (found_char (drop k l) c) in
    omega (arith, some (take k l) c)

no_width : (l : List ℕ) → Nothing l → width table l ≡ 0
no_width l n = go (width table l) refl
  where
    go : (w : ℕ) → width table l ≡ w → width table l ≡ 0
    go zero e = e
    go (suc w) e = absurd (n (width table l) (stands l).0 ((stands l).1 (λ z. omega arith)))

-- no turn adds anything there
stays : (turns : ℕ) (l : List ℕ) → width table l ≡ 0 → widths turns l ≡ 0
unfolding widths
stays zero l e = refl
stays (suc turns) l e = rw e (omega (arith, stays turns l e))

-- a character in front of a text
in_front_lem : {c t : List ℕ} → Char c → Text t → Text (c ++ t)
in_front_lem {c} h empty = more empty h (append-nil c)
in_front_lem {c} h (more {p = p} {c = d} t k e) = more (in_front_lem h t) k (ap (λ (l : List ℕ). c ++ l) e ∙ sym (append_assoc c p d))

after : (l : List ℕ) (w r : ℕ) → w ≤ length l → Char (take w l) → ValidUpTo (drop w l) r → ValidUpTo l (w + r)
after l w r h c v = record {
  inside = omega (arith, v.inside, length-drop w l);
  text = rw take-add (in_front_lem c v.text);
  stop = rw drop-drop at v.stop;
}

ends : (l : List ℕ) → width table l ≡ 0 → ValidUpTo l 0
ends l e = record { inside = zero-le; text = empty; stop = nothing l e }

step : (turns : ℕ) (l : List ℕ) (w : ℕ) → width table l ≡ w → length l ≤ suc turns
    → ((m : List ℕ) → length m ≤ turns → ValidUpTo m (widths turns m)) → ValidUpTo l (widths (suc turns) l)
unfolding widths
step turns l zero e h rest = rw (stays (suc turns) l e) (ends l e)
step turns l (suc w) e h rest =
    after l (width table l) _ (stands l).0 ((stands l).1 (λ z. omega arith)) (rest (drop (width table l) l) (omega (arith, length-drop (width table l) l)))

valid : (turns : ℕ) (l : List ℕ) → length l ≤ turns → ValidUpTo l (widths turns l)
unfolding widths
valid zero l h = ends l (omega (arith, (stands l).0))
valid (suc turns) l h = step turns l (width table l) refl h (valid turns)

pub up_to-valid : (s : List ℕ) → ValidUpTo s (up_to s)
unfolding up_to
up_to-valid s = valid (length s) s (omega arith)

-- a text is passed in as many turns as it has bytes, or fewer
record Passed (p m : List ℕ) (turns : ℕ) : Type 0 where
  left : ℕ
  enough : turns ≤ length p + left
  sum : widths turns (p ++ m) ≡ length p + widths left m

a_char : (p c m : List ℕ) (turns : ℕ) → length (p ++ c) ≤ turns → Char c → Passed p (c ++ m) turns → Passed (p ++ c) m turns
unfolding widths
a_char p c m turns h k q = go q.left q.enough q.sum
  where
    go : (left : ℕ) → turns ≤ length p + left → widths turns (p ++ (c ++ m)) ≡ length p + widths left (c ++ m) → Passed (p ++ c) m turns
    go zero i e = absurd (omega (arith, length-append p c, some c k))
    go (suc left) i e =
        let f : widths turns (p ++ (c ++ m)) ≡ length p + (length c + widths left m) = rw (found_char m k, drop-append_seam) at e in
        record { left = left; enough = omega (arith, length-append p c, some c k); sum = rw (append_assoc, length-append p c) (omega arith) }

passed : {p : List ℕ} → Text p → (m : List ℕ) (turns : ℕ) → length p ≤ turns → Passed p m turns
passed empty m turns h = record { left = turns; enough = omega arith; sum = omega arith }
passed (more {p = p} {c = c} t k e) m turns h =
    let i : length (p ++ c) ≤ turns = rw e at h in
    rw e (a_char p c m turns i k (passed t (c ++ m) turns (omega (arith, length-append p c))))

pub up_to_only : (s : List ℕ) (r : ℕ) → ValidUpTo s r → r ≡ up_to s
unfolding up_to
up_to_only s r v =
    let n : length (take r s) ≡ r = length-take-le r s v.inside in
    let q = passed v.text (drop r s) (length s) (omega (arith, v.inside)) in
    let e : widths (length s) s ≡ length (take r s) + widths q.left (drop r s) = rw take-append-drop at q.sum in
    omega (arith, stays q.left (drop r s) (no_width (drop r s) v.stop))

-- ---- for the code

-- the character at the front is within the text
pub within : (s : List ℕ) → width table s ≤ length s
within s = (stands s).0

-- where no character stands at the front, nothing is well formed
pub no_char : (s : List ℕ) → width table s ≡ 0 → up_to s ≡ 0
unfolding up_to
no_char s e = stays (length s) s e

-- where one does, it is passed, and the rest counts from there on
pub past_char : (s : List ℕ) (w : ℕ) → 0 < w → width table s ≡ w → up_to (drop w s) + w ≡ up_to s
past_char s w h e =
    let c : Char (take w s) = rw e at ((stands s).1 (λ z. omega arith)) in
    let v : ValidUpTo s (w + up_to (drop w s)) = after s w _ (omega (arith, within s)) c (up_to-valid (drop w s)) in
    omega (arith, up_to_only s _ v)
