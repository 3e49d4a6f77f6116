-- Demands 2 and 3 and the count's bounds, of whatever a skip may answer in any encoding. Assumes nothing.
use Prim.Native.Nat.{ℕ, ◌+◌, ◌≤◌}
use mathlib.Core.Path.{◌≡◌, sym, subst, ◌∙◌}
use mathlib.Core.Logic.{◌↔◌}
use mathlib.Core.List.{List, ◌++◌}
use lib.ListN.{length, length-append}
use native.Mathlib.Omega.{arith}
use Rattle.config.specs.declared.configuration.TConfiguration.{TConfiguration}
use Rattle.tree.specs.Coding.{Coding}
use Rattle.tree.specs.Answers.{Outcome, ended, cut_off, Stands, StandsHere, IsCut, Answers, Barred, beyond, structs, depth, RefusedHere, at_entry, in_value, SkipAnswers}
use Rattle.tree.specs.Room.{Roomier, Unnamed}
use Rattle.tree.proofs.Heads.{clash}
use Rattle.tree.proofs.Laws as laws
use Rattle.tree.proofs.Only.{only}
use Rattle.tree.proofs.Entry.{barred, enter, all, by_entry}
use Rattle.tree.proofs.MoreRoom.{stands_more, is_cut_more}
use Rattle.tree.proofs.Bounds as bounds

-- demand 2: it accepts exactly where a value stands, and ends where it ends; it refuses exactly as the cut tree says
module _ (C : Coding) (L : laws.Reads C) (c : TConfiguration) (s : List ℕ) (at d sd : ℕ) (k : C.Kind) (x : Outcome) (a : SkipAnswers C c s at d sd k x) where
  module _ (h : at ≤ length s) (i : d ≤ 127) (j : sd ≤ 65535) where
    accepts : (e n : ℕ) → (x ≡ ended e n) ↔ Stands C c s at d sd k e n
    accepts e n = (
      λ q. subst (Answers C c s at d sd k) q (enter C c s at d sd k x a h i j),
      λ v. only C L c s at d sd k x (ended e n) (enter C c s at d sd k x a h i j) v,
    )

    refuses : (n p m : ℕ) → (x ≡ cut_off n p m) ↔ IsCut C c s at d sd k n p m
    refuses n p m = (
      λ q. subst (Answers C c s at d sd k) q (enter C c s at d sd k x a h i j),
      λ v. only C L c s at d sd k x (cut_off n p m) (enter C c s at d sd k x a h i j) v,
    )

  -- for every start and depth
  pub accepts_exactly : (e n : ℕ) → (x ≡ ended e n) ↔ StandsHere C c s at d sd k e n
  accepts_exactly e n = (
    λ q. by_entry C c s at d sd k x a (λ m z b. clash (cc (sym q ∙ b))) (λ h i j. record { inside = h; depth = i; structs = j; stands = (accepts h i j e n).0 q }),
    λ v. (accepts v.inside v.depth v.structs e n).1 v.stands,
  )

  pub refuses_exactly : (n p m : ℕ) → (x ≡ cut_off n p m) ↔ RefusedHere C c s at d sd k n p m
  refuses_exactly n p m = (
    λ q. by_entry C c s at d sd k x a
        (λ j z b. let same : n ≡ j = cc (sym q ∙ b) in at_entry (subst (Barred s at d sd) (sym same) z) (cc (sym q ∙ b)) (cc (sym q ∙ b)))
        (λ h i j. in_value h i j ((refuses h i j n p m).0 q)),
    back,
  )
    where
      back : RefusedHere C c s at d sd k n p m → x ≡ cut_off n p m
      back (at_entry z e f) = all C c s at d sd k x a (barred s at d sd z) ∙ cc
      back (in_value h i j v) = (refuses h i j n p m).1 v

  -- "proved equal to the number of values in the tree definition and bounded by bytes passed"
  module _ (slack : C.Kind → ℕ) (W : laws.Weighs C slack) where
    pub accepted_count : (e n : ℕ) → x ≡ ended e n → (1 ≤ n) × (at + n ≤ e + slack k)
    accepted_count e n q = bounds.stands_count C L slack W c s at d sd k e n ((accepts_exactly e n).0 q).stands

    pub refused_count : laws.Places C → (n p m : ℕ) → x ≡ cut_off n p m → at + m ≤ p + 1
    refused_count P n p m q =
        by_entry C c s at d sd k x a
        (λ j z b. let place : p ≡ at = cc (sym q ∙ b) in let none : m ≡ 0 = cc (sym q ∙ b) in omega (arith, place, none))
        (λ h i j. bounds.cut_count C L slack W c s at d sd k n p m h ((refuses h i j n p m).0 q) P)

-- demand 3: more room never alters an answer. Two skips, from one start not past the end and at one struct depth, the second with more depth
-- (to 127, where the first was within that), limits raised or removed, and bytes appended
module _ (C : Coding) (L : laws.Reads C) (old new : TConfiguration) (r : Roomier old new) (raised : laws.Raises C old new)
    (room : (d e : ℕ) → d ≤ e → (s x : List ℕ) → laws.Room C old new d e s x) (s x : List ℕ) (at d e sd : ℕ) (k : C.Kind)
    (h : at ≤ length s) (i : d ≤ e) (j : d ≤ 127 → e ≤ 127) (a b : Outcome)
    (first : SkipAnswers C old s at d sd k a) (second : SkipAnswers C new (s ++ x) at e sd k b) where
  longer : at ≤ length (s ++ x)
  longer = simp length-append (omega arith)

  -- what bars the first bars the second
  still : {n : ℕ} → Barred s at d sd n → Barred (s ++ x) at e sd n
  still (beyond g) = absurd (omega arith)
  still (structs g z) = structs longer z
  still (depth g z) = depth longer (omega arith)

  -- an accept stays, with the same end and count
  pub accept_stays : (end n : ℕ) → a ≡ ended end n → b ≡ ended end n
  accept_stays end n q =
      let v = (accepts_exactly C L old s at d sd k a first end n).0 q in
      (accepts_exactly C L new (s ++ x) at e sd k b second end n).1
      (record { inside = longer; depth = j v.depth; structs = v.structs; stands = stands_more C L old new r raised room s x at d e sd k end n i v.stands })

  -- a refusal stays, with the same number, place and count, unless it names what was given room
  pub refusal_stays : (n p m : ℕ) → a ≡ cut_off n p m → Unnamed old new d e x n → b ≡ cut_off n p m
  refusal_stays n p m q u = (refuses_exactly C L new (s ++ x) at e sd k b second n p m).1 (go ((refuses_exactly C L old s at d sd k a first n p m).0 q))
    where
      go : RefusedHere C old s at d sd k n p m → RefusedHere C new (s ++ x) at e sd k n p m
      go (at_entry z f g) = at_entry (still z) f g
      go (in_value g z w v) = in_value longer (j z) w (is_cut_more C L old new r raised room s x at d e sd k n p m h i u v)
