-- More room, header by header: what a header gives it goes on giving, and what it refuses it goes on refusing unless the refusal names
-- what was given room. Assumes nothing.
use Rattle.std.specs.Prelude.{Option}
use Prim.Native.Nat.{ℕ, ◌+◌, ◌-◌, ◌≤◌}
use mathlib.Core.Path.{◌≡◌, refl, sym, ap, subst, ◌∙◌}
use mathlib.Core.Bool.{Bool, true, false}
use mathlib.Core.Logic.{◌⊎◌, inl, inr}
use mathlib.Core.List.{List, [], ◌++◌, append-nil}
use lib.Dec.{ltb, eqb}
use lib.ListN.{length, take, drop, length-append, length-drop}
use lib.Seq.{take-append-le, drop-append-le}
use native.Mathlib.Omega.{arith}
use borrow.Author.Tests.{le-ltb, ltb-false, eq-eqb}
use Rattle.wire.specs.Answer.{Answer, gives, refused, refuse_if, and_then, mapped, within, item_at}
use Rattle.wire.proofs.Within.{inside}
use Rattle.number.specs.Reads.{number_at}
use Rattle.config.specs.Limits.{above, reached, Raised}
use Rattle.config.specs.declared.configuration.TConfiguration.{TConfiguration}
use Rattle.config.proofs.Room.{still_within, still_below, reached_later}
use Rattle.nesting.specs.Structs.{struct_begin_at}
use Rattle.tree.specs.Room.{Roomier, Unnamed}
use Rattle.tree.proofs.Heads.{clash}

pub record Grows {A : Type 0} (K : ℕ → Type 0) (m m' : Answer A) : Type 0 where
  pub given : (v : A) (q : ℕ) → gives v q ≡ m → gives v q ≡ m'
  pub kept : (n p : ℕ) → K n → refused n p ≡ m → refused n p ≡ m'

module _ (K : ℕ → Type 0) where
  pub grows_same : {A : Type 0} (m : Answer A) → Grows K m m
  grows_same m = record { given = λ v q e. e; kept = λ n p k e. e }

  pub grows_if : {A : Type 0} (b b' : Bool) (k at : ℕ) (rest rest' : Answer A) → (b ≡ false → b' ≡ false) → (K k → b ≡ true → b' ≡ true)
      → (b ≡ false → Grows K rest rest') → Grows K (refuse_if b k at rest) (refuse_if b' k at rest')
  unfolding refuse_if
  grows_if true true k at rest rest' f t g = grows_same _
  grows_if true false k at rest rest' f t g =
      record {
        given = λ v q e. clash (cc);
        kept = λ n p h e. let same : n ≡ k = cc in clash (cc (t (subst K same h) refl));
      }
  grows_if false true k at rest rest' f t g = clash (cc (f refl))
  grows_if false false k at rest rest' f t g = g refl

  -- two tests with one number: where the first no longer holds, the second does
  pub grows_either : {A : Type 0} (b b' c : Bool) (k at : ℕ) (rest : Answer A) → (b ≡ false → b' ≡ false) → (K k → b ≡ true → b' ≡ false → c ≡ true)
      → Grows K (refuse_if b k at (refuse_if c k at rest)) (refuse_if b' k at (refuse_if c k at rest))
  unfolding refuse_if
  grows_either true true c k at rest f t = grows_same _
  grows_either true false true k at rest f t = grows_same _
  grows_either true false false k at rest f t =
      record {
        given = λ v q e. clash (cc);
        kept = λ n p h e. let same : n ≡ k = cc in clash (cc (t (subst K same h) refl refl));
      }
  grows_either false true c k at rest f t = clash (cc (f refl))
  grows_either false false c k at rest f t = grows_same _

  -- a test against a limit that was raised or removed, of which a refusal says that it was kept
  pub grows_limit : {A : Type 0} (n : ℕ) (l l' : Option ℕ) (k at : ℕ) (rest rest' : Answer A) → Raised l l' → (K k → l ≡ l') → Grows K rest rest'
      → Grows K (refuse_if (above n l) k at rest) (refuse_if (above n l') k at rest')
  grows_limit n l l' k at rest rest' up keep g =
      grows_if (above n l) (above n l') k at rest rest' (still_within n l l' up) (λ h t. ap (above n) (sym (keep h)) ∙ t) (λ t. g)

  pub grows_then : {A B : Type 0} (m m' : Answer A) (rest rest' : A → ℕ → Answer B) → Grows K m m'
      → ((v : A) (q : ℕ) → gives v q ≡ m → Grows K (rest v q) (rest' v q)) → Grows K (and_then m rest) (and_then m' rest')
  unfolding and_then
  grows_then (gives v q) m' rest rest' g on =
      record {
        given = λ w r e. rw (← g.given v q refl) ((on v q refl).given w r e);
        kept = λ n p k e. rw (← g.given v q refl) ((on v q refl).kept n p k e);
      }
  grows_then (refused j q) m' rest rest' g on =
      record {
        given = λ w r e. clash (cc);
        kept = λ n p k e. let i : n ≡ j = cc in let r : p ≡ q = cc in rw (← g.kept j q (subst K i k) refl) (cc);
      }

  -- what is seen of an answer grows as it does
  pub grows_mapped : {A B : Type 0} (f : A → B) (m m' : Answer A) → Grows K m m' → Grows K (mapped f m) (mapped f m')
  grows_mapped f (gives v q) m' g = rw (← g.given v q refl) (grows_same (gives (f v) q))
  grows_mapped f (refused j q) m' g =
      record {
        given = λ w r e. clash (cc);
        kept = λ n p k e. let i : n ≡ j = cc in let r : p ≡ q = cc in rw (← g.kept j q (subst K i k) refl) (cc);
      }

-- bytes appended behind s
module _ (K : ℕ → Type 0) (s x : List ℕ) (short : K 1 → x ≡ []) where
  pub no_bytes : K 1 → s ++ x ≡ s
  no_bytes k = ap (λ (y : List ℕ). s ++ y) (short k) ∙ append-nil s

  pub within_grows : (at w : ℕ) → at ≤ length s → Grows K (within s at w) (within (s ++ x) at w)
  unfolding within
  within_grows at w h =
      let longer : length s ≤ length (s ++ x) = simp length-append (omega arith) in
      grows_if K _ _ 2 at _ _ (λ e. le-ltb (length (s ++ x)) at (omega arith)) (λ k e. clash (cc (le-ltb (length s) at h))) (λ e.
      grows_if K _ _ 1 at _ _
      (λ f. le-ltb (length (s ++ x) - at) w (omega (arith, ltb-false (length s - at) w f)))
      (λ k f. rw (no_bytes k) f)
      (λ f. grows_same K _))

  pub item_same : (at w q : ℕ) → gives tt q ≡ within s at w → take w (drop at (s ++ x)) ≡ take w (drop at s)
  item_same at w q e =
      let i = inside s at w e in
      ap (take w) (drop-append-le at s x (omega (arith, i.room))) ∙ take-append-le w (drop at s) x (simp length-drop (omega (arith, i.room)))

  pub number_grows : {A : Type 0} (w : ℕ) (f : ℕ → A) (at : ℕ) → at ≤ length s → Grows K (number_at w f s at) (number_at w f (s ++ x) at)
  unfolding number_at item_at
  number_grows w f at h =
      grows_then K (item_at s at w) (item_at (s ++ x) at w) _ _
      (grows_then K (within s at w) (within (s ++ x) at w) _ _ (within_grows at w h) (λ u q e. rw (item_same at w q e) (grows_same K _)))
      (λ b q e. grows_same K _)

-- an 11 whose limit is not reached below 65,535 comes at that depth
by_cap : (sd : ℕ) (o w : Option ℕ) → (o ≡ w) ⊎ (reached 65534 o ≡ false) → reached sd o ≡ true → reached sd w ≡ false → sd ≤ 65535 → eqb sd 65535 ≡ true
by_cap sd o w (inl e) t u h = clash (cc (sym t ∙ ap (reached sd) e ∙ u))
by_cap sd o w (inr f) t u h = eq-eqb sd 65535 (omega (arith, reached_later 65534 sd o f t))

-- limits raised or removed, the depth raised, and bytes appended
module _ (old new : TConfiguration) (r : Roomier old new) (d e : ℕ) (more : d ≤ e) (s x : List ℕ) where
  abbrev K : ℕ → Type 0
  K = Unnamed old new d e x

  pub struct_grows : (sd at : ℕ) → at ≤ length s
      → Grows K (struct_begin_at old.max_recursion_depth sd s at) (struct_begin_at new.max_recursion_depth sd (s ++ x) at)
  unfolding struct_begin_at
  struct_grows sd at h =
      let longer : length s ≤ length (s ++ x) = simp length-append (omega arith) in
      let last : Answer ℕ = refuse_if (eqb sd 65535) 11 at (gives (sd + 1) at) in
      let o = old.max_recursion_depth in
      let w = new.max_recursion_depth in
      grows_if K (ltb (length s) at) (ltb (length (s ++ x)) at) 2 at
      (refuse_if (ltb 65535 sd) 20 at (refuse_if (reached sd o) 11 at last))
      (refuse_if (ltb 65535 sd) 20 at (refuse_if (reached sd w) 11 at last))
      (λ f. le-ltb (length (s ++ x)) at (omega arith)) (λ k f. clash (cc (le-ltb (length s) at h))) (λ f.
      grows_if K (ltb 65535 sd) (ltb 65535 sd) 20 at (refuse_if (reached sd o) 11 at last) (refuse_if (reached sd w) 11 at last) (λ g. g) (λ k g. g) (λ g.
      grows_either K (reached sd o) (reached sd w) (eqb sd 65535) 11 at (gives (sd + 1) at) (still_below sd o w r.depth)
      (λ k t u. by_cap sd o w (k.structs refl) t u (ltb-false 65535 sd g))))
