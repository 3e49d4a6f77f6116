-- One value after another: what `then` says of the next one, and that the counts together fit a word. Assumes nothing.
use Prim.Native.Nat.{ℕ, ◌+◌, ◌^◌, ◌<◌, ◌≤◌}
use mathlib.Core.Path.{◌≡◌, refl, subst}
use mathlib.Core.List.{List}
use native.Mathlib.Omega.{arith}
use lib.ListN.{length}
use Rattle.std.specs.Prelude.{Result, Ok, Err}
use Rattle.wire.specs.Answer.{Answer, gives, refused}
use Rattle.wire.specs.Refusals.{kind_number, told}
use Rattle.wire.specs.declared.cursor.Cursor.{Cursor}
use Rattle.wire.specs.declared.refusal.Refusal.{Refusal}
use Rattle.codes.specs.declared.TType.{TType}
use Rattle.config.specs.declared.configuration.TConfiguration.{TConfiguration}
use Rattle.tree.specs.Answers.{Stands, IsCut, Answers}
use Rattle.tree.proofs.Bounds as bounds
use Rattle.binary.specs.Binary.{binary}
use Rattle.binary.proofs.Binary.{binary_reads, no_slack, binary_weighs}
use Rattle.leaf.specs.Told.{told_walked}
use Rattle.leaf.specs.declared.Passed.{Passed}
use Rattle.leaf.specs.declared.Halt.{Halt}
use Rattle.skip_value.specs.Then.{Room, then, after}

module _ (c : TConfiguration) (s : List ℕ) (at d sd : ℕ) (t : TType) where
  -- the next value was passed: a tree of it stands there, and its values come on top
  pub record Gone (n : ℕ) (p : Passed) : Type 0 where
    pub values : ℕ
    pub stands : Stands binary c s at d sd t p.next.at values
    pub count : p.count ≡ n + values

  -- the next value was refused: a tree of it is cut off there, and the values begun in it come on top
  pub record Stopped (n : ℕ) (h : Halt) : Type 0 where
    pub values : ℕ
    pub cut : IsCut binary c s at d sd t (kind_number h.refusal.kind) h.refusal.place values
    pub count : h.count ≡ n + values

  pub gone : (n : ℕ) (r : Result Passed Halt) {p : Passed} → then n r ≡ Ok p → Answers binary c s at d sd t (told_walked r) → Gone n p
  gone n (Ok v) {p} e a =
      let same : record { next = v.next; count = n + v.count } ≡ p = cc e in
      subst (Gone n) same (record { values = v.count; stands = a; count = refl })
  gone n (Err x) e a = let z : ◌≡◌ {A = ℕ} 0 1 = cc in absurd (omega arith)

  pub stopped : (n : ℕ) (r : Result Passed Halt) {h : Halt} → then n r ≡ Err h → Answers binary c s at d sd t (told_walked r) → Stopped n h
  stopped n (Ok v) e a = let z : ◌≡◌ {A = ℕ} 0 1 = cc in absurd (omega arith)
  stopped n (Err x) {h} e a =
      let same : record { refusal = x.refusal; count = n + x.count } ≡ h = cc e in
      subst (Stopped n) same (record { values = x.count; cut = a; count = refl })

-- what was read after so many values, and its refusal
module _ {A : Type 0} (n : ℕ) (r : Result (A × Cursor) Refusal) {m : Answer A} where
  pub was_read : {v : A} {q : Cursor} → after n r ≡ Ok (v, q) → told r ≡ m → gives v q.at ≡ m
  was_read {v} {q} e t = go r e t
    where
      go : (r : Result (A × Cursor) Refusal) → after n r ≡ Ok (v, q) → told r ≡ m → gives v q.at ≡ m
      go (Ok p) e t = subst (λ (p : A × Cursor). gives p.0 p.1.at ≡ m) (cc e) t
      go (Err x) e t = let z : ◌≡◌ {A = ℕ} 0 1 = cc in absurd (omega arith)

  pub was_refused : {h : Halt} → after n r ≡ Err h → told r ≡ m → (refused (kind_number h.refusal.kind) h.refusal.place ≡ m) × (h.count ≡ n)
  was_refused {h} e t = go r e t
    where
      go : (r : Result (A × Cursor) Refusal) → after n r ≡ Err h → told r ≡ m → (refused (kind_number h.refusal.kind) h.refusal.place ≡ m) × (h.count ≡ n)
      go (Ok p) e t = let z : ◌≡◌ {A = ℕ} 0 1 = cc in absurd (omega arith)
      go (Err x) e t = subst (λ (h : Halt). (refused (kind_number h.refusal.kind) h.refusal.place ≡ m) × (h.count ≡ n)) (cc e) (t, refl)

pub fits : (c : TConfiguration) (s : List ℕ) (at d sd : ℕ) (t : TType) (r : Result Passed Halt) {n : ℕ} → n ≤ at + 1 → at ≤ length s
    → length s < 2 ^ 63 → Answers binary c s at d sd t (told_walked r) → Room n r
fits c s at d sd t (Ok v) i j k a =
    let h = bounds.stands_count binary binary_reads no_slack binary_weighs _ _ _ _ _ _ _ _ a in omega (arith, h.1, a.part.within)
fits c s at d sd t (Err x) i j k a =
    let h = bounds.cut_small binary binary_reads no_slack binary_weighs _ _ _ _ _ _ _ _ _ j a in omega (arith, h)
