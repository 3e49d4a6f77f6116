-- The entry of a skip: 2, then 20, then the value. Assumes nothing.
use Prim.Native.Nat.{ℕ, ◌<◌, ◌≤◌}
use mathlib.Core.Path.{◌≡◌, sym, subst}
use mathlib.Core.List.{List}
use lib.ListN.{length}
use native.Mathlib.Decide.{dec_lt}
use native.Mathlib.Omega.{arith}
use borrow.Author.Tests.{lt-ltb, le-ltb}
use Rattle.wire.specs.Answer.{Answer, gives, refused, refuse_if}
use Rattle.config.specs.declared.configuration.TConfiguration.{TConfiguration}
use Rattle.tree.specs.Coding.{Coding}
use Rattle.tree.specs.Answers.{Outcome, cut_off, Answers, skip_entry, AfterEntry, Barred, beyond, structs, depth, SkipAnswers}

module _ (s : List ℕ) (at d sd : ℕ) where
  pub entry_beyond : length s < at → skip_entry d sd s at ≡ refused 2 at
  unfolding refuse_if
  entry_beyond h = rw (lt-ltb _ _ h)

  module _ (h : at ≤ length s) where
    pub entry_struct_depth : 65535 < sd → skip_entry d sd s at ≡ refused 20 at
    unfolding refuse_if
    entry_struct_depth j = rw (le-ltb _ _ h, lt-ltb _ _ j)

    module _ (j : sd ≤ 65535) where
      pub entry_depth : 127 < d → skip_entry d sd s at ≡ refused 20 at
      unfolding refuse_if
      entry_depth i = rw (le-ltb _ _ h, le-ltb _ _ j, lt-ltb _ _ i)

      pub entered : d ≤ 127 → skip_entry d sd s at ≡ gives tt at
      unfolding refuse_if
      entered i = rw (le-ltb _ _ h, le-ltb _ _ j, le-ltb _ _ i)

-- whatever bars the entry is what it refuses
pub barred : (s : List ℕ) (at d sd : ℕ) {n : ℕ} → Barred s at d sd n → skip_entry d sd s at ≡ refused n at
barred s at d sd (beyond h) = entry_beyond s at d sd h
barred s at d sd (structs h j) = entry_struct_depth s at d sd h j
barred s at d sd (depth h i) = go (dec_lt 65535 sd)
  where
    go : Dec (65535 < sd) → skip_entry d sd s at ≡ refused 20 at
    go (yes j) = entry_struct_depth s at d sd h j
    go (no j) = entry_depth s at d sd h (omega arith) i

module _ (C : Coding) (c : TConfiguration) (s : List ℕ) (at d sd : ℕ) (k : C.Kind) (x : Outcome) where
  -- what the entry answers decides which claim is made
  pub after : (m : Answer Unit) → skip_entry d sd s at ≡ m → AfterEntry m x (Answers C c s at d sd k x) → SkipAnswers C c s at d sd k x
  after m e a = subst (λ (n : Answer Unit). AfterEntry n x (Answers C c s at d sd k x)) (sym e) a

  module _ (a : SkipAnswers C c s at d sd k x) where
    -- an entry that refuses is all that is answered
    pub all : {n p : ℕ} → skip_entry d sd s at ≡ refused n p → x ≡ cut_off n p 0
    all e = subst (λ (m : Answer Unit). AfterEntry m x (Answers C c s at d sd k x)) e a

    -- one that lets in leaves the value's own answer
    pub enter : at ≤ length s → d ≤ 127 → sd ≤ 65535 → Answers C c s at d sd k x
    enter h i j = subst (λ (m : Answer Unit). AfterEntry m x (Answers C c s at d sd k x)) (entered s at d sd h j i) a

    -- 2 and 20 apart, the entry lets in
    pub by_entry : {P : Type 0} → ((n : ℕ) → Barred s at d sd n → x ≡ cut_off n at 0 → P) → (at ≤ length s → d ≤ 127 → sd ≤ 65535 → P) → P
    by_entry {P} out on = go (dec_lt (length s) at)
      where
        deep : at ≤ length s → sd ≤ 65535 → Dec (127 < d) → P
        deep h j (yes i) = out 20 (depth h i) (all (entry_depth s at d sd h j i))
        deep h j (no i) = on h (omega arith) j

        nested : at ≤ length s → Dec (65535 < sd) → P
        nested h (yes j) = out 20 (structs h j) (all (entry_struct_depth s at d sd h j))
        nested h (no j) = deep h (omega arith) (dec_lt 127 d)

        go : Dec (length s < at) → P
        go (yes h) = out 2 (beyond h) (all (entry_beyond s at d sd h))
        go (no h) = nested (omega arith) (dec_lt 65535 sd)
