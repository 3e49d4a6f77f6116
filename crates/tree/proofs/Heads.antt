-- What numbers that were read and a struct that has begun say of the bytes. Assumes nothing.
use Prim.Native.Nat.{ℕ, ◌+◌, ◌≤◌, ◌<◌}
use mathlib.Core.Path.{◌≡◌, sym, ap, ◌∙◌}
use mathlib.Core.Bool.{false}
use mathlib.Core.List.{List, [], ◌∷◌}
use lib.ListN.{length, get_or, take, drop}
use lib.Dec.{ltb, eqb}
use lib.Seq.{drop-cons}
use native.Mathlib.Omega.{arith}
use borrow.Author.Tests.{ltb-false, eqb-false}
use Rattle.wire.specs.Answer.{gives, within, item_at}
use Rattle.wire.proofs.Answers.{passed, went}
use Rattle.wire.proofs.Within.{inside}
use Rattle.number.specs.BigEndian.{big}
use Rattle.number.specs.Reads.{number_at, byte_at}
use Rattle.config.specs.Limits.{reached}
use Rattle.config.specs.declared.configuration.TConfiguration.{TConfiguration}
use Rattle.nesting.specs.Structs.{struct_begin_at}
use Rattle.tree.specs.Part.{Part}
use Rattle.tree.proofs.Parts.{part_run, part_to, part_is}

-- 0 is not 1: what `cc` derives from two constructors that are equal
pub clash : {A : Type 0} → ◌≡◌ {A = ℕ} 0 1 → A
clash z = absurd (omega arith)

-- so many bytes that were there are a part
pub within_part : (s : List ℕ) (at w : ℕ) {next : ℕ} → gives tt next ≡ within s at w → Part s at next (take w (drop at s))
within_part s at w {next} e = let i = inside s at w e in part_to next (part_run s at w i.room) (sym i.next)

pub record NumberIs {A : Type 0} (w : ℕ) (f : ℕ → A) (s : List ℕ) (at : ℕ) (v : A) (next : ℕ) : Type 0 where
  pub room : at + w ≤ length s
  pub end : next ≡ at + w
  pub part : Part s at next (take w (drop at s))
  pub value : v ≡ f (big (take w (drop at s)))

pub number_is : {A : Type 0} (w : ℕ) (f : ℕ → A) (s : List ℕ) (at : ℕ) {v : A} {next : ℕ} → gives v next ≡ number_at w f s at → NumberIs w f s at v next
unfolding number_at item_at
number_is w f s at {v} {next} e =
    let a = went (item_at s at w) _ e in
    let b = went (within s at w) _ a.gave in
    let i = inside s at w b.gave in
    let bytes : a.value ≡ take w (drop at s) = cc b.on in
    let place : a.place ≡ b.place = cc b.on in
    let same : v ≡ f (big a.value) = cc a.on in
    let last : next ≡ a.place = cc a.on in
    record {
      room = i.room;
      end = last ∙ place ∙ i.next;
      part = part_to next (within_part s at w b.gave) (sym (last ∙ place));
      value = same ∙ ap (λ (l : List ℕ). f (big l)) bytes;
    }

pub big_one : (b : ℕ) → big (b ∷ []) ≡ b
unfolding big
big_one b = omega arith

pub one_byte : (s : List ℕ) (at : ℕ) → at + 1 ≤ length s → take 1 (drop at s) ≡ big (take 1 (drop at s)) ∷ []
one_byte s at h = let e : take 1 (drop at s) ≡ get_or s at 0 ∷ [] = rw (drop-cons s at 0 (omega arith)) in rw (e, big_one (get_or s at 0))

pub byte_part : (s : List ℕ) (at : ℕ) {b next : ℕ} → gives b next ≡ byte_at s at → Part s at next (b ∷ [])
byte_part s at e =
    let i = number_is 1 (λ (n : ℕ). n) s at e in
    part_is i.part (one_byte s at i.room ∙ ap (λ (n : ℕ). n ∷ []) (sym i.value))

-- a struct that has begun: there is room for one more, and the place stays
pub record StructIs (c : TConfiguration) (sd : ℕ) (s : List ℕ) (at inner p : ℕ) : Type 0 where
  pub room : at ≤ length s
  pub limit : reached sd c.max_recursion_depth ≡ false
  pub cap : sd < 65535
  pub deeper : inner ≡ sd + 1
  pub place : p ≡ at

pub struct_is : (c : TConfiguration) (sd : ℕ) (s : List ℕ) (at : ℕ) {inner p : ℕ} → gives inner p ≡ struct_begin_at c.max_recursion_depth sd s at
    → StructIs c sd s at inner p
unfolding struct_begin_at
struct_is c sd s at {inner} {p} h =
    let a = passed (ltb (length s) at) 2 at _ h in
    let b = passed (ltb 65535 sd) 20 at _ a.gave in
    let l = passed (reached sd c.max_recursion_depth) 11 at _ b.gave in
    let e = passed (eqb sd 65535) 11 at (gives (sd + 1) at) l.gave in
    record {
      room = ltb-false (length s) at a.test;
      limit = l.test;
      cap = omega (arith, ltb-false 65535 sd b.test, eqb-false sd 65535 e.test);
      deeper = cc e.gave;
      place = cc e.gave;
    }
