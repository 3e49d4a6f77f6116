-- What the calls answer, once the record's length and the entry are known; and that no two answers meet their promise. Assumes nothing.
use Rattle.std.specs.Prelude.{None, Option, Some}
use Prim.Native.Nat.{ℕ, ◌-◌, ◌<◌, ◌≤◌}
use mathlib.Core.Path.{◌≡◌, refl, sym, ap, subst, ◌∙◌}
use mathlib.Core.Bool.{Bool, true, false}
use mathlib.Core.List.{List, ◌++◌}
use lib.ListN.{length, take, drop, length-append}
use lib.Dec.{ltb}
use native.Mathlib.Omega.{arith}
use borrow.Rule.Slice.PartMut.{put_mid}
use borrow.Author.Tests.{lt-ltb, le-ltb}
use Rattle.wire.specs.Answer.{Answer, gives, refused}
use Rattle.codes.specs.declared.TType.{TType}
use Rattle.codes.specs.Codes.{type_of}
use Rattle.wire.specs.Writes.{in_front}
use Rattle.wire.proofs.Writes.{behind, unfronted}
use Rattle.number.specs.BigEndian.{bytes_of}
use Rattle.number.proofs.Widths.{length-bytes_of}
use Rattle.config.specs.declared.configuration.TConfiguration.{TConfiguration}
use Rattle.tree.specs.Answers.{Outcome, cut_off, skip_entry, AfterEntry}
use Rattle.tree.proofs.Only.{skip_only}
use Rattle.binary.specs.Binary.{binary}
use Rattle.binary.proofs.Binary.{binary_reads}
use Rattle.host.specs.Host.{row_of, filled, NoType, ByType, HostAnswers, ByLength, Hosted}

pub unknown_as : (sd : ℕ) (s : List ℕ) (at d : ℕ) (m : Answer Unit) (x : Outcome) → skip_entry d sd s at ≡ m → AfterEntry m x (x ≡ cut_off 5 at 0) → NoType sd s at d x
unknown_as sd s at d m x e a = subst (λ (n : Answer Unit). AfterEntry n x (x ≡ cut_off 5 at 0)) (sym e) a

module _ (c : TConfiguration) (sd : ℕ) (s : List ℕ) (at d : ℕ) where
  -- any two outcomes that the promise admits are equal
  host_only : (k : Option TType) (x y : Outcome) → ByType c sd k s at d x → ByType c sd k s at d y → x ≡ y
  host_only (Some t) x y a b = skip_only binary binary_reads c s at d sd t x y a b
  host_only None x y a b = go (skip_entry d sd s at) a b
    where
      go : (m : Answer Unit) → AfterEntry m x (x ≡ cut_off 5 at 0) → AfterEntry m y (y ≡ cut_off 5 at 0) → x ≡ y
      go (refused n p) a b = a ∙ sym b
      go (gives u q) a b = a ∙ sym b

  module _ (b : ℕ) where
    pub by_type : (k : Option TType) (x : Outcome) → type_of b ≡ k → ByType c sd k s at d x → HostAnswers c sd s at d b x
    by_type k x e a = subst (λ (n : Option TType). ByType c sd n s at d x) (sym e) a

    module _ (old : List ℕ) where
      pub too_small : length old < 24 → Hosted c sd s at d b old 15 old
      too_small h = subst (λ (n : Bool). ByLength n c sd s at d b old 15 old) (sym (lt-ltb (length old) 24 h)) (refl, refl)

      pub set : (new : List ℕ) (x : Outcome) → 24 ≤ length old → HostAnswers c sd s at d b x → new ≡ filled (row_of x) old → Hosted c sd s at d b old 0 new
      set new x h a e =
          subst (λ (n : Bool). ByLength n c sd s at d b old 0 new) (sym (le-ltb (length old) 24 h)) (record { outcome = x; answers = a; returned = refl; bytes = e })

      -- any two returns and records that the promise admits are equal
      pub hosted_settled : (r r' : ℕ) (new new' : List ℕ) → Hosted c sd s at d b old r new → Hosted c sd s at d b old r' new' → (r ≡ r') × (new ≡ new')
      hosted_settled r r' new new' = go (ltb (length old) 24)
        where
          go : (n : Bool) → ByLength n c sd s at d b old r new → ByLength n c sd s at d b old r' new' → (r ≡ r') × (new ≡ new')
          go true p q = (p.0 ∙ sym q.0, p.1 ∙ sym q.1)
          go false p q =
              let same : p.outcome ≡ q.outcome = host_only (type_of b) p.outcome q.outcome p.answers q.answers in
              (p.returned ∙ sym q.returned, p.bytes ∙ ap (λ (x : Outcome). filled (row_of x) old) same ∙ sym q.bytes)

-- three numbers, one behind the other
module _ (out : List ℕ) (a b c : ℕ) (h : 24 ≤ length out) where
  pub three_put : (d y z : List ℕ) → d ≡ in_front (bytes_of 8 a) out → y ≡ in_front (bytes_of 8 b) (take (length d - 8) (drop 8 d))
      → z ≡ in_front (bytes_of 8 c) (take (length (put_mid 8 (length d - 8) d y) - 16) (drop 16 (put_mid 8 (length d - 8) d y)))
      → put_mid 16 (length (put_mid 8 (length d - 8) d y) - 16) (put_mid 8 (length d - 8) d y) z
      ≡ (bytes_of 8 a ++ bytes_of 8 b ++ bytes_of 8 c) ++ drop 24 out
  three_put d y z p q r =
      let one : length (bytes_of 8 a) ≡ 8 = length-bytes_of 8 a in
      let two : length (bytes_of 8 a ++ bytes_of 8 b) ≡ 16 = simp (length-append, length-bytes_of) in
      let three : length (bytes_of 8 a ++ bytes_of 8 b ++ bytes_of 8 c) ≡ 24 = simp (length-append, length-bytes_of) in
      let second = behind out (bytes_of 8 a) (bytes_of 8 b) 8 (omega arith) (omega arith) p q in
      behind out (bytes_of 8 a ++ bytes_of 8 b) (bytes_of 8 c) 16 (omega arith) (omega arith) second r ∙ unfronted _ out (omega arith) ∙ rw three
