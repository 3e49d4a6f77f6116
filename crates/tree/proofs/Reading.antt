-- What bytes say to the reads of numbers, and room to the struct begin: where the bytes of a number stand, the read gives it. Assumes nothing.
use Prim.Native.Nat.{ℕ, ◌+◌, ◌-◌, ◌≤◌, ◌<◌}
use mathlib.Core.Path.{◌≡◌, sym, ap, ◌∙◌}
use mathlib.Core.Bool.{false}
use mathlib.Core.List.{List}
use lib.ListN.{length, take, drop}
use native.Mathlib.Omega.{arith}
use Rattle.wire.specs.Answer.{gives, and_then, within, item_at}
use Rattle.wire.proofs.Within.{whole}
use Rattle.number.specs.BigEndian.{big}
use Rattle.number.specs.Reads.{number_at}
use Rattle.config.specs.Limits.{reached}
use Rattle.config.specs.declared.configuration.TConfiguration.{TConfiguration}
use Rattle.nesting.specs.Structs.{struct_begin_at}
use Rattle.nesting.proofs.Structs as structs
use Rattle.tree.specs.Part.{Part}
use Rattle.tree.proofs.Parts.{part_length}

-- so many bytes that are a part are there
pub part_within : {s : List ℕ} {at e : ℕ} (b : List ℕ) (w : ℕ) → length b ≡ w → Part s at e b → gives tt e ≡ within s at w
part_within {s} {at} {e} b w h p =
    let l = part_length p in
    let last : at + w ≡ e = omega arith in
    rw (← last) (whole s at w (omega (arith, p.from, p.within)) (omega (arith, p.within)))

pub number_reads : {A : Type 0} {s : List ℕ} {at e : ℕ} (b : List ℕ) (w : ℕ) (f : ℕ → A) → length b ≡ w → Part s at e b
    → gives (f (big b)) e ≡ number_at w f s at
unfolding number_at item_at and_then
number_reads {A} {s} {at} {e} b w f h p =
    let there = part_within b w h p in
    let l = part_length p in
    let wide : e - at ≡ w = omega arith in
    let same : take w (drop at s) ≡ b = ap (λ (n : ℕ). take n (drop at s)) (sym wide) ∙ p.bytes in
    rw (← there, same)

-- a struct begins where there is room for one more
pub struct_reads : (c : TConfiguration) (sd : ℕ) (s : List ℕ) (at : ℕ) → at ≤ length s → reached sd c.max_recursion_depth ≡ false → sd < 65535
    → gives (sd + 1) at ≡ struct_begin_at c.max_recursion_depth sd s at
struct_reads c sd s at h l i = structs.begun c.max_recursion_depth sd s at h (omega arith) l (λ e. omega arith)
