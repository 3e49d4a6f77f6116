-- The size in a container's header is not negative, so it is a number of elements as it stands. Assumes nothing.
use Prim.Native.Nat.{ℕ, ◌+◌, ◌<◌}
use mathlib.Core.Path.{◌≡◌, subst}
use mathlib.Core.List.{List}
use native.Mathlib.Omega.{arith}
use lib.Dec.{T}
use lib.IntN.{ℤ, nat_abs}
use lib.Signed.{non_neg}
use mir.Syntax.{w32, w64}
use mir.Val.{Fits, to_z, of_z}
use mir.ValLaws.{to_z_pos}
use Rattle.wire.specs.Answer.{gives}
use Rattle.wire.proofs.Answers.{went}
use Rattle.codes.specs.Codes.{least_size}
use Rattle.config.specs.declared.configuration.TConfiguration.{TConfiguration}
use Rattle.read.specs.Headers.{type_at, count_at, list, list_at, map, map_at}
use Rattle.read.proofs.Headers.{count_below}
use Rattle.read.specs.declared.container.TListIdentifier.{TListIdentifier}
use Rattle.read.specs.declared.container.TMapIdentifier.{TMapIdentifier}

-- what `size as usize` asks: no sign is lost, and it fits
abbrev pub Counts : ℤ → Type 0
Counts v = T (non_neg (to_z w32 (of_z w32 v))) × Fits w64 (nat_abs (to_z w32 (of_z w32 v)))

counts : (n : ℕ) → n < 2147483648 → T (non_neg (to_z w32 n)) × Fits w64 (nat_abs (to_z w32 n))
counts n h = rw (to_z_pos w32 n h) (tt, record { fits = omega (arith, h) })

pub list_counts : (c : TConfiguration) (s : List ℕ) (at : ℕ) {l : TListIdentifier} {first : ℕ} → gives l first ≡ list_at c s at → Counts l.size
unfolding list_at
list_counts c s at {l} h =
    let a = went (type_at s at) _ h in
    let b = went (count_at c (least_size a.value) s a.place) _ a.on in
    let same : list a.value b.value ≡ l = cc b.on in
    subst (λ (x : TListIdentifier). Counts x.size) same (counts b.value (count_below c (least_size a.value) s a.place b.gave))

pub map_counts : (c : TConfiguration) (s : List ℕ) (at : ℕ) {m : TMapIdentifier} {first : ℕ} → gives m first ≡ map_at c s at → Counts m.size
unfolding map_at
map_counts c s at {m} h =
    let a = went (type_at s at) _ h in
    let b = went (type_at s a.place) _ a.on in
    let least = least_size a.value + least_size b.value in
    let d = went (count_at c least s b.place) _ b.on in
    let same : map a.value b.value d.value ≡ m = cc d.on in
    subst (λ (x : TMapIdentifier). Counts x.size) same (counts d.value (count_below c least s b.place d.gave))
