-- Least sizes are small enough that a product with a 32-bit size fits, and a type of fixed bytes has just as many as its least size. Assumes nothing.
use Prim.Native.Nat.{ℕ, ◌≤◌}
use mathlib.Core.Path.{◌≡◌}
use native.Mathlib.Omega.{arith}
use lib.Dec.{lit≤}
use Rattle.codes.specs.Codes.{least_size}
use Rattle.codes.specs.Shapes.{shape_of}
use Rattle.codes.specs.declared.shape.Shape.TheVariants as Sh
use Rattle.codes.specs.declared.TType.{TType}
use Rattle.codes.specs.declared.TType.TheVariants as T

pub least_small : (t : TType) → least_size t ≤ 16
least_small T.Stop = lit≤ tt
least_small T.Void = lit≤ tt
least_small T.Bool = lit≤ tt
least_small T.I08 = lit≤ tt
least_small T.Double = lit≤ tt
least_small T.I16 = lit≤ tt
least_small T.I32 = lit≤ tt
least_small T.I64 = lit≤ tt
least_small T.String = lit≤ tt
least_small T.Utf7 = lit≤ tt
least_small T.Struct = lit≤ tt
least_small T.Map = lit≤ tt
least_small T.Set = lit≤ tt
least_small T.List = lit≤ tt
least_small T.Uuid = lit≤ tt

-- the widths stand in the shapes and in the least sizes: they are the same, and none is 0
pub fixed_least : (t : TType) (w : ℕ) → shape_of t ≡ Sh.Fixed w → (least_size t ≡ w) × (1 ≤ w)
fixed_least T.Stop w h = let z : ◌≡◌ {A = ℕ} 0 1 = cc in absurd (omega arith)
fixed_least T.Void w h = let z : ◌≡◌ {A = ℕ} 0 1 = cc in absurd (omega arith)
fixed_least T.Bool w h = let e : 1 ≡ w = cc in (e, omega arith)
fixed_least T.I08 w h = let e : 1 ≡ w = cc in (e, omega arith)
fixed_least T.Double w h = let e : 8 ≡ w = cc in (e, omega arith)
fixed_least T.I16 w h = let e : 2 ≡ w = cc in (e, omega arith)
fixed_least T.I32 w h = let e : 4 ≡ w = cc in (e, omega arith)
fixed_least T.I64 w h = let e : 8 ≡ w = cc in (e, omega arith)
fixed_least T.String w h = let z : ◌≡◌ {A = ℕ} 0 1 = cc in absurd (omega arith)
fixed_least T.Utf7 w h = let z : ◌≡◌ {A = ℕ} 0 1 = cc in absurd (omega arith)
fixed_least T.Struct w h = let z : ◌≡◌ {A = ℕ} 0 1 = cc in absurd (omega arith)
fixed_least T.Map w h = let z : ◌≡◌ {A = ℕ} 0 1 = cc in absurd (omega arith)
fixed_least T.Set w h = let z : ◌≡◌ {A = ℕ} 0 1 = cc in absurd (omega arith)
fixed_least T.List w h = let z : ◌≡◌ {A = ℕ} 0 1 = cc in absurd (omega arith)
fixed_least T.Uuid w h = let e : 16 ≡ w = cc in (e, omega arith)
