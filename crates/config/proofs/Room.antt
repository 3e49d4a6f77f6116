-- A limit that was raised or removed never refuses more. Assumes nothing.
use Prim.Native.Nat.{ℕ, ◌<◌}
use mathlib.Core.Path.{◌≡◌, refl, sym}
use mathlib.Core.Bool.{true, false, true≢false}
use native.Mathlib.Omega.{arith}
use borrow.Author.Tests.{le-ltb, lt-leb, ltb-false, leb-true, leb-false}
use Rattle.config.specs.Limits.{above, reached, Raised}
use Rattle.std.specs.Prelude.{Option, Some, None}

pub still_within : (n : ℕ) (old new : Option ℕ) → Raised old new → above n old ≡ false → above n new ≡ false
still_within n None None r e = refl
still_within n None (Some m) r e = absurd r
still_within n (Some k) None r e = refl
still_within n (Some k) (Some m) r e = le-ltb m n (omega (arith, ltb-false k n e))

pub still_below : (n : ℕ) (old new : Option ℕ) → Raised old new → reached n old ≡ false → reached n new ≡ false
still_below n None None r e = refl
still_below n None (Some m) r e = absurd r
still_below n (Some k) None r e = refl
still_below n (Some k) (Some m) r e = lt-leb m n (omega (arith, leb-false k n e))

-- a limit is reached at a depth and not at another: that one is less
pub reached_later : (m n : ℕ) (l : Option ℕ) → reached m l ≡ false → reached n l ≡ true → m < n
reached_later m n None f t = absurd (true≢false (sym t))
reached_later m n (Some k) f t = omega (arith, leb-false k m f, leb-true k n t)
