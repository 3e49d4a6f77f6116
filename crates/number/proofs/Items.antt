-- A number that is read, from what the library makes of its item's bytes. Assumes nothing.
use Prim.Native.Nat.{ℕ, ◌^◌, ◌<◌}
use mathlib.Core.Path.{◌≡◌, ◌∙◌, ap}
use mathlib.Core.List.{List}
use lib.Ieee.{Float, binary64, of_bits}
use lib.IntN.{ℤ}
use lib.ListN.{get_or}
use lib.Signed.{mag}
use mir.Syntax.{w8, w16, w32, w64}
use mir.Val.{hbits, to_z, of_z}
use Rattle.std.specs.Int.{from_be_bytes}
use Rattle.sign.proofs.TwosComplement.{reread}
use Rattle.wire.specs.Answer.{gives, item_at}
use Rattle.number.specs.Reads.{byte_at, i8_at, i16_at, i32_at, i64_at, double_at}
use Rattle.number.proofs.Widths.{number, byte, two, four, eight}

module _ (s : List ℕ) (at : ℕ) {bs : List ℕ} {p : ℕ} where
  pub byte_read : {v : ℕ} → gives bs p ≡ item_at s at 1 → v ≡ get_or bs 0 0 → gives v p ≡ byte_at s at
  byte_read e f = number 1 (λ n. n) s at e (f ∙ byte s at e)

  pub double_read : {n : ℕ} {x : Float} → gives bs p ≡ item_at s at 8 → n ≡ from_be_bytes w64 bs → x ≡ of_bits binary64 n → gives x p ≡ double_at s at
  double_read e f g = number 8 (of_bits binary64) s at e (g ∙ ap (of_bits binary64) (f ∙ eight s at e))

  -- a signed one, of which the library says how large it may be
  module _ {v : ℤ} where
    pub i8_read : gives bs p ≡ item_at s at 1 → mag v < 2 ^ hbits w8 → v ≡ to_z w8 (get_or bs 0 0) → gives (to_z w8 (of_z w8 v)) p ≡ i8_at s at
    i8_read e h f = number 1 (to_z w8) s at e (reread w8 h (f ∙ ap (to_z w8) (byte s at e)))

    pub i16_read : gives bs p ≡ item_at s at 2 → mag v < 2 ^ hbits w16 → v ≡ to_z w16 (from_be_bytes w16 bs) → gives (to_z w16 (of_z w16 v)) p ≡ i16_at s at
    i16_read e h f = number 2 (to_z w16) s at e (reread w16 h (f ∙ ap (to_z w16) (two s at e)))

    pub i32_read : gives bs p ≡ item_at s at 4 → mag v < 2 ^ hbits w32 → v ≡ to_z w32 (from_be_bytes w32 bs) → gives (to_z w32 (of_z w32 v)) p ≡ i32_at s at
    i32_read e h f = number 4 (to_z w32) s at e (reread w32 h (f ∙ ap (to_z w32) (four s at e)))

    pub i64_read : gives bs p ≡ item_at s at 8 → mag v < 2 ^ hbits w64 → v ≡ to_z w64 (from_be_bytes w64 bs) → gives (to_z w64 (of_z w64 v)) p ≡ i64_at s at
    i64_read e h f = number 8 (to_z w64) s at e (reread w64 h (f ∙ ap (to_z w64) (eight s at e)))
