-- Two texts that are not well formed. Assumes nothing.
use mathlib.Core.Path.{◌≡◌, refl}
use mathlib.Core.List.{[], ◌∷◌}
use Rattle.utf8.specs.UpTo.{table, fits, width, widths, up_to}

-- a, é, then a byte that starts no character
pub stops_at_ff : up_to (0x61 ∷ 0xC3 ∷ 0xA9 ∷ 0xFF ∷ []) ≡ 3
unfolding up_to widths width fits table
stops_at_ff = refl

-- D800 is no character
pub no_surrogate : up_to (0xED ∷ 0xA0 ∷ 0x80 ∷ []) ≡ 0
unfolding up_to widths width fits table
no_surrogate = refl
