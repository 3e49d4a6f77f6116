-- How long a size and its bytes are. Assumes nothing.
use Prim.Native.Nat.{ℕ, ◌+◌}
use mathlib.Core.Path.{◌≡◌, ◌∙◌}
use mathlib.Core.List.{List}
use lib.ListN.{length, length-append}
use Rattle.number.specs.BigEndian.{bytes_of}
use Rattle.number.proofs.Widths.{length-bytes_of}
use Rattle.text.specs.Texts.{sized_layout}

pub length-sized : (src : List ℕ) → length (sized_layout src) ≡ 4 + length src
length-sized src = length-append (bytes_of 4 (length src)) src ∙ rw (length-bytes_of 4 (length src))
