-- A number put in front, by the library's own bytes of it. Assumes nothing.
use Prim.Native.Nat.{ℕ}
use mathlib.Core.Path.{◌≡◌, ◌∙◌, ap}
use mathlib.Core.List.{List}
use mir.Syntax.{w32, w64}
use Rattle.std.specs.Int.{to_be_bytes}
use Rattle.wire.specs.Writes.{in_front}
use Rattle.number.specs.BigEndian.{bytes_of}
use Rattle.number.proofs.Widths.{high_first}

module _ (n : ℕ) (out : List ℕ) {new bs : List ℕ} (f : new ≡ in_front bs out) where
  pub four : bs ≡ to_be_bytes w32 n → new ≡ in_front (bytes_of 4 n) out
  four e = f ∙ ap (λ (l : List ℕ). in_front l out) (e ∙ high_first 4 n)

  pub eight : bs ≡ to_be_bytes w64 n → new ≡ in_front (bytes_of 8 n) out
  eight e = f ∙ ap (λ (l : List ℕ). in_front l out) (e ∙ high_first 8 n)
