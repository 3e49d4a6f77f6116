-- Where there is a frame, read and written. Assumes nothing.
use Rattle.std.specs.Prelude.{Option, Some}
use Prim.Native.Nat.{ℕ}
use mathlib.Core.Path.{◌≡◌}
use mathlib.Core.List.{List}
use borrow.Author.Tests.{ne_eqb}
use lib.ListN.{length}
use Rattle.wire.specs.Answer.{gives}
use Rattle.text.specs.Texts.{sized_at}
use Rattle.text.specs.declared.Span.{Span}
use Rattle.text.specs.declared.Body.TheVariants as BodyOf
use Rattle.write.specs.Outputs.{bytes_output}
use Rattle.framed.specs.Frames.{frame_at, frame_output}

pub a_frame : (limit : Option ℕ) (s : List ℕ) (at : ℕ) → (at ≡ length s → ⊥) → {p : Span} {next : ℕ} → gives p next ≡ sized_at BodyOf.Frame limit s at
    → gives (Some p) next ≡ frame_at limit s at
unfolding frame_at
a_frame limit s at h e = simp (ne_eqb _ _ h, ← e)

pub full : (payload : List ℕ) (at : ℕ) → (length payload ≡ 0 → ⊥) → bytes_output payload at ≡ frame_output payload at
unfolding frame_output
full payload at h = simp (ne_eqb _ _ h)
