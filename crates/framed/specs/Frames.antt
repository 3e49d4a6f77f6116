-- Frames: what reading one answers, and the bytes of one that is written.
use Rattle.std.specs.Prelude.{ℕ, cond, List, [], eqb, length, Option, Some, None}
use Rattle.wire.specs.Answer.{Answer, gives, refused, mapped}
use Rattle.wire.specs.Writes.{Output, puts, write_at}
use Rattle.text.specs.Texts.{span, sized_at}
use Rattle.text.specs.declared.Span.{Span}
use Rattle.text.specs.declared.Body.TheVariants as BodyOf
use Rattle.write.specs.Outputs.{bytes_output}

-- "no byte left is End (added). Else header (1), 6, 18, body (1)": a size, then as many bytes. It gives where the payload stands, or that no
-- frame follows
unfoldable pub frame_at : Option ℕ → List ℕ → ℕ → Answer (Option Span)
frame_at limit s at =
    cond (eqb at (length s)) (gives None at)
    (mapped Some (sized_at BodyOf.Frame limit s at))

-- the payload in what was read: at the end an empty one
abbrev pub payload_of : Answer (Option Span) → Answer Span
payload_of (gives (Some p) next) = gives p next
payload_of (gives None next) = gives (span next next) next
payload_of (refused n p) = refused n p

-- "an empty payload writes nothing; else length and payload", with 16
unfoldable pub frame_output : List ℕ → ℕ → Output
frame_output payload at = cond (eqb (length payload) 0) (puts []) (bytes_output payload at)

-- what writing a frame comes to, in a buffer at a place
abbrev pub frame_write : List ℕ → List ℕ → ℕ → Answer (List ℕ)
frame_write payload out at = write_at (frame_output payload at) out at
