-- A frame that is written reads back, but for an empty payload, which writes nothing. Assumes nothing.
use Rattle.std.specs.Prelude.{Option, Some}
use Prim.Native.Nat.{ℕ, ◌<◌}
use mathlib.Core.Path.{◌≡◌, ◌∙◌}
use mathlib.Core.Bool.{false}
use mathlib.Core.List.{List}
use native.Mathlib.Omega.{arith}
use lib.ListN.{length}
use Rattle.wire.specs.Answer.{gives}
use Rattle.config.specs.Limits.{above}
use Rattle.text.proofs.Layouts.{length-sized}
use Rattle.text.specs.declared.Body.TheVariants as BodyOf
use Rattle.tree.proofs.Parts.{part_length}
use Rattle.write.specs.Found.{Finds}
use Rattle.write.proofs.Outputs.{short, is_short}
use Rattle.write.proofs.ReadsBack.{stands, sized_found}
use Rattle.framed.specs.Frames.{frame_at, frame_write}
use Rattle.framed.proofs.Frames.{a_frame, full}

pub frame_back : (limit : Option ℕ) (payload out : List ℕ) (at : ℕ) {new : List ℕ} {next : ℕ} → 0 < length payload
    → above (length payload) limit ≡ false → gives new next ≡ frame_write payload out at → Finds Some new payload (frame_at limit new at) next
frame_back limit payload out at some below e =
    let f = full payload at (λ z. omega arith) in
    let h = is_short payload at out (rw (← f) at e) in
    let p = stands _ out at (short payload at h ∙ f) e in
    let found = sized_found limit payload below p BodyOf.Frame h in
    let l = part_length p in
    record {
      place = found.place;
      gave = a_frame limit _ at (λ z. omega (arith, length-sized payload, p.from, p.within)) found.gave;
      bytes = found.bytes;
    }
