-- A size and its bytes, put in front one after the other. Assumes nothing.
use Prim.Native.Nat.{ℕ, ◌+◌, ◌-◌, ◌%◌, ◌<◌, ◌≤◌}
use mathlib.Core.Path.{◌≡◌, ◌∙◌}
use mathlib.Core.List.{List, ◌++◌}
use lib.ListN.{length, take, drop}
use lib.Seq.{take-length}
use native.Mathlib.Omega.{arith}
use borrow.Rule.Slice.PartMut.{put_mid}
use Rattle.wire.specs.Writes.{in_front}
use Rattle.wire.proofs.Writes.{no_front, fronted, behind}
use Rattle.number.specs.BigEndian.{bytes_of}
use Rattle.number.proofs.Widths.{length-bytes_of, low_bytes}
use Rattle.text.specs.Texts.{sized_layout}
use Rattle.text.proofs.Layouts.{length-sized}

module _ (src out : List ℕ) where
  pub copied : {new : List ℕ} → length src ≤ length out → new ≡ take (length src) src ++ drop (length src) out → new ≡ in_front src out
  copied h e = fronted src out h (e ∙ simp take-length)

  pub no_sized : length out < 4 + length src → out ≡ in_front (sized_layout src) out
  no_sized h = no_front (sized_layout src) out (rw (length-sized src) h)

  pub sized : {d ys : List ℕ} → 4 + length src ≤ length out → d ≡ in_front (bytes_of 4 (length src % 4294967296)) out
      → ys ≡ in_front src (take (length d - 4) (drop 4 d)) → put_mid 4 (length d - 4) d ys ≡ in_front (sized_layout src) out
  sized h e f =
      let size : length (bytes_of 4 (length src)) ≡ 4 = length-bytes_of 4 (length src) in
      let whole : length (sized_layout src) ≡ 4 + length src = length-sized src in
      behind out (bytes_of 4 (length src)) src 4 (omega arith) (omega arith) (rw (low_bytes 4 (length src)) at e) f
