-- Six numbers put down one behind the other. Assumes nothing.
use Prim.Native.Nat.{ℕ, ◌-◌, ◌≤◌}
use mathlib.Core.Path.{◌≡◌, ◌∙◌}
use mathlib.Core.List.{List, ◌++◌}
use lib.ListN.{length, take, drop, length-append}
use native.Mathlib.Omega.{arith}
use borrow.Rule.Slice.PartMut.{put_mid}
use Rattle.wire.specs.Writes.{in_front}
use Rattle.wire.proofs.Writes.{behind, unfronted}
use Rattle.number.specs.BigEndian.{bytes_of}
use Rattle.number.proofs.Widths.{length-bytes_of}
use Rattle.probe_rows.specs.declared.Row.{Row}
use Rattle.probe.specs.Kept.{six, filled}

-- a part put at a place of d, up to its end
abbrev pub put_at : ℕ → List ℕ → List ℕ → List ℕ
put_at p d y = put_mid p (length d - p) d y

-- what is lent from a place of d on
abbrev pub lent : ℕ → List ℕ → List ℕ
lent p d = take (length d - p) (drop p d)

module _ (out : List ℕ) (w : Row) (h : 48 ≤ length out) where
  pub six_put : {d1 y2 y3 y4 y5 y6 : List ℕ} → d1 ≡ in_front (bytes_of 8 w.number) out
      → y2 ≡ in_front (bytes_of 8 w.place) (lent 8 d1)
      → y3 ≡ in_front (bytes_of 8 w.a) (lent 16 (put_at 8 d1 y2))
      → y4 ≡ in_front (bytes_of 8 w.b) (lent 24 (put_at 16 (put_at 8 d1 y2) y3))
      → y5 ≡ in_front (bytes_of 8 w.c) (lent 32 (put_at 24 (put_at 16 (put_at 8 d1 y2) y3) y4))
      → y6 ≡ in_front (bytes_of 8 w.d) (lent 40 (put_at 32 (put_at 24 (put_at 16 (put_at 8 d1 y2) y3) y4) y5))
      → put_at 40 (put_at 32 (put_at 24 (put_at 16 (put_at 8 d1 y2) y3) y4) y5) y6 ≡ filled w out
  six_put p1 p2 p3 p4 p5 p6 =
      let n1 = bytes_of 8 w.number in
      let n2 = n1 ++ bytes_of 8 w.place in
      let n3 = n2 ++ bytes_of 8 w.a in
      let n4 = n3 ++ bytes_of 8 w.b in
      let n5 = n4 ++ bytes_of 8 w.c in
      let l1 : length n1 ≡ 8 = length-bytes_of 8 w.number in
      let l2 : length n2 ≡ 16 = simp (length-append, length-bytes_of) in
      let l3 : length n3 ≡ 24 = simp (length-append, length-bytes_of) in
      let l4 : length n4 ≡ 32 = simp (length-append, length-bytes_of) in
      let l5 : length n5 ≡ 40 = simp (length-append, length-bytes_of) in
      let l6 : length (six w) ≡ 48 = simp (length-append, length-bytes_of) in
      let f2 = behind out n1 (bytes_of 8 w.place) 8 (omega arith) (omega arith) p1 p2 in
      let f3 = behind out n2 (bytes_of 8 w.a) 16 (omega arith) (omega arith) f2 p3 in
      let f4 = behind out n3 (bytes_of 8 w.b) 24 (omega arith) (omega arith) f3 p4 in
      let f5 = behind out n4 (bytes_of 8 w.c) 32 (omega arith) (omega arith) f4 p5 in
      behind out n5 (bytes_of 8 w.d) 40 (omega arith) (omega arith) f5 p6 ∙ unfronted (six w) out (omega arith) ∙ rw l6
