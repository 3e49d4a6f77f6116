-- The laws of `Part`: where parts begin, how they join, and that more bytes behind them change nothing.
-- Assumes nothing.
use Prim.Native.Nat.{ℕ, ◌+◌, ◌-◌, ◌≤◌, ◌<◌}
use mathlib.Core.Path.{◌≡◌, sym, ap, ap₂, subst, ◌∙◌}
use mathlib.Core.List.{List, [], ◌∷◌, ◌++◌}
use lib.ListN.{length, get_or, take, drop, length-append, length-take, length-drop}
use lib.Seq.{take-take, take-append_seam, drop-append_seam, drop_at, length-take-le, take_all, take-add, drop-drop, drop-cons, take-append-le, drop-append-le}
use native.Mathlib.Omega.{arith}
use native.Mathlib.Nat.{add-sub_cancel_left, sub_self}
use Rattle.tree.specs.Part.{Part}

pub part_none : (s : List ℕ) (a : ℕ) → a ≤ length s → Part s a a []
part_none s a h = record { from = omega arith; within = h; bytes = rw (sub_self a) }

pub part_whole : (s : List ℕ) → Part s 0 (length s) s
part_whole s = record { from = omega arith; within = omega arith; bytes = take_all (length s - 0) s (omega arith) }

pub part_run : (s : List ℕ) (a n : ℕ) → a + n ≤ length s → Part s a (a + n) (take n (drop a s))
part_run s a n h = record { from = omega arith; within = h; bytes = rw (add-sub_cancel_left a n) }

pub part_to : {s : List ℕ} {a e : ℕ} {l : List ℕ} (e' : ℕ) → Part s a e l → e ≡ e' → Part s a e' l
part_to {s} {a} {e} {l} e' p h = subst (λ (k : ℕ). Part s a k l) h p

pub part_is : {s : List ℕ} {a e : ℕ} {l l' : List ℕ} → Part s a e l → l ≡ l' → Part s a e l'
part_is {s} {a} {e} {l} {l'} p h = subst (λ (k : List ℕ). Part s a e k) h p

take_one : (s : List ℕ) (a : ℕ) → a < length s → take 1 (drop a s) ≡ get_or s a 0 ∷ []
take_one s a h = rw (drop-cons s a 0 h)

pub part_one : (s : List ℕ) (a : ℕ) → a < length s → Part s a (a + 1) (get_or s a 0 ∷ [])
part_one s a h = part_is (part_run s a 1 (omega arith)) (take_one s a h)

pub part_join : {s : List ℕ} {a m e : ℕ} {k l : List ℕ} → Part s a m k → Part s m e l → Part s a e (k ++ l)
part_join {s} {a} {m} {e} {k} {l} p q =
    record {
      from = omega (arith, p.from, q.from);
      within = q.within;
      bytes =
          let n : e - a ≡ (m - a) + (e - m) = omega (arith, p.from, q.from) in
          let j : a + (m - a) ≡ m = omega (arith, p.from) in
          ap (λ (x : ℕ). take x (drop a s)) n
          ∙ take-add (m - a) (e - m) (drop a s)
          ∙ ap₂ (λ (x y : List ℕ). x ++ y) p.bytes (ap (λ (x : List ℕ). take (e - m) x) (drop-drop (m - a) a s ∙ ap (λ (x : ℕ). drop x s) j) ∙ q.bytes);
    }

pub part_length : {s : List ℕ} {a e : ℕ} {l : List ℕ} → Part s a e l → length l + a ≡ e
part_length {s} {a} {e} {l} p =
    let h : length l ≡ length (take (e - a) (drop a s)) = ap length (sym p.bytes) in
    omega (arith, simp (length-take, length-drop) at h, p.from, p.within)

pub part_longer : {s : List ℕ} {a e : ℕ} {l : List ℕ} (x : List ℕ) → Part s a e l → Part (s ++ x) a e l
part_longer {s} {a} {e} {l} x p =
    record {
      from = p.from;
      within = simp length-append (omega (arith, p.within));
      bytes =
          let h : a ≤ length s = omega (arith, p.from, p.within) in
          let k : e - a ≤ length (drop a s) = simp length-drop (omega (arith, p.from, p.within)) in
          ap (λ (y : List ℕ). take (e - a) y) (drop-append-le a s x h) ∙ take-append-le (e - a) (drop a s) x k ∙ p.bytes;
    }

-- a part of two parts, taken apart
pub record Split (s : List ℕ) (a e : ℕ) (k l : List ℕ) : Type 0 where
  pub mid : ℕ
  pub left : Part s a mid k
  pub right : Part s mid e l

pub part_split : {s : List ℕ} {a e : ℕ} (k l : List ℕ) → Part s a e (k ++ l) → Split s a e k l
part_split {s} {a} {e} k l p =
    let n : length (k ++ l) + a ≡ e = part_length p in
    let n' : length k + length l + a ≡ e = simp length-append at n in
    let m : ℕ = a + length k in
    let le : length k ≤ e - a = omega arith in
    record {
      mid = m;
      left =
          record {
            from = omega arith;
            within = omega (arith, p.within);
            bytes =
                ap (λ (x : ℕ). take x (drop a s)) (add-sub_cancel_left a (length k))
                ∙ sym (take-take (length k) (e - a) (drop a s) le)
                ∙ ap (λ (x : List ℕ). take (length k) x) p.bytes
                ∙ take-append_seam k l;
          };
      right =
          record {
            from = omega arith;
            within = p.within;
            bytes =
                let q : e - a ≡ length k + (e - m) = omega arith in
                sym (drop_at (take (length k) (drop a s)) (take (e - m) (drop m s)) (length k) (length-take-le (length k) (drop a s) (simp length-drop (omega (arith, p.within)))))
                ∙ ap (λ (x : List ℕ). drop (length k) (take (length k) (drop a s) ++ take (e - m) x)) (sym (drop-drop (length k) a s))
                ∙ ap (λ (x : List ℕ). drop (length k) x) (sym (take-add (length k) (e - m) (drop a s)) ∙ ap (λ (x : ℕ). take x (drop a s)) (sym q) ∙ p.bytes)
                ∙ drop-append_seam k l;
          };
    }

-- the first byte of a part
pub record First (s : List ℕ) (a e x : ℕ) (l : List ℕ) : Type 0 where
  pub byte : get_or s a 0 ≡ x
  pub room : a < length s
  pub rest : Part s (a + 1) e l

pub part_first : {s : List ℕ} {a e x : ℕ} {l : List ℕ} → Part s a e (x ∷ l) → First s a e x l
part_first {s} {a} {e} {x} {l} p =
    let sp = part_split (x ∷ []) l p in
    let n = part_length sp.left in
    let em : sp.mid ≡ a + 1 = omega (arith, n) in
    let h : a < length s = omega (arith, sp.left.within) in
    record {
      byte =
          let one : 1 ≡ sp.mid - a = omega (arith, em) in
          let b : take 1 (drop a s) ≡ x ∷ [] = ap (λ (y : ℕ). take y (drop a s)) one ∙ sp.left.bytes in
          let c : get_or s a 0 ∷ [] ≡ x ∷ [] = sym (take_one s a h) ∙ b in
          cc;
      room = h;
      rest = subst (λ (y : ℕ). Part s y e l) em sp.right;
    }
