-- The count against the bytes, in any encoding. Assumes nothing.
use Prim.Native.Nat.{ℕ, ◌+◌, ◌-◌, ◌≤◌}
use mathlib.Core.Path.{◌≡◌}
use mathlib.Core.List.{List}
use lib.ListN.{length, length-append}
use native.Mathlib.Omega.{arith}
use Rattle.wire.specs.Answer.{refused}
use Rattle.config.specs.declared.configuration.TConfiguration.{TConfiguration}
use Rattle.tree.proofs.Parts.{part_whole, part_length}
use Rattle.tree.specs.Coding.{View, leaf, fields, items, pairs as pairs-view, Coding}
use Rattle.tree.specs.Tree.{Tree, Fields, Trees, Pairs, leaf as leaf-of, struct, list, map, nil, snoc, none, then, empty, with, layout, fields_layout, trees_layout, pairs_layout, values_of, fields_values, trees_values, pairs_values, Fits, FieldsFit, TreesFit, PairsFit}
use Rattle.tree.specs.Answers.{view_own, own_at, Cut, here, head, field_value, element, key, value, begun_of, Faults, Stands, IsCut}
use Rattle.tree.proofs.Places.{Later, if_later, mapped_later, struct_later}
use Rattle.tree.proofs.Laws as laws

pub values_some : {K S : Type 0} (t : Tree K S) → 1 ≤ values_of t
unfolding values_of
values_some (leaf-of b) = omega arith
values_some (struct fs e) = omega arith
values_some (list h x ts) = omega arith
values_some (map h x ps) = omega arith

-- a value's own refusal lies where it begins or behind that
module _ (C : Coding) (P : laws.Places C) (c : TConfiguration) (s : List ℕ) where
  view_later : (sd : ℕ) (k : C.Kind) (at : ℕ) (v : View) → Later at (view_own C c sd k s at v)
  view_later sd k at leaf = P.leaf_later c k s at
  view_later sd k at fields = mapped_later (λ _. tt) at _ (struct_later s c sd at)
  view_later sd k at items = mapped_later (λ _. tt) at _ (P.list_later c s at)
  view_later sd k at pairs-view = mapped_later (λ _. tt) at _ (P.map_later c s at)

  own_later : (d sd : ℕ) (k : C.Kind) (at : ℕ) → Later at (own_at C c d sd k s at)
  unfolding own_at
  own_later d sd k at = if_later _ 10 at _ (view_later sd k at (C.view k))

module _ (C : Coding) (L : laws.Reads C) (slack : C.Kind → ℕ) (W : laws.Weighs C slack) (c : TConfiguration) where
  mutual
    unfolding layout values_of Fits

    pub values_le : (t : Tree C.Kind C.State) (d sd : ℕ) (k : C.Kind) → Fits C t c d sd k → values_of t ≤ length (layout t) + slack k
    values_le (leaf-of b) d sd k f = W.leaf_weighs c k b f.bytes
    values_le (struct fs z) d sd k f =
        simp length-append (omega (arith, fields_le fs (d - 1) (sd + 1) f.fields, L.head_some _ f.end))
    values_le (list h x ts) d sd k f =
        let w = W.list_weighs c h 0 (L.list_reads c h 0 h f.header (part_whole h)) in
        simp length-append (omega (arith, trees_le ts (d - 1) sd x.element w.1 f.elements, w.0))
    values_le (map h x ps) d sd k f =
        let w = W.map_weighs c h 0 (L.map_reads c h 0 h f.header (part_whole h)) in
        simp length-append (omega (arith, pairs_le ps (d - 1) sd x.key x.value w.1 w.2 f.pairs, w.0))

    pub fields_le : (fs : Fields C.Kind C.State) (d sd : ℕ) → FieldsFit C fs c d sd → fields_values fs ≤ length (fields_layout fs)
    fields_le nil d sd f = omega arith
    fields_le (snoc fs h k st v) d sd f =
        simp length-append (omega (arith, fields_le fs d sd f.fields, values_le v d sd k f.value, W.slight k, L.head_some _ f.header))

    pub trees_le : (ts : Trees C.Kind C.State) (d sd : ℕ) (k : C.Kind) → slack k ≡ 0 → TreesFit C ts c d sd k → trees_values ts ≤ length (trees_layout ts)
    trees_le none d sd k w f = omega arith
    trees_le (then ts t) d sd k w f = simp length-append (omega (arith, trees_le ts d sd k w f.0, values_le t d sd k f.1))

    pub pairs_le : (ps : Pairs C.Kind C.State) (d sd : ℕ) (k v : C.Kind) → slack k ≡ 0 → slack v ≡ 0 → PairsFit C ps c d sd k v
        → pairs_values ps ≤ length (pairs_layout ps)
    pairs_le empty d sd k v w z f = omega arith
    pairs_le (with ps x y) d sd k v w z f =
        simp length-append (omega (arith, pairs_le ps d sd k v w z f.0, values_le x d sd k f.1, values_le y d sd v f.2))

  -- accepted: the count is at least 1 and never above the bytes passed, but for a value that takes none of its own
  pub stands_count : (s : List ℕ) (at d sd : ℕ) (k : C.Kind) (e count : ℕ) → Stands C c s at d sd k e count → (1 ≤ count) × (at + count ≤ e + slack k)
  stands_count s at d sd k e count h =
      (omega (arith, h.counted, values_some h.tree), omega (arith, h.counted, values_le h.tree d sd k h.fits, part_length h.part))

  -- What bounds the places of a value's own refusal and of a field's bounds the values begun
  module _ (s : List ℕ) (n p bound : ℕ)
      (own : (at d sd : ℕ) (k : C.Kind) → at ≤ length s → refused n p ≡ own_at C c d sd k s at → at ≤ bound)
      (header : (st : C.State) (at : ℕ) → at ≤ length s → refused n p ≡ C.field_at st s at → at ≤ bound) where
    pub cut_le : (y : Cut C.Kind C.State) (at d sd : ℕ) (k : C.Kind) → at ≤ length s → Faults C y c s at d sd k n p → at + begun_of y ≤ bound + 1
    unfolding begun_of Faults
    cut_le here at d sd k h f = omega (arith, own at d sd k h f)
    cut_le (head fs) at d sd k h f =
        omega (arith, part_length f.part, fields_le fs (d - 1) (sd + 1) f.fits, header _ f.mid f.part.within f.next)
    cut_le (field_value fs y) at d sd k h f =
        let v = f.next in
        let i = L.field_is _ s f.mid v.header in
        omega (
          arith,
          L.head_some _ i.holds,
          part_length i.part,
          part_length f.part,
          fields_le fs (d - 1) (sd + 1) f.fits,
          cut_le y v.first (d - 1) (sd + 1) v.kind i.part.within v.next,
        )
    cut_le (element ts y) at d sd k h f =
        let w = W.list_weighs c s at f.header in
        omega (
          arith,
          w.0,
          part_length f.part,
          trees_le ts (d - 1) sd f.says.element w.1 f.fits,
          cut_le y f.mid (d - 1) sd f.says.element f.part.within f.next,
        )
    cut_le (key ps y) at d sd k h f =
        let w = W.map_weighs c s at f.header in
        omega (
          arith,
          w.0,
          part_length f.part,
          pairs_le ps (d - 1) sd f.says.key f.says.value w.1 w.2 f.fits,
          cut_le y f.mid (d - 1) sd f.says.key f.part.within f.next,
        )
    cut_le (value ps t y) at d sd k h f =
        let w = f.next in
        let z = W.map_weighs c s at f.header in
        omega (
          arith,
          z.0,
          part_length f.part,
          pairs_le ps (d - 1) sd f.says.key f.says.value z.1 z.2 f.fits,
          part_length w.part,
          z.1,
          values_le t (d - 1) sd f.says.key w.fits,
          cut_le y w.end (d - 1) sd f.says.value w.part.within w.next,
        )

  module _ (s : List ℕ) (at d sd : ℕ) (k : C.Kind) (n p count : ℕ) (h : at ≤ length s) (x : IsCut C c s at d sd k n p count) where
    -- refused: the count is at most one above the bytes from the start to the refusal's place
    pub cut_count : laws.Places C → at + count ≤ p + 1
    cut_count P =
        omega (
          arith,
          x.counted,
          cut_le s n p p (λ a d' sd' k' i f. own_later C P c s d' sd' k' a n p f) (λ st a i f. P.field_later st s a n p f) x.cut at d sd k h x.fault,
        )

    -- and to the end of the bytes
    pub cut_small : at + count ≤ length s + 1
    cut_small = omega (arith, x.counted, cut_le s n p (length s) (λ a d' sd' k' i f. i) (λ st a i f. i) x.cut at d sd k h x.fault)
