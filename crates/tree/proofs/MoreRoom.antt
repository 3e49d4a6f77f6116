-- Demand 3 in any encoding: with more depth, limits raised or removed and bytes appended, what stands goes on standing, with the same end and
-- count, and what is cut off stays cut off, unless the refusal names what was given room. Assumes nothing.
use Prim.Native.Nat.{ℕ, ◌+◌, ◌-◌, ◌*◌, ◌≤◌}
use mathlib.Core.Path.{refl, sym, ap, ◌∙◌}
use mathlib.Core.List.{List, ◌++◌}
use lib.ListN.{length}
use native.Mathlib.Omega.{arith}
use borrow.Author.Tests.{eqb-false, ne_eqb}
use lib.Dec.{eqb}
use Rattle.config.specs.declared.configuration.TConfiguration.{TConfiguration}
use Rattle.config.proofs.Room.{still_within, still_below}
use Rattle.tree.specs.Sizes.{LengthFits, SizeFits}
use Rattle.tree.specs.Room.{Roomier, Unnamed}
use Rattle.tree.proofs.Parts.{part_longer}
use Rattle.tree.proofs.Growth.{Grows, grows_if, grows_mapped, struct_grows}
use Rattle.tree.specs.Coding.{View, leaf, fields, items, pairs as pairs-view, Coding}
use Rattle.tree.specs.Tree.{Tree, Fields, Trees, Pairs, leaf as leaf-of, struct, list, map, nil, snoc, none, then, empty, with, state_of, Fits, FieldsFit, TreesFit, PairsFit}
use Rattle.tree.specs.Answers.{view_own, own_at, Cut, here, head, field_value, element, key, value, OpenStruct, OpenMap, Faults, Stands, IsCut}
use Rattle.tree.proofs.Laws as laws

-- sizes that fit go on fitting
module _ (old new : TConfiguration) (r : Roomier old new) where
  pub text_more : (n : ℕ) → LengthFits old n → LengthFits new n
  text_more n f = record { not_negative = f.not_negative; string = still_within n old.max_string_size new.max_string_size r.string f.string }

  pub size_more : (least n : ℕ) → SizeFits old least n → SizeFits new least n
  size_more least n f =
      record {
        not_negative = f.not_negative;
        container = still_within n old.max_container_size new.max_container_size r.container f.container;
        message = still_within (n * least) old.max_message_size new.max_message_size r.message f.message;
      }

module _ (C : Coding) (L : laws.Reads C) (old new : TConfiguration) (r : Roomier old new) (raised : laws.Raises C old new)
    (room : (d e : ℕ) → d ≤ e → (s x : List ℕ) → laws.Room C old new d e s x) where
  mutual
    unfolding Fits

    fits_more : (t : Tree C.Kind C.State) (d e sd : ℕ) (k : C.Kind) → d ≤ e → Fits C t old d sd k → Fits C t new e sd k
    fits_more (leaf-of b) d e sd k h f = record { deep = omega (arith, f.deep); view = f.view; bytes = raised.leaf_more k b f.bytes }
    fits_more (struct fs z) d e sd k h f =
        record {
          deep = omega (arith, f.deep);
          view = f.view;
          limit = still_below sd old.max_recursion_depth new.max_recursion_depth r.depth f.limit;
          cap = f.cap;
          fields = fields_more fs (d - 1) (e - 1) (sd + 1) (omega arith) f.fields;
          end = f.end;
        }
    fits_more (list b x ts) d e sd k h f =
        record {
          deep = omega (arith, f.deep);
          view = f.view;
          header = raised.list_more b x f.header;
          size = f.size;
          elements = trees_more ts (d - 1) (e - 1) sd x.element (omega arith) f.elements;
        }
    fits_more (map b x ps) d e sd k h f =
        record {
          deep = omega (arith, f.deep);
          view = f.view;
          header = raised.map_more b x f.header;
          size = f.size;
          pairs = pairs_more ps (d - 1) (e - 1) sd x.key x.value (omega arith) f.pairs;
        }

    fields_more : (fs : Fields C.Kind C.State) (d e sd : ℕ) → d ≤ e → FieldsFit C fs old d sd → FieldsFit C fs new e sd
    fields_more nil d e sd h f = tt
    fields_more (snoc fs b k st v) d e sd h f =
        record { fields = fields_more fs d e sd h f.fields; header = f.header; value = fits_more v d e sd k h f.value }

    trees_more : (ts : Trees C.Kind C.State) (d e sd : ℕ) (k : C.Kind) → d ≤ e → TreesFit C ts old d sd k → TreesFit C ts new e sd k
    trees_more none d e sd k h f = tt
    trees_more (then ts t) d e sd k h f = (trees_more ts d e sd k h f.0, fits_more t d e sd k h f.1)

    pairs_more : (ps : Pairs C.Kind C.State) (d e sd : ℕ) (k v : C.Kind) → d ≤ e → PairsFit C ps old d sd k v → PairsFit C ps new e sd k v
    pairs_more empty d e sd k v h f = tt
    pairs_more (with ps x y) d e sd k v h f = (pairs_more ps d e sd k v h f.0, fits_more x d e sd k h f.1, fits_more y d e sd v h f.2)

  -- accepted: the same end and count
  pub stands_more : (s x : List ℕ) (at d e sd : ℕ) (k : C.Kind) (end count : ℕ) → d ≤ e → Stands C old s at d sd k end count
      → Stands C new (s ++ x) at e sd k end count
  stands_more s x at d e sd k end count h v =
      record { tree = v.tree; part = part_longer x v.part; fits = fits_more v.tree d e sd k h v.fits; counted = v.counted }

  -- a refusal that names nothing given room at a depth names nothing at the depth below
  below : (d e : ℕ) (x : List ℕ) (n : ℕ) → Unnamed old new d e x n → Unnamed old new (d - 1) (e - 1) x n
  below d e x n u =
      record {
        short = u.short;
        string = u.string;
        container = u.container;
        message = u.message;
        depth = λ h. ap (λ (k : ℕ). k - 1) (u.depth h);
        structs = u.structs;
      }

  module _ (s x : List ℕ) (at d e sd : ℕ) (k : C.Kind) (h : at ≤ length s) (i : d ≤ e) where
    abbrev N : ℕ → Type 0
    N = Unnamed old new d e x

    view_grows : (v : View) → Grows N (view_own C old sd k s at v) (view_own C new sd k (s ++ x) at v)
    view_grows leaf = (room d e i s x).leaf_grows k at h
    view_grows fields = grows_mapped N (λ _. tt) _ _ (struct_grows old new r d e i s x sd at h)
    view_grows items = grows_mapped N (λ _. tt) _ _ ((room d e i s x).list_grows at h)
    view_grows pairs-view = grows_mapped N (λ _. tt) _ _ ((room d e i s x).map_grows at h)

    own_grows : Grows N (own_at C old d sd k s at) (own_at C new e sd k (s ++ x) at)
    unfolding own_at
    own_grows =
        grows_if N _ _ 10 at _ _
        (λ f. let g = eqb-false d 0 f in ne_eqb e 0 (λ z. g (omega arith)))
        (λ u f. ap (λ (n : ℕ). eqb n 0) (sym (u.depth refl)) ∙ f)
        (λ f. view_grows (C.view k))

    -- a struct or a map that is open stays open, with what comes next in it
    struct_open : (fs : Fields C.Kind C.State) {rest rest' : C.State → ℕ → Type 0} (f : OpenStruct C old s at d sd k fs rest)
        → rest' (state_of C.start fs) f.mid → OpenStruct C new (s ++ x) at e sd k fs rest'
    struct_open fs f next =
        record {
          deep = omega (arith, f.deep);
          view = f.view;
          begun = (struct_grows old new r d e i s x sd at h).given (sd + 1) at f.begun;
          mid = f.mid;
          part = part_longer x f.part;
          fits = fields_more fs (d - 1) (e - 1) (sd + 1) (omega arith) f.fits;
          next = next;
        }

    map_open : (ps : Pairs C.Kind C.State) {rest rest' : C.Kind → C.Kind → ℕ → Type 0} (f : OpenMap C old s at d sd k ps rest)
        → rest' f.says.key f.says.value f.mid → OpenMap C new (s ++ x) at e sd k ps rest'
    map_open ps f next =
        record {
          deep = omega (arith, f.deep);
          view = f.view;
          says = f.says;
          first = f.first;
          header = ((room d e i s x).map_grows at h).given _ _ f.header;
          more = f.more;
          mid = f.mid;
          part = part_longer x f.part;
          fits = pairs_more ps (d - 1) (e - 1) sd f.says.key f.says.value (omega arith) f.fits;
          next = next;
        }

  cut_more : (y : Cut C.Kind C.State) (s x : List ℕ) (at d e sd : ℕ) (k : C.Kind) (n p : ℕ) → at ≤ length s → d ≤ e → Unnamed old new d e x n
      → Faults C y old s at d sd k n p → Faults C y new (s ++ x) at e sd k n p
  unfolding Faults
  cut_more here s x at d e sd k n p h i u f = (own_grows s x at d e sd k h i).kept n p u f
  cut_more (head fs) s x at d e sd k n p h i u f =
      struct_open s x at d e sd k h i fs f (((room d e i s x).field_grows _ f.mid f.part.within).kept n p u f.next)
  cut_more (field_value fs y) s x at d e sd k n p h i u f =
      let v = f.next in
      struct_open s x at d e sd k h i fs f
      (record {
        kind = v.kind;
        after = v.after;
        first = v.first;
        header = ((room d e i s x).field_grows _ f.mid f.part.within).given _ _ v.header;
        next =
            cut_more y s x v.first (d - 1) (e - 1) (sd + 1) v.kind n p (L.field_is _ s f.mid v.header).part.within
            (omega arith) (below d e x n u) v.next;
      })
  cut_more (element ts y) s x at d e sd k n p h i u f =
      record {
        deep = omega (arith, f.deep);
        view = f.view;
        says = f.says;
        first = f.first;
        header = ((room d e i s x).list_grows at h).given _ _ f.header;
        more = f.more;
        mid = f.mid;
        part = part_longer x f.part;
        fits = trees_more ts (d - 1) (e - 1) sd f.says.element (omega arith) f.fits;
        next = cut_more y s x f.mid (d - 1) (e - 1) sd f.says.element n p f.part.within (omega arith) (below d e x n u) f.next;
      }
  cut_more (key ps y) s x at d e sd k n p h i u f =
      map_open s x at d e sd k h i ps f
      (cut_more y s x f.mid (d - 1) (e - 1) sd f.says.key n p f.part.within (omega arith) (below d e x n u) f.next)
  cut_more (value ps t y) s x at d e sd k n p h i u f =
      let w = f.next in
      map_open s x at d e sd k h i ps f
      (record {
        end = w.end;
        part = part_longer x w.part;
        fits = fits_more t (d - 1) (e - 1) sd f.says.key (omega arith) w.fits;
        next = cut_more y s x w.end (d - 1) (e - 1) sd f.says.value n p w.part.within (omega arith) (below d e x n u) w.next;
      })

  -- refused: the same number, place and count, by the same cut tree
  pub is_cut_more : (s x : List ℕ) (at d e sd : ℕ) (k : C.Kind) (n p count : ℕ) → at ≤ length s → d ≤ e → Unnamed old new d e x n
      → IsCut C old s at d sd k n p count → IsCut C new (s ++ x) at e sd k n p count
  is_cut_more s x at d e sd k n p count h i u y =
      record { cut = y.cut; fault = cut_more y.cut s x at d e sd k n p h i u y.fault; counted = y.counted }
