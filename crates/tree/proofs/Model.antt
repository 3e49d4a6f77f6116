-- The skip as a function, by recursion on the depth, in any encoding: a device that shows that an answer is the only one.
-- Nobody need believe it. Assumes nothing: these are definitions.
use Prim.Native.Nat.{ℕ, zero, suc, ◌+◌, ◌-◌, ◌<◌}
use mathlib.Core.Path.{◌≡◌, ap}
use mathlib.Core.List.{List}
use lib.ListN.{length}
use native.Mathlib.Omega.{arith}
use Rattle.wire.specs.Answer.{Answer, gives, refused}
use Rattle.config.specs.declared.configuration.TConfiguration.{TConfiguration}
use Rattle.nesting.specs.Structs.{struct_begin_at}
use Rattle.tree.specs.Answers.{Outcome, ended, cut_off, leaf_outcome}
use Rattle.tree.specs.Coding.{View, leaf, fields, items, pairs as pairs-view, Items, Paired, Heading, stop, going, Coding}

-- after a value: cut off with what was counted, or on
abbrev pub after : Outcome → ℕ → (ℕ → ℕ → Outcome) → Outcome
after (cut_off n p c) k on = cut_off n p (k + c)
after (ended e c) k on = on e (k + c)

unfoldable pub elements : (ℕ → Outcome) → ℕ → ℕ → ℕ → Outcome
elements child zero at n = ended at n
elements child (suc k) at n = after (child at) n (elements child k)

unfoldable pub pairs : (ℕ → Outcome) → (ℕ → Outcome) → ℕ → ℕ → ℕ → Outcome
pairs key value zero at n = ended at n
pairs key value (suc k) at n = after (key at) n (λ e c. after (value e) c (pairs key value k))

abbrev pub struct_step : Outcome → Answer ℕ → Outcome
struct_step inside (refused n p) = cut_off n p 1
struct_step inside (gives inner q) = inside

module _ (C : Coding) where
  abbrev pub field_step : (C.Kind → ℕ → Outcome) → Answer (Heading C.Kind C.State) → ℕ → (C.State → ℕ → ℕ → Outcome) → Outcome
  field_step child (refused n p) k on = cut_off n p k
  field_step child (gives stop q) k on = ended q k
  field_step child (gives (going kind st) q) k on = after (child kind q) k (on st)

  unfoldable pub fields_from : ℕ → (C.Kind → ℕ → Outcome) → List ℕ → C.State → ℕ → ℕ → Outcome
  fields_from zero child s st at n = ended at n
  fields_from (suc fuel) child s st at n = field_step child (C.field_at st s at) n (fields_from fuel child s)

  abbrev pub list_step : (C.Kind → ℕ → Outcome) → Answer (Items C.Kind) → Outcome
  list_step child (refused n p) = cut_off n p 1
  list_step child (gives l first) = elements (child l.element) l.size first 1

  abbrev pub map_step : (C.Kind → ℕ → Outcome) → Answer (Paired C.Kind) → Outcome
  map_step child (refused n p) = cut_off n p 1
  map_step child (gives m first) = pairs (child m.key) (child m.value) m.size first 1

  abbrev pub by_view : TConfiguration → List ℕ → ℕ → ℕ → (ℕ → C.Kind → ℕ → Outcome) → C.Kind → View → Outcome
  by_view c s at sd child k leaf = leaf_outcome (C.leaf_at c k s at)
  by_view c s at sd child k fields = struct_step (fields_from (length s + 1) (child (sd + 1)) s C.start at 1) (struct_begin_at c.max_recursion_depth sd s at)
  by_view c s at sd child k items = list_step (child sd) (C.list_at c s at)
  by_view c s at sd child k pairs-view = map_step (child sd) (C.map_at c s at)

  unfoldable pub skip_as : ℕ → TConfiguration → List ℕ → ℕ → C.Kind → ℕ → Outcome
  skip_as zero c s sd k at = cut_off 10 at 1
  skip_as (suc d) c s sd k at = by_view c s at sd (λ sd' k' p. skip_as d c s sd' k' p) k (C.view k)

  abbrev pub child_of : TConfiguration → List ℕ → ℕ → ℕ → C.Kind → ℕ → Outcome
  child_of c s d sd k at = skip_as d c s sd k at

  pub skip_deep : (c : TConfiguration) (s : List ℕ) (d sd : ℕ) (k : C.Kind) (at : ℕ) → 0 < d
      → skip_as d c s sd k at ≡ by_view c s at sd (child_of c s (d - 1)) k (C.view k)
  unfolding skip_as
  skip_deep c s zero sd k at h = absurd (omega arith)
  skip_deep c s (suc d) sd k at h =
      let e : d ≡ suc d - 1 = omega arith in
      ap (λ (j : ℕ). by_view c s at sd (child_of c s j) k (C.view k)) e
