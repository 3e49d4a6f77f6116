-- What a skip answers, in any encoding: a tree where it accepts, and a tree that is cut off at the place where it refuses.
use Rattle.std.specs.Prelude.{ℕ, ◌+◌, ◌-◌, ◌<◌, ◌≤◌, ◌≡◌, List, eqb, ltb, length}
use Rattle.wire.specs.Answer.{Answer, gives, refused, refuse_if, judged}
use Rattle.config.specs.declared.configuration.TConfiguration.{TConfiguration}
use Rattle.nesting.specs.Structs.{depth_entry, struct_begin_at}
use Rattle.tree.specs.Part.{Part}
use Rattle.tree.specs.Coding.{View, leaf, fields, items, pairs, Items, Paired, going, Coding}
use Rattle.tree.specs.Tree.{Tree, Fields, Trees, Pairs, layout, fields_layout, trees_layout, pairs_layout, values_of, fields_values, trees_values, pairs_values, count_of, pairs_of, state_of, Fits, FieldsFit, TreesFit, PairsFit}

-- The refusals that are a value's own, before any value in it begins: "depth 0 is 10; Stop, Void and Utf7 are 12; a scalar or a UUID passes its
-- bytes; a string its length and body, no UTF-8 check; a struct does the struct begin …; a container reads its header …"
abbrev pub view_own : (C : Coding) → TConfiguration → ℕ → C.Kind → List ℕ → ℕ → View → Answer Unit
view_own C c sd k s at leaf = C.leaf_at c k s at
view_own C c sd k s at fields = judged (struct_begin_at c.max_recursion_depth sd s at)
view_own C c sd k s at items = judged (C.list_at c s at)
view_own C c sd k s at pairs = judged (C.map_at c s at)

unfoldable pub own_at : (C : Coding) → TConfiguration → ℕ → ℕ → C.Kind → List ℕ → ℕ → Answer Unit
own_at C c d sd k s at = refuse_if (eqb d 0) 10 at (view_own C c sd k s at (C.view k))

-- "cut off at the place: the values wholly passed before it, and those begun and not ended"
pub data Cut (K S : Type 0) : Type 0 where
  -- refused by itself
  here : Cut K S
  -- a struct, after some fields: the next field's header is refused
  head : Fields K S → Cut K S
  -- a struct, after some fields: the next field's value is cut off
  field_value : Fields K S → Cut K S → Cut K S
  -- a list, after some elements: the next one is cut off
  element : Trees K S → Cut K S → Cut K S
  -- a map, after some pairs: the next key is cut off
  key : Pairs K S → Cut K S → Cut K S
  -- a map, after some pairs and a key: its value is cut off
  value : Pairs K S → Tree K S → Cut K S → Cut K S

-- the values begun: each that was passed, and each that is open
unfoldable pub begun_of : {K S : Type 0} → Cut K S → ℕ
begun_of here = 1
begun_of (head fs) = 1 + fields_values fs
begun_of (field_value fs x) = 1 + fields_values fs + begun_of x
begun_of (element ts x) = 1 + trees_values ts + begun_of x
begun_of (key ps x) = 1 + pairs_values ps + begun_of x
begun_of (value ps k x) = 1 + pairs_values ps + values_of k + begun_of x

module _ (C : Coding) (c : TConfiguration) (s : List ℕ) (at d sd : ℕ) (k : C.Kind) where
  -- a struct that is open after some fields: of what they leave, and of the place where they end, `rest` holds
  pub record OpenStruct (fs : Fields C.Kind C.State) (rest : C.State → ℕ → Type 0) : Type 0 where
    pub deep : 0 < d
    pub view : C.view k ≡ fields
    pub begun : gives (sd + 1) at ≡ struct_begin_at c.max_recursion_depth sd s at
    pub mid : ℕ
    pub part : Part s at mid (fields_layout fs)
    pub fits : FieldsFit C fs c (d - 1) (sd + 1)
    pub next : rest (state_of C.start fs) mid

  -- a list or a set that is open after some of its elements
  pub record OpenList (ts : Trees C.Kind C.State) (rest : C.Kind → ℕ → Type 0) : Type 0 where
    pub deep : 0 < d
    pub view : C.view k ≡ items
    pub says : Items C.Kind
    pub first : ℕ
    pub header : gives says first ≡ C.list_at c s at
    pub more : count_of ts < says.size
    pub mid : ℕ
    pub part : Part s first mid (trees_layout ts)
    pub fits : TreesFit C ts c (d - 1) sd says.element
    pub next : rest says.element mid

  -- a map that is open after some of its pairs
  pub record OpenMap (ps : Pairs C.Kind C.State) (rest : C.Kind → C.Kind → ℕ → Type 0) : Type 0 where
    pub deep : 0 < d
    pub view : C.view k ≡ pairs
    pub says : Paired C.Kind
    pub first : ℕ
    pub header : gives says first ≡ C.map_at c s at
    pub more : pairs_of ps < says.size
    pub mid : ℕ
    pub part : Part s first mid (pairs_layout ps)
    pub fits : PairsFit C ps c (d - 1) sd says.key says.value
    pub next : rest says.key says.value mid

  -- a value wholly passed: a tree that stands at a place, and of its end `rest` holds
  pub record Passed (t : Tree C.Kind C.State) (rest : ℕ → Type 0) : Type 0 where
    pub end : ℕ
    pub part : Part s at end (layout t)
    pub fits : Fits C t c d sd k
    pub next : rest end

-- a field's header that is no Stop: of the kind that it says, and of its value's place, `rest` holds
pub record OpenField (C : Coding) (st : C.State) (s : List ℕ) (at : ℕ) (rest : C.Kind → ℕ → Type 0) : Type 0 where
  pub kind : C.Kind
  pub after : C.State
  pub first : ℕ
  pub header : gives (going kind after) first ≡ C.field_at st s at
  pub next : rest kind first

-- a value of a kind at a place is cut off by the refusal of number n at place p
module _ (C : Coding) where
  unfoldable pub Faults : Cut C.Kind C.State → TConfiguration → List ℕ → ℕ → ℕ → ℕ → C.Kind → ℕ → ℕ → Type 0
  Faults here c s at d sd k n p = refused n p ≡ own_at C c d sd k s at
  Faults (head fs) c s at d sd k n p = OpenStruct C c s at d sd k fs (λ st m. refused n p ≡ C.field_at st s m)
  Faults (field_value fs x) c s at d sd k n p =
      OpenStruct C c s at d sd k fs (λ st m. OpenField C st s m (λ kind q. Faults x c s q (d - 1) (sd + 1) kind n p))
  Faults (element ts x) c s at d sd k n p = OpenList C c s at d sd k ts (λ kind m. Faults x c s m (d - 1) sd kind n p)
  Faults (key ps x) c s at d sd k n p = OpenMap C c s at d sd k ps (λ kk kv m. Faults x c s m (d - 1) sd kk n p)
  Faults (value ps t x) c s at d sd k n p =
      OpenMap C c s at d sd k ps (λ kk kv m. Passed C c s m (d - 1) sd kk t (λ q. Faults x c s q (d - 1) sd kv n p))

-- Demand 2: "a value of that type stands within depth and limits, and ends where it ends", here at e; the count is the number of its values
pub record Stands (C : Coding) (c : TConfiguration) (s : List ℕ) (at d sd : ℕ) (k : C.Kind) (e count : ℕ) : Type 0 where
  pub tree : Tree C.Kind C.State
  pub part : Part s at e (layout tree)
  pub fits : Fits C tree c d sd k
  pub counted : count ≡ values_of tree

-- "A refusal's count is defined over a tree too, cut off at the place": the refusal of number n at p, and the number of values begun
pub record IsCut (C : Coding) (c : TConfiguration) (s : List ℕ) (at d sd : ℕ) (k : C.Kind) (n p count : ℕ) : Type 0 where
  pub cut : Cut C.Kind C.State
  pub fault : Faults C cut c s at d sd k n p
  pub counted : count ≡ begun_of cut

-- what a skip tells: the end and the count, or the refusal's number and place and the count
pub data Outcome : Type 0 where
  ended : ℕ → ℕ → Outcome
  cut_off : ℕ → ℕ → ℕ → Outcome

-- of a value with no value in it, which counts as one
abbrev pub leaf_outcome : Answer Unit → Outcome
leaf_outcome (gives u e) = ended e 1
leaf_outcome (refused n p) = cut_off n p 1

-- the one relation, by cases on what is told
abbrev pub Answers : (C : Coding) → TConfiguration → List ℕ → ℕ → ℕ → ℕ → C.Kind → Outcome → Type 0
Answers C c s at d sd k (ended e count) = Stands C c s at d sd k e count
Answers C c s at d sd k (cut_off n p count) = IsCut C c s at d sd k n p count

-- what the skip of a struct, of a list or set, or of a map answers: that of each kind whose values hold such
abbrev pub EachAnswers : (C : Coding) → View → TConfiguration → List ℕ → ℕ → ℕ → ℕ → Outcome → Type 0
EachAnswers C v c s at d sd x = (k : C.Kind) → C.view k ≡ v → Answers C c s at d sd k x

-- "Order at every entry: 2, 20", with count 0, then the value
abbrev pub skip_entry : ℕ → ℕ → List ℕ → ℕ → Answer Unit
skip_entry d sd s at = depth_entry sd s at (refuse_if (ltb 127 d) 20 at (gives tt at))

-- where the entry refuses, that is what is told, with count 0; else the rest holds of it
abbrev pub AfterEntry : Answer Unit → Outcome → Type 0 → Type 0
AfterEntry (refused n p) x rest = x ≡ cut_off n p 0
AfterEntry (gives u q) x rest = rest

-- "a value of that type stands" at a place: a tree, "with the conditions of 2, 11 and 20" (11 is a struct's own, in `Fits`)
pub record StandsHere (C : Coding) (c : TConfiguration) (s : List ℕ) (at d sd : ℕ) (k : C.Kind) (e n : ℕ) : Type 0 where
  pub inside : at ≤ length s
  pub depth : d ≤ 127
  pub structs : sd ≤ 65535
  pub stands : Stands C c s at d sd k e n

-- the entry's own refusals: 2, "start beyond the buffer's length"; 20, "depth above 127, or struct depth above 65,535"
pub data Barred (s : List ℕ) (at d sd : ℕ) : ℕ → Type 0 where
  beyond : length s < at → Barred s at d sd 2
  structs : at ≤ length s → 65535 < sd → Barred s at d sd 20
  depth : at ≤ length s → 127 < d → Barred s at d sd 20

-- a skip is refused at a place: at the entry, "count, 0 for 2 and 20"; or in the value, as a cut tree says
pub data RefusedHere (C : Coding) (c : TConfiguration) (s : List ℕ) (at d sd : ℕ) (k : C.Kind) (n p count : ℕ) : Type 0 where
  at_entry : Barred s at d sd n → p ≡ at → count ≡ 0 → RefusedHere C c s at d sd k n p count
  in_value : at ≤ length s → d ≤ 127 → sd ≤ 65535 → IsCut C c s at d sd k n p count → RefusedHere C c s at d sd k n p count

-- what the skip of a value answers
abbrev pub SkipAnswers : (C : Coding) → TConfiguration → List ℕ → ℕ → ℕ → ℕ → C.Kind → Outcome → Type 0
SkipAnswers C c s at d sd k x = AfterEntry (skip_entry d sd s at) x (Answers C c s at d sd k x)
