-- A value as a tree, in any encoding: its bytes, the number of its values, and that it fits depth and limits at every node.
-- The parts of a struct, a list and a map are written from the last one back.
use Rattle.std.specs.Prelude.{ℕ, ◌+◌, ◌-◌, ◌<◌, ◌≡◌, false, List, [], ◌++◌}
use Rattle.config.specs.Limits.{reached}
use Rattle.config.specs.declared.configuration.TConfiguration.{TConfiguration}
use Rattle.tree.specs.Coding.{Items, Paired, stop, going, Coding}
use Rattle.tree.specs.Coding as seen

-- K and S are an encoding's kinds and what it remembers
mutual
  pub data Tree (K S : Type 0) : Type 0 where
    -- a value with no value in it, by its bytes
    leaf : List ℕ → Tree K S
    -- a struct: the fields, and the bytes that end them
    struct : Fields K S → List ℕ → Tree K S
    -- a list or a set: the header's bytes, what it says, and the elements
    list : List ℕ → Items K → Trees K S → Tree K S
    -- a map: the header's bytes, what it says, and the pairs
    map : List ℕ → Paired K → Pairs K S → Tree K S

  -- the fields of a struct: of each its header's bytes, the kind and what is remembered that it says, and the value
  pub data Fields (K S : Type 0) : Type 0 where
    nil : Fields K S
    snoc : Fields K S → List ℕ → K → S → Tree K S → Fields K S

  pub data Trees (K S : Type 0) : Type 0 where
    none : Trees K S
    then : Trees K S → Tree K S → Trees K S

  pub data Pairs (K S : Type 0) : Type 0 where
    empty : Pairs K S
    with : Pairs K S → Tree K S → Tree K S → Pairs K S

-- a list's or set's "size": how many elements follow
unfoldable pub count_of : {K S : Type 0} → Trees K S → ℕ
count_of none = 0
count_of (then ts t) = count_of ts + 1

-- a map's "size": how many pairs follow, "key, value, key, value"
unfoldable pub pairs_of : {K S : Type 0} → Pairs K S → ℕ
pairs_of empty = 0
pairs_of (with ps k v) = pairs_of ps + 1

-- the bytes of a tree
unfoldable mutual
  pub layout : {K S : Type 0} → Tree K S → List ℕ
  layout (leaf b) = b
  layout (struct fs e) = fields_layout fs ++ e
  -- each container's header, then the elements; of a map, key and value of each pair
  layout (list h i ts) = h ++ trees_layout ts
  layout (map h i ps) = h ++ pairs_layout ps

  pub fields_layout : {K S : Type 0} → Fields K S → List ℕ
  fields_layout nil = []
  -- each field's header, then its value
  fields_layout (snoc fs h k st v) = fields_layout fs ++ (h ++ layout v)

  pub trees_layout : {K S : Type 0} → Trees K S → List ℕ
  trees_layout none = []
  trees_layout (then ts t) = trees_layout ts ++ layout t

  pub pairs_layout : {K S : Type 0} → Pairs K S → List ℕ
  pairs_layout empty = []
  pairs_layout (with ps k v) = pairs_layout ps ++ (layout k ++ layout v)

-- "The count is the number of values": the value itself and those in it
unfoldable mutual
  pub values_of : {K S : Type 0} → Tree K S → ℕ
  values_of (leaf b) = 1
  values_of (struct fs e) = 1 + fields_values fs
  values_of (list h i ts) = 1 + trees_values ts
  values_of (map h i ps) = 1 + pairs_values ps

  pub fields_values : {K S : Type 0} → Fields K S → ℕ
  fields_values nil = 0
  fields_values (snoc fs h k st v) = fields_values fs + values_of v

  pub trees_values : {K S : Type 0} → Trees K S → ℕ
  trees_values none = 0
  trees_values (then ts t) = trees_values ts + values_of t

  pub pairs_values : {K S : Type 0} → Pairs K S → ℕ
  pairs_values empty = 0
  pairs_values (with ps k v) = pairs_values ps + (values_of k + values_of v)

-- what is remembered after some fields
unfoldable pub state_of : {K S : Type 0} → S → Fields K S → S
state_of s nil = s
state_of s (snoc fs h k st v) = st

-- "Its limits are those above, each at every node": a value has depth left ("depth 0 is 10") and what its kind asks; `inner` is said of what
-- is in it. First, "a scalar or a UUID passes its bytes; a string its length and body"
pub record LeafFits (C : Coding) (c : TConfiguration) (d : ℕ) (k : C.Kind) (b : List ℕ) : Type 0 where
  pub deep : 0 < d
  pub view : C.view k ≡ seen.leaf
  pub bytes : C.Leaf c k b

-- "a struct does the struct begin": 11 "at depth at or above the limit, or at 65,535 whatever the limit"; it ends with Stop
pub record StructFits (C : Coding) (c : TConfiguration) (d sd : ℕ) (k : C.Kind) (st : C.State) (e : List ℕ) (inner : Type 0) : Type 0 where
  pub deep : 0 < d
  pub view : C.view k ≡ seen.fields
  pub limit : reached sd c.max_recursion_depth ≡ false
  pub cap : sd < 65535
  pub fields : inner
  pub end : C.Head st e stop

-- "a container reads its header, then every element": as many as the header says
pub record ListFits (C : Coding) (c : TConfiguration) (d : ℕ) (k : C.Kind) (h : List ℕ) (i : Items C.Kind) (n : ℕ) (inner : Type 0) : Type 0 where
  pub deep : 0 < d
  pub view : C.view k ≡ seen.items
  pub header : C.ListHead c h i
  pub size : i.size ≡ n
  pub elements : inner

-- and of a map every pair
pub record MapFits (C : Coding) (c : TConfiguration) (d : ℕ) (k : C.Kind) (h : List ℕ) (i : Paired C.Kind) (n : ℕ) (inner : Type 0) : Type 0 where
  pub deep : 0 < d
  pub view : C.view k ≡ seen.pairs
  pub header : C.MapHead c h i
  pub size : i.size ≡ n
  pub pairs : inner

-- "fields until Stop": a header that is no Stop, behind what the fields before it leave, then the value
pub record FieldFits (C : Coding) (before : C.State) (h : List ℕ) (k : C.Kind) (st : C.State) (others inner : Type 0) : Type 0 where
  pub fields : others
  pub header : C.Head before h (going k st)
  pub value : inner

-- a tree of a kind fits at a depth and a struct depth: "each value at depth less one", and a struct's at one struct depth more
module _ (C : Coding) where
  unfoldable mutual
    pub Fits : Tree C.Kind C.State → TConfiguration → ℕ → ℕ → C.Kind → Type 0
    Fits (leaf b) c d sd k = LeafFits C c d k b
    Fits (struct fs e) c d sd k = StructFits C c d sd k (state_of C.start fs) e (FieldsFit fs c (d - 1) (sd + 1))
    Fits (list h i ts) c d sd k = ListFits C c d k h i (count_of ts) (TreesFit ts c (d - 1) sd i.element)
    Fits (map h i ps) c d sd k = MapFits C c d k h i (pairs_of ps) (PairsFit ps c (d - 1) sd i.key i.value)

    pub FieldsFit : Fields C.Kind C.State → TConfiguration → ℕ → ℕ → Type 0
    FieldsFit nil c d sd = Unit
    FieldsFit (snoc fs h k st v) c d sd = FieldFits C (state_of C.start fs) h k st (FieldsFit fs c d sd) (Fits v c d sd k)

    pub TreesFit : Trees C.Kind C.State → TConfiguration → ℕ → ℕ → C.Kind → Type 0
    TreesFit none c d sd k = Unit
    TreesFit (then ts t) c d sd k = TreesFit ts c d sd k × Fits t c d sd k

    pub PairsFit : Pairs C.Kind C.State → TConfiguration → ℕ → ℕ → C.Kind → C.Kind → Type 0
    PairsFit empty c d sd k v = Unit
    PairsFit (with ps x y) c d sd k v = PairsFit ps c d sd k v × Fits x c d sd k × Fits y c d sd v
