-- What an encoding has to show for the laws about its trees. Assumes nothing.
use Prim.Native.Nat.{ℕ, ◌+◌, ◌≤◌}
use mathlib.Core.Path.{◌≡◌}
use mathlib.Core.List.{List, ◌++◌}
use lib.ListN.{length}
use Rattle.wire.specs.Answer.{gives}
use Rattle.config.specs.declared.configuration.TConfiguration.{TConfiguration}
use Rattle.number.proofs.Widths.{Octets}
use Rattle.tree.specs.Part.{Part}
use Rattle.tree.specs.Room.{Unnamed}
use Rattle.tree.proofs.Growth.{Grows}
use Rattle.tree.proofs.Places.{Later}
use Rattle.tree.specs.Coding.{leaf, Items, Paired, Heading, Coding}

-- bytes that stand at a place, of which P holds
pub record There (s : List ℕ) (at e : ℕ) (P : List ℕ → Type 0) : Type 0 where
  pub bytes : List ℕ
  pub part : Part s at e bytes
  pub holds : P bytes

-- what is read is laid out so, and what is laid out so is read
pub record Reads (C : Coding) : Type 0 where
  pub leaf_is : (c : TConfiguration) (k : C.Kind) (s : List ℕ) (at : ℕ) {e : ℕ} → Octets s → C.view k ≡ leaf → gives tt e ≡ C.leaf_at c k s at → There s at e (C.Leaf c k)
  pub leaf_reads : (c : TConfiguration) (k : C.Kind) (s : List ℕ) (at : ℕ) {e : ℕ} (b : List ℕ) → C.view k ≡ leaf → C.Leaf c k b → Part s at e b → gives tt e ≡ C.leaf_at c k s at
  pub field_is : (st : C.State) (s : List ℕ) (at : ℕ) {x : Heading C.Kind C.State} {e : ℕ} → gives x e ≡ C.field_at st s at → There s at e (λ b. C.Head st b x)
  pub field_reads : (st : C.State) (s : List ℕ) (at : ℕ) {x : Heading C.Kind C.State} {e : ℕ} (b : List ℕ) → C.Head st b x → Part s at e b → gives x e ≡ C.field_at st s at
  pub list_is : (c : TConfiguration) (s : List ℕ) (at : ℕ) {x : Items C.Kind} {e : ℕ} → Octets s → gives x e ≡ C.list_at c s at → There s at e (λ b. C.ListHead c b x)
  pub list_reads : (c : TConfiguration) (s : List ℕ) (at : ℕ) {x : Items C.Kind} {e : ℕ} (b : List ℕ) → C.ListHead c b x → Part s at e b → gives x e ≡ C.list_at c s at
  pub map_is : (c : TConfiguration) (s : List ℕ) (at : ℕ) {x : Paired C.Kind} {e : ℕ} → Octets s → gives x e ≡ C.map_at c s at → There s at e (λ b. C.MapHead c b x)
  pub map_reads : (c : TConfiguration) (s : List ℕ) (at : ℕ) {x : Paired C.Kind} {e : ℕ} (b : List ℕ) → C.MapHead c b x → Part s at e b → gives x e ≡ C.map_at c s at
  -- a field's header takes a byte at least
  pub head_some : (st : C.State) {b : List ℕ} {x : Heading C.Kind C.State} → C.Head st b x → 1 ≤ length b

-- more room: demand 3, header by header
pub record Room (C : Coding) (old new : TConfiguration) (d e : ℕ) (s x : List ℕ) : Type 0 where
  pub leaf_grows : (k : C.Kind) (at : ℕ) → at ≤ length s → Grows (Unnamed old new d e x) (C.leaf_at old k s at) (C.leaf_at new k (s ++ x) at)
  pub field_grows : (st : C.State) (at : ℕ) → at ≤ length s → Grows (Unnamed old new d e x) (C.field_at st s at) (C.field_at st (s ++ x) at)
  pub list_grows : (at : ℕ) → at ≤ length s → Grows (Unnamed old new d e x) (C.list_at old s at) (C.list_at new (s ++ x) at)
  pub map_grows : (at : ℕ) → at ≤ length s → Grows (Unnamed old new d e x) (C.map_at old s at) (C.map_at new (s ++ x) at)

-- and what is laid out so stays so under raised limits
pub record Raises (C : Coding) (old new : TConfiguration) : Type 0 where
  pub leaf_more : (k : C.Kind) (b : List ℕ) → C.Leaf old k b → C.Leaf new k b
  pub list_more : (b : List ℕ) (x : Items C.Kind) → C.ListHead old b x → C.ListHead new b x
  pub map_more : (b : List ℕ) (x : Paired C.Kind) → C.MapHead old b x → C.MapHead new b x

-- refusals lie where the value begins or behind
pub record Places (C : Coding) : Type 0 where
  pub leaf_later : (c : TConfiguration) (k : C.Kind) (s : List ℕ) (at : ℕ) → Later at (C.leaf_at c k s at)
  pub field_later : (st : C.State) (s : List ℕ) (at : ℕ) → Later at (C.field_at st s at)
  pub list_later : (c : TConfiguration) (s : List ℕ) (at : ℕ) → Later at (C.list_at c s at)
  pub map_later : (c : TConfiguration) (s : List ℕ) (at : ℕ) → Later at (C.map_at c s at)

-- the bytes of a value: one at least, or none where its kind says so, which is never an element's
-- (slack is 1 for a kind whose values take no byte of their own, else 0)
pub record Weighs (C : Coding) (slack : C.Kind → ℕ) : Type 0 where
  pub slight : (k : C.Kind) → slack k ≤ 1
  pub leaf_weighs : (c : TConfiguration) (k : C.Kind) (b : List ℕ) → C.Leaf c k b → 1 ≤ length b + slack k
  -- a container's header takes a byte at least
  pub list_weighs : (c : TConfiguration) (s : List ℕ) (at : ℕ) {x : Items C.Kind} {e : ℕ} → gives x e ≡ C.list_at c s at → (at + 1 ≤ e) × (slack x.element ≡ 0)
  pub map_weighs : (c : TConfiguration) (s : List ℕ) (at : ℕ) {x : Paired C.Kind} {e : ℕ} → gives x e ≡ C.map_at c s at
      → (at + 1 ≤ e) × (slack x.key ≡ 0) × (slack x.value ≡ 0)
