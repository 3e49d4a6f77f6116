-- What `read` and `leaf` answer, as the tree's steps want it. Assumes nothing.
use Prim.Native.Nat.{ℕ}
use mathlib.Core.Path.{◌≡◌, sym, ap, subst, ◌∙◌}
use mathlib.Core.Bool.{true, false}
use mathlib.Core.List.{List}
use Rattle.wire.specs.Answer.{Answer, gives, mapped, judged}
use Rattle.codes.specs.Codes.{is_stop}
use Rattle.codes.specs.Shapes.{shape_of}
use Rattle.codes.specs.declared.TType.{TType}
use Rattle.codes.specs.declared.shape.Shape.{Shape}
use Rattle.config.specs.declared.configuration.TConfiguration.{TConfiguration}
use Rattle.number.proofs.Widths.{Octets}
use Rattle.read.specs.declared.field.TFieldIdentifier.{TFieldIdentifier}
use Rattle.read.specs.Headers.{field_at}
use Rattle.tree.specs.Coding.{leaf, Heading, stop, going}
use Rattle.tree.specs.Answers.{Outcome, leaf_outcome, Answers}
use Rattle.tree.proofs.Steps as tree
use Rattle.binary.specs.Binary.{seen_as, heading, binary}
use Rattle.binary.proofs.Binary.{binary_reads}

-- a value with no value in it, from its type's shape and what was read there
pub leaf_answers : (c : TConfiguration) (s : List ℕ) (at d sd : ℕ) → Octets s → (t : TType) (k : Shape) → (d ≡ 0 → ⊥) → shape_of t ≡ k → (seen_as k).view ≡ leaf
    → {x : Outcome} → x ≡ leaf_outcome ((seen_as k).read c s at) → Answers binary c s at d sd t x
leaf_answers c s at d sd o t k hd e v f =
    subst (Answers binary c s at d sd t) (sym f)
    (tree.leaf_answers binary binary_reads c s at d sd o t hd (ap (λ (j : Shape). (seen_as j).view) e ∙ v) ((seen_as k).read c s at) (ap (λ (j : Shape). (seen_as j).read c s at) e))

-- a field's header that was read: it goes on, or it is Stop
module _ (s : List ℕ) (cur : ℕ) {v : TFieldIdentifier} {p : ℕ} where
  as_heading : (h : Heading TType Unit) → heading v ≡ h → gives v p ≡ field_at s cur → gives h p ≡ mapped heading (field_at s cur)
  as_heading h e f = ap (λ (x : Heading TType Unit). gives x p) (sym e) ∙ ap (mapped heading) f

  pub goes : is_stop v.field_type ≡ false → gives v p ≡ field_at s cur → gives (going v.field_type tt) p ≡ mapped heading (field_at s cur)
  goes e f = as_heading (going v.field_type tt) (rw e) f

  pub stops : is_stop v.field_type ≡ true → gives v p ≡ field_at s cur → gives stop p ≡ mapped heading (field_at s cur)
  stops e f = as_heading stop (rw e) f

-- a container's header that was refused is all that is judged
abbrev pub judged_as : {A B : Type 0} → (A → B) → Answer A → Answer Unit
judged_as f m = judged (mapped f m)
