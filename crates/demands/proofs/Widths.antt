-- A value with no value in it is skipped as it is read, type by type: the widths stand in the shapes and in the reads. Assumes nothing.
use Prim.Native.Nat.{ℕ, ◌≤◌}
use mathlib.Core.Path.{◌≡◌, refl}
use mathlib.Core.List.{List}
use borrow.Author.Tests.{le-ltb}
use lib.ListN.{length, take, drop}
use Rattle.wire.specs.Answer.{Answer, gives, refused, refuse_if, and_then, mapped, judged, within, item_at}
use Rattle.codes.specs.declared.TType.{TType}
use Rattle.codes.specs.declared.TType.TheVariants as T
use Rattle.config.specs.declared.configuration.TConfiguration.{TConfiguration}
use Rattle.number.specs.BigEndian.{big}
use Rattle.number.specs.Reads.{number_at}
use Rattle.text.specs.Texts.{span, uuid_at}
use Rattle.scalar.specs.Scalars.{wrong_at}
use Rattle.tree.specs.Coding.{leaf}
use Rattle.tree.proofs.Heads.{clash}
use Rattle.binary.specs.Binary.{binary}
use Rattle.demands.specs.Demands.{read_alone}

-- a number is judged by its bytes alone, whatever it stands for
number : {A B : Type 0} (w : ℕ) (f : ℕ → A) (g : A → B) (s : List ℕ) (at : ℕ) → within s at w ≡ judged (mapped g (number_at w f s at))
unfolding number_at item_at and_then
number w f g s at = go (within s at w)
  where
    go : (m : Answer Unit) → m ≡ judged (mapped g (and_then (and_then m λ _ next. gives (take w (drop at s)) next) λ bs next. gives (f (big bs)) next))
    go (gives u p) = refl
    go (refused n p) = refl

uuid : (s : List ℕ) (at : ℕ) → within s at 16 ≡ judged (uuid_at s at)
unfolding uuid_at and_then
uuid s at = go (within s at 16)
  where
    go : (m : Answer Unit) → m ≡ judged (and_then m λ _ end. gives (span at end) end)
    go (gives u p) = refl
    go (refused n p) = refl

wrong : (s : List ℕ) (at : ℕ) → at ≤ length s → refused 12 at ≡ judged (wrong_at s at)
unfolding wrong_at refuse_if
wrong s at h = rw (le-ltb (length s) at h)

pub skipped_as_read : (c : TConfiguration) (t : TType) (s : List ℕ) (at : ℕ) → at ≤ length s → binary.view t ≡ leaf → binary.leaf_at c t s at ≡ read_alone c t s at
skipped_as_read c T.Stop s at h v = wrong s at h
skipped_as_read c T.Void s at h v = wrong s at h
skipped_as_read c T.Bool s at h v = number 1 _ _ s at
skipped_as_read c T.I08 s at h v = number 1 _ _ s at
skipped_as_read c T.Double s at h v = number 8 _ _ s at
skipped_as_read c T.I16 s at h v = number 2 _ _ s at
skipped_as_read c T.I32 s at h v = number 4 _ _ s at
skipped_as_read c T.I64 s at h v = number 8 _ _ s at
skipped_as_read c T.String s at h v = refl
skipped_as_read c T.Utf7 s at h v = wrong s at h
skipped_as_read c T.Struct s at h v = clash (cc)
skipped_as_read c T.Map s at h v = clash (cc)
skipped_as_read c T.Set s at h v = clash (cc)
skipped_as_read c T.List s at h v = clash (cc)
skipped_as_read c T.Uuid s at h v = uuid s at
