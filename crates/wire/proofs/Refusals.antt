-- A refusal is known by its number and place. Assumes nothing.
use Prim.Native.Nat.{ℕ}
use mathlib.Core.Path.{◌≡◌, refl, ap}
use mathlib.Core.List.{List, [], ◌∷◌}
use lib.ListN.{get_or}
use Rattle.wire.specs.Refusals.{kind_number}
use Rattle.wire.specs.declared.refusal.Refusal.{Refusal}
use Rattle.wire.specs.declared.refusal.Kind.{Kind}
use Rattle.wire.specs.declared.refusal.Kind.TheVariants as K

-- the kinds from number 0 on; 0 is no refusal's
kinds : List Kind
kinds =
    K.ShortInput  -- 0
    ∷ K.ShortInput  -- 1
    ∷ K.StartBeyond  -- 2
    ∷ K.BadVersion  -- 3
    ∷ K.BadMessageType  -- 4
    ∷ K.UnknownType  -- 5
    ∷ K.NegativeSize  -- 6
    ∷ K.StringLimit  -- 7
    ∷ K.ContainerLimit  -- 8
    ∷ K.MessageLimit  -- 9
    ∷ K.SkipDepth  -- 10
    ∷ K.StructDepth  -- 11
    ∷ K.WrongType  -- 12
    ∷ K.NotUtf8  -- 13
    ∷ K.NoStructOpen  -- 14
    ∷ K.OutputFull  -- 15
    ∷ K.TooLong  -- 16
    ∷ K.Missing  -- 17
    ∷ K.FrameLimit  -- 18
    ∷ K.FrameAboveMessage  -- 19
    ∷ K.DepthBeyond  -- 20
    ∷ []

pub kind_of : ℕ → Kind
kind_of n = get_or kinds n K.ShortInput

pub kind_of-number : (k : Kind) → kind_of (kind_number k) ≡ k
unfolding kind_of kinds
kind_of-number K.ShortInput = refl
kind_of-number K.StartBeyond = refl
kind_of-number K.BadVersion = refl
kind_of-number K.BadMessageType = refl
kind_of-number K.UnknownType = refl
kind_of-number K.NegativeSize = refl
kind_of-number K.StringLimit = refl
kind_of-number K.ContainerLimit = refl
kind_of-number K.MessageLimit = refl
kind_of-number K.SkipDepth = refl
kind_of-number K.StructDepth = refl
kind_of-number K.WrongType = refl
kind_of-number K.NotUtf8 = refl
kind_of-number K.NoStructOpen = refl
kind_of-number K.OutputFull = refl
kind_of-number K.TooLong = refl
kind_of-number K.Missing = refl
kind_of-number K.FrameLimit = refl
kind_of-number K.FrameAboveMessage = refl
kind_of-number K.DepthBeyond = refl

-- the refusal that a number and a place tell of
pub refusal_of : ℕ → ℕ → Refusal
refusal_of n p = record { kind = kind_of n; place = p }

pub told_back : (x : Refusal) → refusal_of (kind_number x.kind) x.place ≡ x
unfolding refusal_of
told_back x = ap (λ (k : Kind). record { kind = k; place = x.place }) (kind_of-number x.kind)
