-- A header's refusal never lies before the header, in the binary encoding. Assumes nothing.
use Rattle.std.specs.Prelude.{None, Option, Some}
use Prim.Native.Nat.{ℕ, ◌+◌, ◌≤◌}
use mathlib.Core.Bool.{Bool, true, false, cond}
use mathlib.Core.List.{List}
use lib.IntN.{pos, nat_abs}
use mir.Syntax.{w16, w32}
use mir.Val.{to_z}
use native.Mathlib.Omega.{arith}
use Rattle.wire.specs.Answer.{gives, and_then, within}
use Rattle.codes.specs.Codes.{type_of, is_stop, least_size}
use Rattle.codes.specs.declared.TType.{TType}
use Rattle.number.specs.Reads.{byte_at, i16_at, i32_at}
use Rattle.config.specs.declared.configuration.TConfiguration.{TConfiguration}
use Rattle.text.specs.Texts.{size_at, over_number, sized_at, limited_at}
use Rattle.text.proofs.Texts.{limited_is}
use Rattle.text.specs.declared.Body.{Body}
use Rattle.read.specs.Headers.{known, type_at, field, field_at, count_at, list_at, map_at}
use Rattle.tree.proofs.Places.{Later, here_later, gives_later, behind, if_later, then_later, within_later as part-later, number_later as digits-later}
use Rattle.binary.proofs.Heads.{type_is, size_from}

module _ (s : List ℕ) where
  pub type_later : (at : ℕ) → Later at (type_at s at)
  unfolding type_at
  type_later at = then_later at (byte_at s at) _ (digits-later s 1 (λ (n : ℕ). n) at) (λ b q e. by_known (type_of b) q)
    where
      by_known : (k : Option TType) (q : ℕ) → Later at (known at q k)
      by_known (Some t) q = gives_later t q at
      by_known None q = here_later 5 at

  pub field_later : (at : ℕ) → Later at (field_at s at)
  unfolding field_at
  field_later at =
      then_later at (type_at s at) _ (type_later at) (λ t q e. by_stop t q (type_is s at e).part.from (is_stop t))
    where
      by_stop : (t : TType) (q : ℕ) → at ≤ q → (b : Bool)
          → Later at (cond b (gives (field t (pos 0)) q) (and_then (i16_at s q) λ id end. gives (field t id) end))
      by_stop t q h true = gives_later _ q at
      by_stop t q h false = behind h (then_later q (i16_at s q) _ (digits-later s 2 (to_z w16) q) (λ id r e. gives_later _ r q))

  pub size_later : (at : ℕ) → Later at (size_at s at)
  unfolding size_at
  size_later at = then_later at (i32_at s at) _ (digits-later s 4 (to_z w32) at) (λ v q e. if_later _ 6 at _ (gives_later (nat_abs v) q at))

  pub sized_later : (body : Body) (l : Option ℕ) (at : ℕ) → Later at (sized_at body l s at)
  unfolding sized_at limited_at
  sized_later body l at =
      then_later at (limited_at body l s at) _
      (then_later at (size_at s at) _ (size_later at) (λ n q e. if_later _ (over_number body) at _ (gives_later n q at)))
      (λ n q e.
      behind (omega (arith, (size_from s at (limited_is body l s at e).size).0)) (then_later q (within s q n) _ (part-later s q n) (λ u r f. gives_later _ r q)))

  module _ (c : TConfiguration) where
    pub count_later : (least at : ℕ) → Later at (count_at c least s at)
    unfolding count_at
    count_later least at =
        then_later at (size_at s at) _ (size_later at) (λ n q e. if_later _ 8 at _ (if_later _ 9 at _ (gives_later n q at)))

    pub list_later : (at : ℕ) → Later at (list_at c s at)
    unfolding list_at
    list_later at =
        then_later at (type_at s at) _ (type_later at) (λ t q e.
        behind (type_is s at e).part.from (then_later q (count_at c (least_size t) s q) _ (count_later (least_size t) q) (λ v r f. gives_later _ r q)))

    pub map_later : (at : ℕ) → Later at (map_at c s at)
    unfolding map_at
    map_later at =
        then_later at (type_at s at) _ (type_later at) (λ k q e. behind (type_is s at e).part.from
        (then_later q (type_at s q) _ (type_later q) (λ v r f. behind (type_is s q f).part.from
        (then_later r (count_at c (least_size k + least_size v) s r) _ (count_later (least_size k + least_size v) r) (λ n t g. gives_later _ t r)))))
