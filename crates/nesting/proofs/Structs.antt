-- The cases of struct begin and end that go on, each from what leads to it. Assumes nothing.
use Prim.Native.Nat.{ℕ, ◌+◌, ◌-◌, ◌≤◌}
use mathlib.Core.Path.{◌≡◌}
use mathlib.Core.Bool.{false}
use mathlib.Core.List.{List}
use borrow.Author.Tests.{le-ltb, ne_eqb}
use lib.ListN.{length}
use Rattle.wire.specs.Answer.{gives, refuse_if}
use Rattle.config.specs.Limits.{reached}
use Rattle.std.specs.Prelude.{Option}
use Rattle.nesting.specs.Structs.{struct_begin_at, struct_end_at}

module _ (limit : Option ℕ) (depth : ℕ) (s : List ℕ) (at : ℕ) where
  module _ (h : at ≤ length s) where
    module _ (i : depth ≤ 65535) where
      pub begun : reached depth limit ≡ false → (depth ≡ 65535 → ⊥) → gives (depth + 1) at ≡ struct_begin_at limit depth s at
      unfolding struct_begin_at refuse_if
      begun r e = rw (le-ltb _ _ h, le-ltb _ _ i, r, ne_eqb _ _ e)

module _ (depth : ℕ) (s : List ℕ) (at : ℕ) where
  module _ (h : at ≤ length s) where
    pub ended : depth ≤ 65535 → (depth ≡ 0 → ⊥) → gives (depth - 1) at ≡ struct_end_at depth s at
    unfolding struct_end_at refuse_if
    ended i e = rw (le-ltb _ _ h, le-ltb _ _ i, ne_eqb _ _ e)
