-- Struct begin and end: no byte, but the struct depth.
use Rattle.std.specs.Prelude.{ℕ, ◌+◌, ◌-◌, List, ltb, eqb, Option}
use Rattle.wire.specs.Answer.{Answer, gives, refuse_if, entry}
use Rattle.config.specs.Limits.{reached}

-- "2, 20 (where it takes a skip depth or a struct depth)": here a struct depth
abbrev pub depth_entry : {A : Type 0} → ℕ → List ℕ → ℕ → Answer A → Answer A
depth_entry depth s at rest = entry s at (refuse_if (ltb 65535 depth) 20 at rest)

-- "refused (11) at depth at or above the limit, or at 65,535 whatever the limit"
unfoldable pub struct_begin_at : Option ℕ → ℕ → List ℕ → ℕ → Answer ℕ
struct_begin_at limit depth s at =
    depth_entry depth s at
    (refuse_if (reached depth limit) 11 at
    (refuse_if (eqb depth 65535) 11 at
    (gives (depth + 1) at)))

-- "A struct end at 0 is 14"
unfoldable pub struct_end_at : ℕ → List ℕ → ℕ → Answer ℕ
struct_end_at depth s at =
    depth_entry depth s at
    (refuse_if (eqb depth 0) 14 at
    (gives (depth - 1) at))
