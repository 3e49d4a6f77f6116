-- What a header that is written puts down, and that what is missing is the write's fault. Assumes nothing.
use Rattle.std.specs.Prelude.{Option, Some, None, Result}
use Prim.Native.Nat.{ℕ}
use mathlib.Core.Path.{◌≡◌, refl}
use mathlib.Core.Bool.{Bool, true, false}
use mathlib.Core.List.{List, [], ◌∷◌}
use lib.Dec.{ltb}
use lib.IntN.{ℤ}
use lib.ListN.{length}
use mir.Syntax.{w16, w32}
use mir.Val.{of_z}
use Rattle.codes.specs.Codes.{type_byte, is_stop}
use Rattle.wire.specs.Answer.{refused, refuse_if}
use Rattle.wire.specs.Refusals.{told_moved}
use Rattle.wire.specs.Writes.{Output, puts, fails, fail_if, unless_fails, write_at, left, Wrote}
use Rattle.wire.specs.declared.cursor.Cursor.{Cursor}
use Rattle.wire.specs.declared.refusal.Refusal.{Refusal}
use Rattle.codes.specs.declared.TType.{TType}
use Rattle.number.specs.BigEndian.{bytes_of}
use Rattle.read.specs.Layouts.{field_layout, map_layout}
use Rattle.write_headers.specs.Outputs.{field_output, map_output}

module _ (t : TType) (at : ℕ) {i : Option ℤ} where
  pub with_id : {id : ℤ} → i ≡ Some id → puts (field_layout t (bytes_of 2 (of_z w16 id))) ≡ field_output t i at
  unfolding field_output
  with_id e = rw e

  module _ (e : i ≡ None) where
    pub stop_alone : is_stop t ≡ true → puts (type_byte t ∷ []) ≡ field_output t i at
    unfolding field_output fail_if
    stop_alone h = rw (e, h)

module _ (size : ℤ) (at : ℕ) {k : Option TType} (v : Option TType) where
  pub both_types : {kt vt : TType} → k ≡ Some kt → v ≡ Some vt → puts (map_layout kt vt (of_z w32 size)) ≡ map_output k v size at
  unfolding map_output
  both_types e f = rw (e, f)

-- what is missing is the write's fault
pub missing_write : (output : Output) (out : List ℕ) (at : ℕ) {r : Result Cursor Refusal} → fails 17 at ≡ output
    → told_moved r ≡ refuse_if (ltb (length out) at) 2 at (refused 17 at) → Wrote r out out (write_at output out at)
unfolding write_at unless_fails refuse_if left
missing_write output out at {r} e t = rw (← e) (go (ltb (length out) at) t)
  where
    go : (b : Bool) → told_moved r ≡ refuse_if b 2 at (refused 17 at) → Wrote r out out (refuse_if b 2 at (refused 17 at))
    go true t = record { answer = t; buffer = refl }
    go false t = record { answer = t; buffer = refl }
