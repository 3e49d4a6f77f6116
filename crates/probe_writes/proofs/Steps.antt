-- What the writes come to, once the step is known; and that no two answers meet the promise. Assumes nothing.
use Rattle.std.specs.Prelude.{Result, Option, Some, None}
use Prim.Native.Nat.{ℕ}
use mathlib.Core.Path.{◌≡◌, refl, sym, ap, ◌∙◌}
use mathlib.Core.List.{List}
use Rattle.wire.specs.declared.refusal.Refusal.{Refusal}
use Rattle.wire.specs.declared.cursor.Cursor.{Cursor}
use Rattle.wire.specs.Answer.{Answer}
use Rattle.wire.specs.Refusals.{told_moved}
use Rattle.wire.specs.Writes.{Wrote}
use Rattle.probe_rows.specs.declared.Row.{Row}
use Rattle.probe_rows.specs.Rows.{row_by, none_row}
use Rattle.probe_writes.specs.Writes.{Does, writes, stays, nothing, WriteSays}

-- a writer's promise, and the row made of its answer
pub put_down : {m : Result Cursor Refusal} {w : Row} {write : Answer (List ℕ)} {new old : List ℕ} → Wrote m new old write → w ≡ row_by none_row (told_moved m)
    → WriteSays (writes write) (Some w) new old
put_down p e = record { came = ap Some (e ∙ ap (row_by none_row) p.answer); holds = p.buffer }

pub stayed : {w w' : Row} {old : List ℕ} → w ≡ w' → WriteSays (stays w') (Some w) old old
stayed e = record { came = ap Some e; holds = refl }

pub undone : {old : List ℕ} → WriteSays nothing None old old
undone = record { came = refl; holds = refl }

-- any two things and buffers that the promise admits are equal
pub write_step_settled : (d : Does) (x y : Option Row) (old new new' : List ℕ) → WriteSays d x new old → WriteSays d y new' old → (x ≡ y) × (new ≡ new')
write_step_settled d x y old new new' p q = (p.came ∙ sym q.came, p.holds ∙ sym q.holds)
