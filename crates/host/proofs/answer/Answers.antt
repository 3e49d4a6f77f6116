-- Assumes nothing.
use mathlib.Core.Path.{ap, ◌∙◌}
use Rattle.skip.specs.Skips.{told_skipped}
use Rattle.host.specs.Host.{filled}
use Rattle.host.specs.declared.Row.{Row}
use Rattle.host.proofs.Rows.{set}
use Rattle.host.proofs.answer.Goals as goal

pub returns : goal.returns
returns c = let a = c.args in set a.limits a.struct_depth a.bytes.now a.place a.depth a.type_byte a.kept.now _ (told_skipped c.skip_by_byte-skipped.result) c.if-kept-lt24.false c.skip_by_byte-skipped.ensures (c.fill.ensures ∙ ap (λ (w : Row). filled w a.kept.now) c.into.ensures)
