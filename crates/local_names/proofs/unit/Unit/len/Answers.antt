use Rattle.std.proofs.Common.{length, sym, ap, ◌∙◌}
use Rattle.local_names.specs.inner.Units.{unit_text}
use Rattle.local_names.proofs.UnitLaws.{length-escape}
use Rattle.local_names.proofs.unit.Unit.len.Goals as goal

pub returns-in-Escape : goal.returns-in-Escape
returns-in-Escape c = sym (ap (λ unit. length (unit_text unit)) c.in-Escape.is ∙ length-escape _)
