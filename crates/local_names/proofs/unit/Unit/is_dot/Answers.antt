use Rattle.std.proofs.Common.{sym, ap, ◌∙◌}
use Rattle.std.specs.List.{list_all}
use Rattle.local_names.specs.PlainNames.{is_dot}
use Rattle.local_names.specs.inner.Units.{unit_text}
use Rattle.local_names.proofs.UnitLaws.{dot_char, dot_escape}
use Rattle.local_names.proofs.unit.Unit.is_dot.Goals as goal

pub returns-in-Char : goal.returns-in-Char
returns-in-Char c = dot_char c.in-Char.c ∙ ap (λ unit. list_all is_dot (unit_text unit)) (sym c.in-Char.is)

pub returns-in-Escape : goal.returns-in-Escape
returns-in-Escape c = dot_escape _ ∙ ap (λ unit. list_all is_dot (unit_text unit)) (sym c.in-Escape.is)
