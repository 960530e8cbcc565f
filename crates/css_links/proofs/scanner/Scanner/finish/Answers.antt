use Rattle.std.proofs.Common.{ap, ◌∙◌}
use Rattle.css_links.specs.References.{ended}
use Rattle.css_links.specs.Scanning.{ScanProgress}
use Rattle.css_links.proofs.Feeding.{finished}
use Rattle.css_links.proofs.scanner.Scanner.finish.Goals as goal

pub returns-clause-ok : goal.returns-clause-ok
returns-clause-ok c = λ sheet stands. finished c.in_ok-finish.field-0.items c.args.self sheet stands (c.in_ok-finish.ensures ∙ ap (λ (s : ScanProgress). ended s.front) c.self.view_is)

pub returns-clause-front : goal.returns-clause-front
returns-clause-front c = c.in_ok-finish.ensures ∙ ap (λ (s : ScanProgress). ended s.front) c.self.view_is
