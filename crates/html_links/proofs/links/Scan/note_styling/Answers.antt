use Rattle.std.proofs.Common.{sym, ◌∙◌}
use Rattle.html_links.proofs.Asking.{unstyled}
use Rattle.html_links.proofs.links.Scan.note_styling.Goals as goal

pub returns-else-has_styling-clause-links : goal.returns-else-has_styling-clause-links
returns-else-has_styling-clause-links c = unstyled c.args.self.now.links.items c.args.attributes.now (sym c.has_styling.ensures ∙ c.if-has_styling.false)
