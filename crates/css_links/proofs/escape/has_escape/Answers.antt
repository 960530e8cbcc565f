use Rattle.std.proofs.Common.{sym, ◌∙◌}
use Rattle.css_links.proofs.Passing.{not_found}
use Rattle.css_links.proofs.escape.has_escape.Goals as goal

pub returns : goal.returns
returns c = λ none. not_found c.memchr.result c.args.raw.now c.memchr.ensures (sym c.is_some.ensures ∙ none)
