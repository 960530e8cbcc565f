use Rattle.std.proofs.Common.{sym, ◌∙◌}
use Rattle.html_links.proofs.Names.{begun_otherwise}
use Rattle.html_links.proofs.lexer.attributes.begins_styling.Goals as goal

pub returns-in-len1-up : goal.returns-in-len1-up
returns-in-len1-up c = λ e name. begun_otherwise c.args.front.now _ c.in-len1-up.len_at_least (sym c.may_begin_styling.ensures ∙ e) name
