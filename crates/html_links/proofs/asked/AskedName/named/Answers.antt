use Rattle.html_links.proofs.Rows.{named_by, none_named}
use Rattle.html_links.proofs.asked.AskedName.named.Goals as goal

pub returns-in-empty : goal.returns-in-empty
returns-in-empty c = none_named c.args.name.now c.in-empty.len_below

pub returns-in-len1-up : goal.returns-in-len1-up
returns-in-len1-up c = rw (named_by c.args.name.now _ _ c.in-len1-up.len_at_least c.names_with.ensures) at c.find.ensures
