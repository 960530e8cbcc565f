use Rattle.html_links.specs.Links.{table_links, link_table}
use Rattle.html_links.proofs.Rows.{asked_of, links_by, none_asked, no_links, row_by, no_row}
use Rattle.html_links.proofs.table.rows_for.Goals as goal

pub returns-in-empty-clause-asked : goal.returns-in-empty-clause-asked
returns-in-empty-clause-asked c = none_asked c.args.name.now c.in-empty.len_below

pub returns-in-empty-clause-links : goal.returns-in-empty-clause-links
returns-in-empty-clause-links c = λ attributes. no_links c.args.name.now attributes c.in-empty.len_below

pub returns-in-len1-up-clause-asked : goal.returns-in-len1-up-clause-asked
returns-in-len1-up-clause-asked c = asked_of c.args.name.now link_table _ _ c.in-len1-up.len_at_least c.rows_with.ensures

pub returns-in-len1-up-clause-links : goal.returns-in-len1-up-clause-links
unfolding table_links
returns-in-len1-up-clause-links c = λ attributes. links_by c.args.name.now attributes link_table _ _ c.in-len1-up.len_at_least c.rows_with.ensures

pub returns-in-empty-clause-row : goal.returns-in-empty-clause-row
returns-in-empty-clause-row c = λ attribute. no_row c.args.name.now attribute c.in-empty.len_below

pub returns-in-len1-up-clause-row : goal.returns-in-len1-up-clause-row
returns-in-len1-up-clause-row c = λ attribute. row_by c.args.name.now attribute link_table _ _ c.in-len1-up.len_at_least c.rows_with.ensures
