use Rattle.std.proofs.Common.{rules, ◌≡◌, refl, [], ◌∷◌}
use Rattle.std.specs.Prelude.{codes}
use Rattle.html_links.specs.Links.{link_table, row}
use Rattle.html_links.specs.inner.Rows.{rows_with}
use Rattle.html_links.specs.declared.table.LinkForm.TheVariants as form
use Rattle.html_links.proofs.table.rows_with.Goals as goal

rows_of_i : rows_with 105 link_table
    ≡ row 13 (codes "img") (codes "src") form.Shown ∷ row 14 (codes "img") (codes "srcset") form.Set ∷ row 15 (codes "img") (codes "longdesc") form.Link ∷ row 16 (codes "img") (codes "lowsrc") form.Shown
    ∷ row 17 (codes "iframe") (codes "src") form.Shown ∷ row 18 (codes "input") (codes "src") form.Button ∷ row 19 (codes "input") (codes "formaction") form.Mention
    ∷ row 20 (codes "ins") (codes "cite") form.Mention ∷ row 21 (codes "image") (codes "href") form.Shown ∷ row 22 (codes "image") (codes "xlink:href") form.Shown ∷ []
unfolding link_table
rows_of_i = refl

pub returns-in-105 : goal.returns-in-105
unfolding link_table
returns-in-105 c = rw rows_of_i (search rules)
