-- Rows of the table by their places.
use Rattle.std.proofs.Common.{◌≡◌, ◌<◌, ℕ, Bool, List, [], length, map, get_or, refl, sym, ap, subst, ◌∙◌}
use Rattle.std.proofs.lemmas.List.{get_or-map, length-map}
use Rattle.std.specs.List.{range_with_len}
use Rattle.html_links.specs.Links.{Row, link_table, row}
use Rattle.html_links.specs.declared.table.LinkForm.TheVariants as form
use Rattle.html_links.specs.declared.table.LinkRow as declared
use Rattle.html_links.specs.inner.Rows.{named}

-- the row at that place
abbrev pub row_at : ℕ → Row
row_at k = get_or link_table k (row 0 [] [] form.Link)

pub row_named : (rows : List declared.LinkRow) (k : ℕ) (d : declared.LinkRow) → map named rows ≡ link_table → k < 45 → named (get_or rows k d) ≡ row_at k
unfolding link_table
row_named rows k d is below =
    let long : length rows ≡ 45 = sym (length-map rows named) ∙ ap (λ (rs : List Row). length rs) is in
    sym (get_or-map named rows k d (row 0 [] [] form.Link) (subst (λ n. k < n) (sym long) below)) ∙ ap (λ (rs : List Row). get_or rs k (row 0 [] [] form.Link)) is

-- they are the table
pub all_rows : (f : Row → Bool) → map (λ k. f (row_at k)) (range_with_len 0 45) ≡ map f link_table
unfolding link_table
all_rows f = refl
