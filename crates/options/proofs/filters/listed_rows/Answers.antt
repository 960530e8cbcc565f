-- A list names an attribute that has no link, or the rows are those that both lists leave.
use Rattle.std.proofs.Common.{◌≡◌, ◌||◌, List, ℕ, Option, Some, None, ap, refl, false, true}
use Rattle.std.specs.Prelude.{MatchOption}
use Rattle.html_links.specs.Rules.{has_unknown, taken_by}
use Rattle.html_links.specs.declared.rules.RowSet.{RowSet}
use Rattle.options.specs.Order.{taken_if}
use Rattle.options.proofs.filters.listed_rows.Goals as goal

taken-is : (followed ignored : List ℕ) (r : Option RowSet)
    → MatchOption r ((has_unknown followed || has_unknown ignored) ≡ true) (λ set. ((has_unknown followed || has_unknown ignored) ≡ false) × (set ≡ taken_by followed ignored))
    → r ≡ taken_if followed ignored
taken-is followed ignored None unknown = rw unknown refl
taken-is followed ignored (Some set) known = rw known.0 (ap Some known.1)

pub returns : goal.returns
returns c = taken-is c.args.followed.now c.args.ignored.now c.from_lists.result c.from_lists.ensures
