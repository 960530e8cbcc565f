-- The rows so far are taken or not.
use Rattle.std.proofs.Common.{◌≡◌, ◌<◌, ℕ, false, length, get_or}
use Rattle.html_links.specs.Rules.{takes_row}
use Rattle.html_links.proofs.Listing.{row_at}
use Rattle.html_links.proofs.lists.takes_rows.Given as goal

abbrev pub invariant-loop-place : goal.invariant-loop-place
invariant-loop-place l = (length l.taken ≡ 45) × ((k : ℕ) → k < l.place → get_or l.taken k false ≡ takes_row l.followed l.ignored (row_at k))
