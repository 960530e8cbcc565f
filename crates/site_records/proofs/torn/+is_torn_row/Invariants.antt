-- Each hop leaves one less to look at.
use Rattle.site_records.proofs.torn.+is_torn_row.Given as goal

abbrev pub decreases-is_torn_row : goal.decreases-is_torn_row
decreases-is_torn_row l = l.count
