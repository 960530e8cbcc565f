-- Fewer redirects are left to follow.
use Rattle.link_changes.proofs.links.Links.+landed_within.Given as goal

abbrev pub decreases-landed_within : goal.decreases-landed_within
decreases-landed_within g l = l.most
