-- When what a run doesn't have is gone.
use Rattle.std.specs.Prelude.{◌≡◌, ◌≢◌, ◌&&◌, Bool, true, false, not, nat_eq, nat_le, List, [], All, IsTrue}
use Rattle.fetcher.specs.declared.outcome.Outcome.{Outcome}
use Rattle.fetcher.specs.declared.outcome.Outcome.TheVariants.{Fault, Leaf, Moved, Page}
use Rattle.harvest.specs.Harvests.{Harvested}
use Rattle.mirror_index.specs.Entries.{Entry}
use Rattle.mirror_index.specs.Indexes.{HasNone}

-- it isn't known what is there: there is no response, or one of a failure (RFC 9110, section 15.5) that doesn't say that nothing is there,
-- as 404 and 410 do
abbrev pub is_open : Outcome → Bool
is_open (Fault kind) = true
is_open (Leaf status) = nat_le 400 status && (not (nat_eq status 404) && not (nat_eq status 410))
is_open (Page status edges) = false
is_open (Moved status target) = false

-- some page was kept, it is known of each address what is there, and robots rules refuse none of the earlier pages
pub record IsSure {B : Type 0} (h : Harvested B) (earlier : List Entry) : Type 0 where
  pub kept : h.kept ≢ []
  pub answered : All (λ r. is_open r.1 ≡ false) h.records
  pub allowed : All (λ e. IsTrue e.refused → HasNone earlier e.address) h.entries
