-- What the counters of the tables say: how many permits are out to workers, and how much is left to do.
use Rattle.std.specs.Prelude.{◌≡◌, ◌+◌, ◌<◌, ◌≤◌, ◌^◌, Bool, false, not, List, length, count_by}
use Rattle.work_queues.specs.inner.Lists.{one}
use Rattle.frontier_core.specs.Tables.{Text}
use Rattle.frontier_core.specs.Machine.{Slot, Progress, OriginRules, is_done, is_known}
use Rattle.frontier_core.specs.Owed.{is_out_to_worker, is_asked}
use Rattle.frontier_core.specs.declared.counters.Share.{Share}
use Rattle.frontier_core.specs.declared.counters.Counters.{Counters}

-- something is left to do for the address
abbrev pub is_left : Progress → Bool
is_left q = not (is_done q)

-- the rules are requested, and not known
abbrev pub is_unknown : OriginRules → Bool
is_unknown rules = not (is_known rules)

-- what an address adds
abbrev pub share_of : Progress → Share
share_of q = record { is_out = is_out_to_worker q; is_left = is_left q }

-- what an origin's rules add
abbrev pub origin_share : OriginRules → Share
origin_share rules = record { is_out = is_asked rules; is_left = is_unknown rules }

-- what isn't there adds nothing
abbrev pub no_share : Share
no_share = record { is_out = false; is_left = false }

-- the share is counted, and there is room to count one more
pub record HasShare (counters : Counters) (share : Share) : Type 0 where
  pub out : one share.is_out ≤ counters.out
  pub left : one share.is_left ≤ counters.left
  pub more_out : counters.out + 1 < 2 ^ 64
  pub more_left : counters.left + 1 < 2 ^ 64

-- one share is counted in place of another
pub record Recounts (before : Counters) (old : Share) (after : Counters) (new : Share) : Type 0 where
  pub out : after.out + one old.is_out ≡ before.out + one new.is_out
  pub left : after.left + one old.is_left ≡ before.left + one new.is_left

-- the counters are exact, and the tables no longer than memory allows
pub record IsTallied (entries : List (Text × Slot)) (origins : List (Text × OriginRules)) (counters : Counters) : Type 0 where
  pub out : counters.out ≡ count_by (λ entry. is_out_to_worker entry.1.progress) entries + count_by (λ origin. is_asked origin.1) origins
  pub left : counters.left ≡ count_by (λ entry. is_left entry.1.progress) entries + count_by (λ origin. is_unknown origin.1) origins
  pub few : length entries < 2 ^ 63
  pub few_origins : length origins < 2 ^ 63
