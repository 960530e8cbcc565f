-- Those stay that aren't faults.
use Rattle.std.proofs.Common.{rules}
use Rattle.indexmap.proofs.CallerLemmas.{filter-RetainsPairs}
use Rattle.site_records.proofs.reading.leave_faults.Goals as goal

pub returns : goal.returns
returns c = filter-RetainsPairs _ _ _ (λ k v b w g call. search rules) _ _ c.retain.ensures.filtered
