-- Those stay that are of responses.
use Rattle.std.proofs.Common.{not, rules}
use Rattle.std.proofs.lemmas.Fn.{filter_same}
use Rattle.site_records.specs.inner.RecordNotes.{is_failure}
use Rattle.site_records.proofs.reading.leave_failures.Goals as goal

pub returns : goal.returns
returns c = filter_same _ (λ note. not (is_failure note)) _ (λ x b f k. search rules) _ _ c.retain.ensures.filtered
