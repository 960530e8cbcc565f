-- What proofs alone need beside `Views`.
use Rattle.std.specs.Prelude.{ℕ, Bool, true, false, Option, Some, None}
use Rattle.frontier_core.specs.Machine.{Progress, Parked, Waiting, Out, Answered, Refused, Holder, Worker, Nobody, Offering, Due, Offered, OriginRules, Asked, Known}
use Rattle.frontier_core.specs.declared.progress.ProgressKind.{ProgressKind}
use Rattle.frontier_core.specs.declared.progress.ProgressKind.TheVariants as progress
use Rattle.frontier_core.specs.declared.robots.Kept.{Kept}
use Rattle.frontier_core.specs.declared.robots.Kept.TheVariants as kept

-- due, or not
abbrev pub offering_if : Bool → Offering
offering_if true = Due
offering_if false = Offered

-- a worker by its number, or nobody
abbrev pub holder_of : Option ℕ → Holder
holder_of (Some worker) = Worker worker
holder_of None = Nobody

-- how far the work on an address has come
abbrev pub progress_of : ProgressKind → Progress
progress_of progress.Parked = Parked
progress_of progress.Waiting = Waiting
progress_of (progress.Out holder) = Out (holder_of holder)
progress_of (progress.Answered outcome is_due) = Answered outcome (offering_if is_due)
progress_of progress.Refused = Refused

-- what is known of an origin's rules
abbrev pub origin_rules_of : Kept → OriginRules
origin_rules_of (kept.Asked holder) = Asked (holder_of holder)
origin_rules_of (kept.Known rules) = Known rules
