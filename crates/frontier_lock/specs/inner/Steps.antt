-- Which step of the frontier an answer that is handed over makes, and a permit that is given up.
use Rattle.std.specs.Prelude.{Option, Some, None}
use Rattle.frontier_core.specs.Machine.{Answer, Rule, Abandon, AbandonRules}
use Rattle.frontier_core.specs.Traced.{Traced, Makes, IsOutTo, IsAskedBy, Stops}
use Rattle.frontier_core.specs.declared.event.Cause.{Cause}
use Rattle.frontier_lock.specs.declared.lock.Done.{Done}
use Rattle.frontier_lock.specs.declared.lock.Done.TheVariants as done
use Rattle.frontier_lock.specs.declared.lock.HeldPermit.{HeldPermit}
use Rattle.frontier_lock.specs.declared.lock.HeldPermit.TheVariants as held

-- what was answered is recorded, for the permit's own worker
abbrev pub Records : Traced → Done → Traced → Type 0
Records old (done.Page permit outcome) new = Makes old (Answer permit.worker permit.address outcome) new
Records old (done.Rules permit rules) new = Makes old (Rule permit.worker permit.origin rules) new

-- the permit is out no more and the frontier stops; if there is none, or a stray one, it only stops
abbrev pub GivesPermitUp : Traced → Option HeldPermit → Cause → Traced → Type 0
GivesPermitUp old None cause new = Stops old cause new
GivesPermitUp old (Some (held.Page permit)) cause new =
    (IsOutTo old.state permit.number permit.worker permit.address → Makes old (Abandon permit.worker permit.address cause) new)
    × (¬ IsOutTo old.state permit.number permit.worker permit.address → Stops old cause new)
GivesPermitUp old (Some (held.Rules permit)) cause new =
    (IsAskedBy old.state permit.worker permit.origin → Makes old (AbandonRules permit.worker permit.origin cause) new)
    × (¬ IsAskedBy old.state permit.worker permit.origin → Stops old cause new)
