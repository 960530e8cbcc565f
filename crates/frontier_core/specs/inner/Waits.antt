-- What proofs alone need beside `Waits`.
use Rattle.frontier_core.specs.Routes.{Policy}
use Rattle.frontier_core.specs.Machine.{State, IsRunning, IsQuiet}
use Rattle.frontier_core.specs.Traced.{HasDue, HasRules, HasWaitingPage}

-- others are at work: nothing stopped it, nothing is due, no rules and no page may be taken, and yet something is left to do
abbrev pub IsBusy : Policy → State → Type 0
IsBusy p s = IsRunning s × (¬ HasDue s) × (¬ HasRules p s) × (¬ HasWaitingPage p s) × (¬ IsQuiet s)
