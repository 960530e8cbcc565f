-- What the retrieval with one fetcher results in.
use Rattle.std.specs.Prelude.{◌≡◌, ◌≢◌, ◌≤◌, ℕ, List, length, Result, IfOk, IfErr}
use Rattle.follow_filters.specs.declared.plan.Plan.{Plan}
use Rattle.robots_rules.specs.Access.{RuleSetValue}
use Rattle.fetcher.specs.declared.fetcher.Ask.{Ask}
use Rattle.fetcher.specs.declared.outcome.Outcome.{Outcome}
use Rattle.frontier_core.specs.Tables.{Text}
use Rattle.frontier_core.specs.Routes.{HasTooMany}
use Rattle.frontier_core.specs.Plans.{policy}
use Rattle.frontier_core.specs.Machine.{answers}
use Rattle.frontier_core.specs.Invariants.{IsOverfull}
use Rattle.frontier_core.specs.declared.event.Cause.TheVariants as why
use Rattle.harvest.specs.Gathered.{AreEntries}
use Rattle.harvest.specs.Harvests.{Harvested}
use Rattle.workers.specs.declared.retrieval.Halt.{Halt}
use Rattle.workers.specs.Asks.{gained}
use Rattle.workers.specs.OneWorker.{AreByOne}
use Rattle.workers.specs.Retrieval.{IsRetrieved, IsStopped}

-- all that is said of it, whatever the site gives; its log was the first of these before, and is the second now
pub record ComesTo {B : Type 0} (may_say : Text → Outcome → B → Type 0) (may_rule : Text → RuleSetValue → Type 0) (plan : Plan) (old new : List Ask) (r : Result (Harvested B) (Halt B)) : Type 0 where
  pub ok : IfOk r (IsRetrieved may_say may_rule plan (gained old new))
  pub err : IfErr r (λ halt. IsStopped may_say may_rule plan (gained old new) halt.cause halt.harvest)
  pub full : IfErr r (λ halt. halt.cause ≡ why.Full → HasTooMany (policy plan) (answers halt.harvest.state) × IsOverfull (policy plan) halt.harvest.state)
  pub mismatch : IfErr r (λ halt. halt.cause ≢ why.Mismatch)
  pub few : IfOk r (λ h. length h.state.entries ≤ plan.max_urls)
  pub by_one : IfOk r (λ h. AreByOne h.trace) × IfErr r (λ halt. AreByOne halt.harvest.trace)
  pub entries : IfOk r AreEntries
