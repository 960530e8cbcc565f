-- The log is that of what the crew retrieved.
use Rattle.retriever.proofs.LogLaws.{crew_taken}
use Rattle.retriever.proofs.live_order.run_into.Goals as goal

pub returns-clause-logged : goal.returns-clause-logged
returns-clause-logged g c =
    crew_taken g.F.Fetcher c.args.order.now c.args.fetchers.items c.live_shown-status.result.1 c.log_of.result _ _ c.live_shown-status.ensures.retrieved c.log_of.ensures.log c.hand_over.ensures
