-- The last hop decides.
use Rattle.std.proofs.Common.{◌∙◌, arith}
use Rattle.pacing.specs.Retries.{retries_by}
use Rattle.retries.proofs.HopLemmas.{last_worth}
use Rattle.retries.proofs.worth.is_worth_hops.Goals as goal

pub returns-in-len1-up : goal.returns-in-len1-up
returns-in-len1-up c =
    c.is_worth.ensures ∙ last_worth (retries_by c.args.retries.now) c.args.loss c.args.hops.now.hops c.hops.result.now c.index-received.result c.hops.ensures.value (omega (arith, c.in-len1-up.len_at_least))
