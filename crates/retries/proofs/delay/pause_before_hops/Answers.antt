-- The last hop decides.
use Rattle.std.proofs.Common.{◌∙◌, arith}
use Rattle.pacing.specs.Retries.{retries_by}
use Rattle.retries.proofs.HopLemmas.{last_pause}
use Rattle.retries.proofs.delay.pause_before_hops.Goals as goal

pub returns-in-len1-up : goal.returns-in-len1-up
returns-in-len1-up c =
    c.pause_before.ensures ∙ last_pause (retries_by c.args.retries.now) c.args.made c.args.now c.args.hops.now.hops c.hops.result.now c.index-received.result c.hops.ensures.value (omega (arith, c.in-len1-up.len_at_least))
