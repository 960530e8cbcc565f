-- An answer with the same outcome is that again.
use Rattle.response_reader.specs.Limits.{limited}
use Rattle.tcp_fetcher.proofs.EarlierLaws.{repeated_in}
use Rattle.tcp_fetcher.proofs.page_taker.PageTaker.repeated.Goals as goal

pub returns-then-same : goal.returns-then-same
returns-then-same g c =
    rw (c.not_received.ensures)
    (repeated_in (limited c.args.limits) c.args.links c.args.at.now c.args.outcome.now c.in_ok-answer.answer (c.same.ensures.0 c.if-same.true) c.in_ok-answer.ensures.may)
