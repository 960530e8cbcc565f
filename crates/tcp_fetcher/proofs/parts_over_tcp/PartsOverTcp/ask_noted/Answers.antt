-- What is received last is so without the digest of its body.
use Rattle.fetcher.specs.declared.fetcher.Ask.TheVariants as ask
use Rattle.tcp_fetcher.specs.Answering.{without_digest}
use Rattle.tcp_fetcher.specs.TcpFetching.{conditioned, last_loss}
use Rattle.tcp_fetcher.proofs.EarlierLaws.{last_without, stands_received, stands_without}
use Rattle.tcp_fetcher.proofs.parts_over_tcp.PartsOverTcp.ask_noted.Goals as goal

pub returns-clause-received : goal.returns-clause-received
returns-clause-received g c =
    let inner = c.self.inside.inner in
    rw (c.taken.ensures, ← c.self.view_is) (
      stands_received inner.limits inner.links c.args.at.now (without_digest c.in_ok-answer.answer)
          (stands_without inner.limits inner.links c.args.at.now c.in_ok-answer.answer c.in_ok-answer.ensures.told),
      (c.in_ok-answer.ensures.sent, last_without last_loss inner.limits c.args.at.now inner.retries (ask.Page c.args.at.now) inner.retries.most (conditioned c.args.condition inner.single) c.ask_noted.new.self.single c.in_ok-answer.answer c.in_ok-answer.ensures.tries),
    )
