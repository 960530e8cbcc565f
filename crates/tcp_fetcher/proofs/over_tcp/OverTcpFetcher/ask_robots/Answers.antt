-- What is answered is what the fetcher that asks once received last, without a condition.
use Rattle.std.proofs.Common.{◌<◌, subst}
use Rattle.std.specs.Prelude.{IfOk}
use Rattle.tcp_fetcher.specs.TcpFetching.{AreReceivedRules, TcpFetching}
use Rattle.tcp_fetcher.proofs.over_tcp.OverTcpFetcher.ask_robots.Goals as goal

pub returns-clause-tries : goal.returns-clause-tries
returns-clause-tries g c =
    rw (← c.self.view_is)
    (subst (λ (f : TcpFetching). 0 < f.retries.most → IfOk c.rules_of.result (AreReceivedRules f.retries c.args.of.now f.single c.rules_of.new.self.single)) c.forget_condition.ensures c.rules_of.ensures.tries)
