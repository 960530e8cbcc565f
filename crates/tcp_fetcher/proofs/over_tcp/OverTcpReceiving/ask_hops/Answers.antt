-- What is received is what the fetcher that asks once received last, without a condition.
use Rattle.std.proofs.Common.{subst}
use Rattle.std.specs.Prelude.{IfOk}
use Rattle.fetcher.specs.declared.fetcher.Ask.TheVariants as ask
use Rattle.answer_notes.specs.HopChains.{rules_of_hops}
use Rattle.http_fetcher.specs.Meanings.{MayRule}
use Rattle.retries.specs.Keeping.{asks_of}
use Rattle.retries.specs.Tries.{IsLastOf}
use Rattle.retries.specs.Worth.{is_worth_hops}
use Rattle.tcp_fetcher.specs.TcpFetching.{TcpFetching, last_loss}
use Rattle.tcp_fetcher.proofs.over_tcp.OverTcpReceiving.ask_hops.Goals as goal

pub returns-clause-tries : goal.returns-clause-tries
returns-clause-tries g c =
    rw (← c.self.view_is)
    (subst (λ (f : TcpFetching). IfOk c.spaced_hops.result (λ found. IsLastOf asks_of last_loss (λ f found. MayRule f.links c.args.of.now (rules_of_hops found.hops))
    (λ found. is_worth_hops f.retries found.hops) (ask.Rules c.args.of.now) f.retries.most f.single c.spaced_hops.new.self.single found)) c.forget_condition.ensures c.spaced_hops.ensures.tries)
