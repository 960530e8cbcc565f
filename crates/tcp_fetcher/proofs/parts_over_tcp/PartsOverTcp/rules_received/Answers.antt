-- The rules are by what the fetcher inside received last; if it may not be asked again, it was asked once.
use Rattle.response_answer.proofs.DigestLemmas.{if_ok_map}
use Rattle.fetcher.specs.declared.fetcher.Ask.TheVariants as ask
use Rattle.answer_notes.specs.HopChains.{rules_of_hops}
use Rattle.http_fetcher.specs.Fetching.{Fetching}
use Rattle.http_fetcher.specs.Meanings.{MayRule}
use Rattle.retries.specs.Keeping.{asks_of}
use Rattle.retries.specs.Worth.{is_worth_hops}
use Rattle.tcp_connect.specs.Connecting.{Connecting}
use Rattle.tcp_fetcher.specs.TcpFetching.{last_loss}
use Rattle.tcp_fetcher.proofs.EarlierLaws.{on_ok, once_if_last}
use Rattle.tcp_fetcher.proofs.parts_over_tcp.PartsOverTcp.rules_received.Goals as goal

pub returns-clause-once : goal.returns-clause-once
returns-clause-once g c =
    rw (← c.self.view_is)
    (λ none. on_ok c.rules.result
    (once_if_last {F = Fetching Connecting} asks_of last_loss (λ f found. MayRule f.links c.args.of.now (rules_of_hops found.hops)) (λ found. is_worth_hops c.self.inside.inner.retries found.hops)
    (ask.Rules c.args.of.now) _ _ _ c.in_ok-hops.hops none c.in_ok-hops.ensures.tries))

pub returns-clause-tries : goal.returns-clause-tries
returns-clause-tries g c = rw (← c.self.view_is) (if_ok_map c.rules.result _ _ c.rules.ensures (λ r e. (c.in_ok-hops.hops, e, c.in_ok-hops.ensures.tries)))
