-- If a chain is known the rules are by that; else by what the fetcher inside received last.
use Rattle.std.proofs.Common.{◌≡◌, None, ap, sym}
use Rattle.std.specs.Prelude.{option_map}
use Rattle.std.specs.Arc.{arc_value}
use Rattle.answer_notes.specs.HopChains.{rules_of_hops}
use Rattle.tcp_fetcher.specs.TcpFetching.{AreReceivedRules, TcpFetching, chain_known, conditioned}
use Rattle.tcp_fetcher.proofs.EarlierLaws.{by_known, by_none, if_ok_map}
use Rattle.tcp_fetcher.proofs.parts_over_tcp.PartsOverTcpFetcher.ask_robots.Goals as goal

pub returns-in-Some-clause-tries : goal.returns-in-Some-clause-tries
returns-in-Some-clause-tries g c =
    let inner = c.self.inside.inner in
    let after = c.rules_again.new.self.single in
    rw (← c.self.view_is)
    (by_known c.rules_again.result (chain_known (option_map arc_value c.self.inside.earlier) c.args.of.now)
    (λ r. AreReceivedRules inner.retries c.args.of.now (conditioned None inner.single) after r) (λ found r. (r ≡ rules_of_hops found.hops) × (after ≡ inner.single))
    c.in-Some.hops.now (sym c.in-Some.ensures.value)
    (if_ok_map c.rules_again.result _ _ c.rules_again.ensures.rules (λ r e. (e, ap (λ (f : TcpFetching). f.single) c.rules_again.ensures.same))))

pub returns-in-None-clause-tries : goal.returns-in-None-clause-tries
returns-in-None-clause-tries g c =
    let inner = c.self.inside.inner in
    let after = c.rules_received.new.self.single in
    rw (← c.self.view_is)
    (by_none c.rules_received.result (chain_known (option_map arc_value c.self.inside.earlier) c.args.of.now)
    (λ r. AreReceivedRules inner.retries c.args.of.now (conditioned None inner.single) after r) (λ found r. (r ≡ rules_of_hops found.hops) × (after ≡ inner.single))
    (sym c.in-None.ensures.value) c.rules_received.ensures.tries)
