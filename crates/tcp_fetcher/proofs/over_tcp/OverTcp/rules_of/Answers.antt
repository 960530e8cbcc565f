-- What is answered is what the fetcher that asks once received last.
use Rattle.tcp_fetcher.proofs.over_tcp.OverTcp.rules_of.Goals as goal

pub returns-clause-tries : goal.returns-clause-tries
returns-clause-tries g c = rw (← c.self.view_is) c.ask_robots.ensures.tries

pub returns-then-self-clause-tries : goal.returns-then-self-clause-tries
returns-then-self-clause-tries g c = λ _. c.spaced_rules.ensures.tries
