-- What is received is what the fetcher that asks once received last.
use Rattle.tcp_fetcher.proofs.over_tcp.OverTcpReceiving.ask_received.Goals as goal

pub returns-clause-tries : goal.returns-clause-tries
returns-clause-tries g c = rw (← c.self.view_is) c.receive.ensures.tries
