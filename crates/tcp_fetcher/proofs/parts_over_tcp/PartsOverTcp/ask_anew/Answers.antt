-- A page that isn't kept is answered by what is received.
use Rattle.tcp_fetcher.specs.Answering.{lasting}
use Rattle.tcp_fetcher.proofs.EarlierLaws.{kept_anew}
use Rattle.tcp_fetcher.proofs.parts_over_tcp.PartsOverTcp.ask_anew.Goals as goal

pub returns-else-keeps-clause-answered : goal.returns-else-keeps-clause-answered
returns-else-keeps-clause-answered g c =
    kept_anew (lasting c.args.self.now) c.args.at.now c.args.self.now.single c.ask_passing.new.self.single c.ask_passing.result c.ask_passing.ensures.received
