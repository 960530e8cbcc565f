-- Looking at what is known changes nothing.
use Rattle.std.proofs.Common.{subst}
use Rattle.std.specs.Prelude.{IfOk}
use Rattle.tcp_fetcher.specs.Answering.{IsAnswered, IsAnswerWith, lasting}
use Rattle.tcp_fetcher.specs.TcpFetching.{TcpFetching}
use Rattle.tcp_fetcher.proofs.parts_over_tcp.PartsOverTcp.ask_any.Goals as goal

pub returns-in-None-clause-answered : goal.returns-in-None-clause-answered
returns-in-None-clause-answered g c =
    subst (λ (f : TcpFetching). IfOk c.ask_anew.result (IsAnswerWith (lasting f) c.args.at.now (IsAnswered (lasting f) c.args.at.now f.single c.ask_anew.new.self.single))) c.repeated.ensures.fetcher c.ask_anew.ensures.answered
