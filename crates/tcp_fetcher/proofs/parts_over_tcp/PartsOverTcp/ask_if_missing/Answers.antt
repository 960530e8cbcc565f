-- If its file was changed, the page is requested.
use Rattle.std.proofs.Common.{None, inl, subst}
use Rattle.std.specs.Prelude.{IfOk}
use Rattle.tcp_fetcher.specs.Answering.{IsReceived, IsAnswerWith, lasting}
use Rattle.tcp_fetcher.specs.TcpFetching.{TcpFetching}
use Rattle.tcp_fetcher.proofs.EarlierLaws.{if_ok_map}
use Rattle.tcp_fetcher.proofs.parts_over_tcp.PartsOverTcp.ask_if_missing.Goals as goal

pub returns-in-None-clause-answered : goal.returns-in-None-clause-answered
returns-in-None-clause-answered g c =
    if_ok_map c.ask_noted.result _ _
    (subst (λ (f : TcpFetching). IfOk c.ask_noted.result (IsAnswerWith (lasting f) c.args.at.now (IsReceived (lasting f) c.args.at.now None f.single c.ask_noted.new.self.single))) c.replayed.ensures.fetcher c.ask_noted.ensures.received)
    (λ a told. (told.0, inl told.1))
