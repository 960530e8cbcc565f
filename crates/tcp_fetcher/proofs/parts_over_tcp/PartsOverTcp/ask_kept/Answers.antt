-- The page is by what is known.
use Rattle.std.proofs.Common.{◌∙◌, Some, ap, sym}
use Rattle.tcp_fetcher.specs.Answering.{lasting}
use Rattle.tcp_fetcher.specs.TcpFetching.{TcpFetching}
use Rattle.tcp_fetcher.proofs.EarlierLaws.{kept_anew, kept_known}
use Rattle.tcp_fetcher.proofs.parts_over_tcp.PartsOverTcp.ask_kept.Goals as goal

pub returns-in-Some-clause-answered : goal.returns-in-Some-clause-answered
returns-in-Some-clause-answered g c =
    let known = ap (λ (f : TcpFetching). f.known) (sym c.self.view_is) ∙ c.in-Some.ensures ∙ ap Some (sym c.deref.ensures) in
    kept_known (lasting c.args.self.now) c.args.at.now c.args.self.now.single c.ask_known.new.self.single c.deref.result.now c.ask_known.result known c.ask_known.ensures.answered

pub returns-in-None-clause-answered : goal.returns-in-None-clause-answered
returns-in-None-clause-answered g c =
    kept_anew (lasting c.args.self.now) c.args.at.now c.args.self.now.single c.ask_noted.new.self.single c.ask_noted.result c.ask_noted.ensures.received
