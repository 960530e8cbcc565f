-- The page is by an entry of what is known.
use Rattle.std.proofs.Common.{inl}
use Rattle.tcp_fetcher.specs.Answering.{lasting}
use Rattle.tcp_fetcher.proofs.EarlierLaws.{if_ok_map, known_changed, known_missing}
use Rattle.tcp_fetcher.proofs.parts_over_tcp.PartsOverTcp.ask_known.Goals as goal

pub returns-in_default-clause-answered : goal.returns-in_default-clause-answered
returns-in_default-clause-answered g c = if_ok_map c.ask_noted.result _ _ c.ask_noted.ensures.received (λ a told. (told.0, inl told.1))

pub returns-then-earlier-clause-answered : goal.returns-then-earlier-clause-answered
returns-then-earlier-clause-answered g c =
    known_changed (lasting c.args.self.now) c.args.at.now c.args.self.now.single c.ask_if_changed.new.self.single c.args.earlier.now c.in-Some.page.entry c.ask_if_changed.result c.in-Some.ensures c.if-earlier.true c.ask_if_changed.ensures.answered

pub returns-else-earlier-clause-answered : goal.returns-else-earlier-clause-answered
returns-else-earlier-clause-answered g c =
    known_missing (lasting c.args.self.now) c.args.at.now c.args.self.now.single c.ask_if_missing.new.self.single c.args.earlier.now c.in-Some.page.entry c.ask_if_missing.result c.in-Some.ensures c.if-earlier.false c.ask_if_missing.ensures.answered
