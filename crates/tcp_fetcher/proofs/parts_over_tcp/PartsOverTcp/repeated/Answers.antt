-- What is known is answered by the links and the limits of what asks.
use Rattle.std.proofs.Common.{sym}
use Rattle.std.specs.Prelude.{option_map}
use Rattle.std.specs.Arc.{arc_value}
use Rattle.response_reader.specs.Limits.{limited}
use Rattle.tcp_fetcher.specs.Answering.{lasting}
use Rattle.tcp_fetcher.proofs.EarlierLaws.{answer_repeated}
use Rattle.tcp_fetcher.proofs.parts_over_tcp.PartsOverTcp.repeated.Goals as goal

pub returns-clause-answered : goal.returns-clause-answered
returns-clause-answered g c =
    let fetcher = record c.self.inside.inner { known = option_map arc_value c.self.inside.earlier } in
    rw (← c.self.view_is)
    (answer_repeated (lasting fetcher) c.args.at.now fetcher.single c.in-Some.outcome.now (limited c.limits-limits.result) c.link_rules-links.result c.repeated.result c.limits-limits.ensures c.link_rules-links.ensures (sym c.in-Some.ensures) c.repeated.ensures)
