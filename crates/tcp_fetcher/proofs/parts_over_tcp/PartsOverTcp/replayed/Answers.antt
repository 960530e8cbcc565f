-- What is read again is by the links and the limits of what asks.
use Rattle.response_reader.specs.Limits.{limited}
use Rattle.tcp_fetcher.specs.Answering.{lasting}
use Rattle.tcp_fetcher.proofs.EarlierLaws.{recorded_by}
use Rattle.tcp_fetcher.proofs.parts_over_tcp.PartsOverTcp.replayed.Goals as goal

pub returns-clause-recorded : goal.returns-clause-recorded
returns-clause-recorded g c =
    rw (← c.self.view_is)
    (recorded_by (lasting c.self.inside.inner) c.args.at.now c.args.page.entry (limited c.limits-limits.result) c.link_rules-links.result c.replayed.result c.limits-limits.ensures c.link_rules-links.ensures c.replayed.ensures)
