-- What is received last is one that the site may give.
use Rattle.tcp_fetcher.proofs.EarlierLaws.{if_ok_both, stands_received}
use Rattle.tcp_fetcher.proofs.parts_over_tcp.PartsOverTcp.ask_passing.Goals as goal

pub returns-clause-received : goal.returns-clause-received
returns-clause-received g c =
    let inner = c.self.inside.inner in
    rw (← c.self.view_is)
    (if_ok_both c.ask_noted.result _ _ _ c.ask_noted.ensures.told c.ask_noted.ensures.tries
    (λ a told tries. (stands_received inner.limits inner.links c.args.at.now a told, (c.ask_noted.ensures.sent, tries))))
