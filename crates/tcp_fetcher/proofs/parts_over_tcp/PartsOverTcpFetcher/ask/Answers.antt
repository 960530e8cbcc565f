-- What is answered is answered after the page was noted.
use Rattle.std.specs.Prelude.{option_map}
use Rattle.std.specs.Arc.{arc_value}
use Rattle.tcp_fetcher.proofs.EarlierLaws.{answered_noted, if_ok_map}
use Rattle.tcp_fetcher.proofs.parts_over_tcp.PartsOverTcpFetcher.ask.Goals as goal

pub returns-clause-told : goal.returns-clause-told
returns-clause-told g c =
    rw (← c.self.view_is)
    (if_ok_map c.ask_any-answer.result _ _ (answered_noted (option_map arc_value c.self.inside.earlier) c.self.inside.inner c.note_ask.new.self _ c.args.at.now c.ask_any-answer.result c.ask_any-answer.new.self.single c.in_ok-note_ask.ensures.asked c.ask_any-answer.ensures.answered)
    (λ a told. told.0))

pub returns-clause-tries : goal.returns-clause-tries
returns-clause-tries g c =
    rw (← c.self.view_is)
    (if_ok_map c.ask_any-answer.result _ _ (answered_noted (option_map arc_value c.self.inside.earlier) c.self.inside.inner c.note_ask.new.self _ c.args.at.now c.ask_any-answer.result c.ask_any-answer.new.self.single c.in_ok-note_ask.ensures.asked c.ask_any-answer.ensures.answered)
    (λ a told. told.1))
