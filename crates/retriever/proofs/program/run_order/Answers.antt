-- The source says which of the two it is.
use Rattle.std.proofs.Common.{inl, inr, refl, sym, ◌∙◌}
use Rattle.retriever.proofs.LogLaws.{logged_more}
use Rattle.retriever.proofs.ProgramLaws.{map_is_not_live, record_is_not_live}
use Rattle.retriever.proofs.program.run_order.Goals as goal

pub returns-in-Live : goal.returns-in-Live
returns-in-Live g c = record {
  runs = λ not words says. absurd (not c.in-Live.is);
  lives = λ is words says. inl (c.args.order.now, (says, is), c.live_order.ensures.lives);
  unread = λ is. refl;
  logged = logged_more _ _ _ _ c.live_order.ensures.logged (λ text log. inl (c.in-Live.is, log));
}

pub returns-in-Map : goal.returns-in-Map
returns-in-Map g c = record {
  runs = λ not. c.run_and_log.ensures.runs;
  lives = λ is words says. absurd (map_is_not_live (sym c.in-Map.is ∙ is));
  unread = λ is. absurd (map_is_not_live (sym c.in-Map.is ∙ is));
  logged = logged_more _ _ _ _ c.run_and_log.ensures.logged (λ text log. inr log);
}

pub returns-in-Recorded : goal.returns-in-Recorded
returns-in-Recorded g c = record {
  runs = λ not. c.run_and_log-in-Recorded.ensures.runs;
  lives = λ is words says. absurd (record_is_not_live (sym c.in-Recorded.is ∙ is));
  unread = λ is. absurd (record_is_not_live (sym c.in-Recorded.is ∙ is));
  logged = logged_more _ _ _ _ c.run_and_log-in-Recorded.ensures.logged (λ text log. inr log);
}
