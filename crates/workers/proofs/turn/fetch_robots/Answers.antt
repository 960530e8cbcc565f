-- A permit that is given up was requested.
use Rattle.std.proofs.Common.{refl}
use Rattle.std.proofs.lemmas.Bool.{false≢true}
use Rattle.workers.proofs.turn.fetch_robots.Goals as goal

pub unreachable-requires : goal.unreachable-requires
unreachable-requires g c = absurd (false≢true (c.in-Err-robots_answer.ensures.asked.1 c.requires))

pub returns-in-Ok-robots_answer : goal.returns-in-Ok-robots_answer
returns-in-Ok-robots_answer g c = record {
  site = c.ask_robots.ensures.site;
  ok = (c.in-Ok.rules, rw c.origin.ensures at c.in-Ok.ensures.told, c.in-Ok-robots_answer.ensures.ok);
  asked = rw c.origin.ensures at c.in-Ok.ensures.asked;
  err = tt;
  refused = tt;
  cause = tt;
}

pub returns-in-Err : goal.returns-in-Err
returns-in-Err g c = record {
  site = c.ask_robots.ensures.site;
  ok = tt;
  asked = tt;
  err = c.abandon_robots.ensures.out c.requires;
  refused = rw c.origin.ensures at c.in-Err.ensures.refused;
  cause = refl;
}
