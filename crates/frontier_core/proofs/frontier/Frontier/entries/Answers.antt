use Rattle.frontier_core.specs.Plans.{policy}
use Rattle.frontier_core.proofs.Runs.{sound_replay}
use Rattle.frontier_core.proofs.frontier.Frontier.entries.Goals as goal

pub returns-clause-once : goal.returns-clause-once
returns-clause-once c =
    rw (← c.self.view_is) (sound_replay (policy c.self.inside.plan) c.self.inside.trace.items c.self.inside.board c.self.inside.plan.starts_in_range c.self.invariant.0).addresses
