use Rattle.std.proofs.Common.{subst, arith}
use Rattle.frontier_core.specs.Routes.{HasTooMany}
use Rattle.frontier_core.specs.Machine.{answers}
use Rattle.frontier_core.specs.Traced.{Traced}
use Rattle.frontier_core.specs.Plans.{policy}
use Rattle.frontier_core.proofs.Runs.{sound_replay, kept_replay, plain_replay}
use Rattle.frontier_core.proofs.Shallow.{shallow_replay}
use Rattle.frontier_core.proofs.Crowded.{crowded}
use Rattle.frontier_core.proofs.frontier.Frontier.is_overfull.Goals as goal

pub is_overfull-requires : goal.is_overfull-requires
is_overfull-requires c u held found =
    let p = policy c.self.inside.plan in
    let few = (sound_replay p c.self.inside.trace.items c.self.inside.board c.self.inside.plan.starts_in_range c.self.invariant.0).few in
    let most = c.self.inside.plan.max_urls_in_range in
    let label = shallow_replay p c.self.inside.trace.items c.self.inside.board c.self.invariant.0 u held found in
    omega arith

pub returns-clause-crowded : goal.returns-clause-crowded
returns-clause-crowded c so =
    let p = policy c.self.inside.plan in
    subst (λ (t : Traced). HasTooMany (policy t.plan) (answers t.state)) c.self.view_is
    (crowded p c.self.inside.board (kept_replay p c.self.inside.trace.items c.self.inside.board c.self.invariant.0)
    (plain_replay p c.self.inside.trace.items c.self.inside.board c.self.invariant.0).0 (c.is_overfull.ensures.0 so))
