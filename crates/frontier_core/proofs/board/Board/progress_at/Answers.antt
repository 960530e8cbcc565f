use Rattle.frontier_core.specs.Machine.{slot}
use Rattle.frontier_core.proofs.IndexLaws.{value_found}
use Rattle.frontier_core.proofs.board.Board.progress_at.Goals as goal

pub returns : goal.returns
returns c =
    let at = c.progress.ensures in
    (at.0, rw (← c.self.view_is) (value_found c.self.inside.entries.entries c.args.i (slot at.0 c.progress.result.now) c.self.invariant.0 at.1).1)
