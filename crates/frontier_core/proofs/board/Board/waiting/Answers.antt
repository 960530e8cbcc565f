-- What is out to workers is left to do, and the rest of what is left waits.
use Rattle.std.proofs.Common.{arith}
use Rattle.frontier_core.specs.Machine.{State}
use Rattle.frontier_core.proofs.Tallies.{left_waits}
use Rattle.frontier_core.proofs.board.Board.waiting.Goals as goal

pub overflow_sub-result : goal.overflow_sub-result
overflow_sub-result c =
    let s : State = record { entries = c.self.inside.entries.entries; origins = c.self.inside.origins.entries; cause = c.self.inside.cause } in
    let left = left_waits s c.self.inside.counters c.self.invariant.3 in
    omega arith

pub returns : goal.returns
returns c =
    let s : State = record { entries = c.self.inside.entries.entries; origins = c.self.inside.origins.entries; cause = c.self.inside.cause } in
    let left = left_waits s c.self.inside.counters c.self.invariant.3 in
    rw (← c.self.view_is) (omega arith)
