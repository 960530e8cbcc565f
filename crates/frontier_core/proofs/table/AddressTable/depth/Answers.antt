use Rattle.std.proofs.Common.{◌≡◌, ◌<◌, length, sym, arith}
use Rattle.frontier_core.specs.inner.Holdings.{entries_of}
use Rattle.frontier_core.proofs.HoldLaws.{length-entries, depth_there}
use Rattle.frontier_core.proofs.table.AddressTable.depth.Goals as goal

pub overflow_cast-i : goal.overflow_cast-i
overflow_cast-i c =
    let long : length (entries_of c.self.inside.labels.depths c.self.inside.progresses.items) ≡ length c.self.inside.labels.depths = length-entries c.self.inside.labels.depths c.self.inside.progresses.items c.self.invariant.0 in
    let held : c.args.i < length (entries_of c.self.inside.labels.depths c.self.inside.progresses.items) = rw (← c.self.view_is) at c.requires in
    let small = c.self.invariant.1 in
    omega arith

pub depth-requires : goal.depth-requires
depth-requires c =
    let long : length (entries_of c.self.inside.labels.depths c.self.inside.progresses.items) ≡ length c.self.inside.labels.depths = length-entries c.self.inside.labels.depths c.self.inside.progresses.items c.self.invariant.0 in
    let held : c.args.i < length (entries_of c.self.inside.labels.depths c.self.inside.progresses.items) = rw (← c.self.view_is) at c.requires in
    omega arith

pub returns : goal.returns
returns c = rw (← c.self.view_is) (depth_there c.self.inside.labels.depths c.self.inside.progresses.items c.args.i c.depth.result c.self.invariant.0 (sym c.depth.ensures))
