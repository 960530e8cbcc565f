use Rattle.std.proofs.Common.{◌≡◌, ◌<◌, length, arith}
use Rattle.frontier_core.specs.inner.Holdings.{entries_of}
use Rattle.frontier_core.proofs.HoldLaws.{length-entries, progress_there}
use Rattle.frontier_core.proofs.table.AddressTable.progress.Goals as goal

pub index-requires : goal.index-requires
index-requires c =
    let long : length (entries_of c.self.inside.labels.depths c.self.inside.progresses.items) ≡ length c.self.inside.labels.depths = length-entries c.self.inside.labels.depths c.self.inside.progresses.items c.self.invariant.0 in
    let held : c.args.i < length (entries_of c.self.inside.labels.depths c.self.inside.progresses.items) = rw (← c.self.view_is) at c.requires in
    let same = c.self.invariant.0 in
    let items = c.self.inside.progresses.ok.0 in
    omega arith

pub returns : goal.returns
returns c =
    let long : length (entries_of c.self.inside.labels.depths c.self.inside.progresses.items) ≡ length c.self.inside.labels.depths = length-entries c.self.inside.labels.depths c.self.inside.progresses.items c.self.invariant.0 in
    let held : c.args.i < length (entries_of c.self.inside.labels.depths c.self.inside.progresses.items) = rw (← c.self.view_is) at c.requires in
    let same = c.self.invariant.0 in
    let there = progress_there c.self.inside.labels.depths c.self.inside.progresses.items c.args.i c.index.result.now c.self.invariant.0 (omega arith) c.index.ensures in
    rw (← c.self.view_is) (there.0, there.2)
