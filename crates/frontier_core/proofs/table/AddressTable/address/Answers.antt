use Rattle.std.proofs.Common.{◌≡◌, ◌<◌, length, arith}
use Rattle.frontier_core.specs.inner.Holdings.{entries_of}
use Rattle.frontier_core.proofs.HoldLaws.{length-entries, key_there}
use Rattle.frontier_core.proofs.table.AddressTable.address.Goals as goal

pub overflow_cast-i : goal.overflow_cast-i
overflow_cast-i c =
    let long : length (entries_of c.self.inside.labels.depths c.self.inside.progresses.items) ≡ length c.self.inside.labels.depths = length-entries c.self.inside.labels.depths c.self.inside.progresses.items c.self.invariant.0 in
    let held : c.args.i < length (entries_of c.self.inside.labels.depths c.self.inside.progresses.items) = rw (← c.self.view_is) at c.requires in
    let small = c.self.invariant.1 in
    omega arith

pub address-requires : goal.address-requires
address-requires c =
    let long : length (entries_of c.self.inside.labels.depths c.self.inside.progresses.items) ≡ length c.self.inside.labels.depths = length-entries c.self.inside.labels.depths c.self.inside.progresses.items c.self.invariant.0 in
    let held : c.args.i < length (entries_of c.self.inside.labels.depths c.self.inside.progresses.items) = rw (← c.self.view_is) at c.requires in
    omega arith

pub returns : goal.returns
returns c = rw (← c.self.view_is) (key_there c.self.inside.labels.depths c.self.inside.progresses.items c.args.i c.address.result.now c.self.invariant.0 c.address.ensures)
