use Rattle.std.proofs.Common.{◌≡◌, ◌<◌, length, ap, ◌∙◌, arith}
use Rattle.frontier_core.specs.inner.Holdings.{entries_of}
use Rattle.frontier_core.specs.Machine.{slot}
use Rattle.indexmap.specs.IndexMap.{set_value_at}
use Rattle.frontier_core.proofs.HoldLaws.{length-entries, progress_there, set_there}
use Rattle.frontier_core.proofs.table.AddressTable.mark_spread.Goals as goal

pub index_mut-requires : goal.index_mut-requires
index_mut-requires c =
    let long : length (entries_of c.self.inside.labels.depths c.self.inside.progresses.items) ≡ length c.self.inside.labels.depths = length-entries c.self.inside.labels.depths c.self.inside.progresses.items c.self.invariant.0 in
    let held : c.args.i < length (entries_of c.self.inside.labels.depths c.self.inside.progresses.items) = rw (← c.self.view_is) at c.requires in
    let same = c.self.invariant.0 in
    let items = c.self.inside.progresses.ok.0 in
    omega arith

pub returns : goal.returns
returns c =
    let long : length (entries_of c.self.inside.labels.depths c.self.inside.progresses.items) ≡ length c.self.inside.labels.depths = length-entries c.self.inside.labels.depths c.self.inside.progresses.items c.self.invariant.0 in
    let held : c.args.i < length (entries_of c.self.inside.labels.depths c.self.inside.progresses.items) = rw (← c.self.view_is) at c.requires in
    let same = c.self.invariant.0 in
    let there = progress_there c.self.inside.labels.depths c.self.inside.progresses.items c.args.i c.index_mut.result.now c.self.invariant.0 (omega arith) c.index_mut.ensures.value in
    rw (← c.self.view_is) (slot there.0 c.index_mut.result.now, there.2, set_there c.self.inside.labels.depths c.self.inside.progresses.items c.args.i there.0 (c.mark_spread.new.self) there.1 ∙ ap (λ z. set_value_at (entries_of c.self.inside.labels.depths c.self.inside.progresses.items) c.args.i (slot there.0 z)) c.mark_spread.ensures)
