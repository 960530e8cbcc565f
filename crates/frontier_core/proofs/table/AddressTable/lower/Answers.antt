use Rattle.std.proofs.Common.{◌≡◌, ◌<◌, length, set, sym, ap, subst, ◌∙◌, arith}
use Rattle.frontier_core.specs.inner.Holdings.{entries_of}
use Rattle.std.proofs.lemmas.List.{length-set}
use Rattle.frontier_core.specs.Machine.{slot}
use Rattle.indexmap.specs.IndexMap.{set_value_at}
use Rattle.frontier_core.proofs.HoldLaws.{length-entries, length-lowered, progress_there, lower_there, falls}
use Rattle.frontier_core.proofs.table.AddressTable.lower.Goals as goal

pub overflow_cast-i : goal.overflow_cast-i
overflow_cast-i c =
    let long : length (entries_of c.self.inside.labels.depths c.self.inside.progresses.items) ≡ length c.self.inside.labels.depths = length-entries c.self.inside.labels.depths c.self.inside.progresses.items c.self.invariant.0 in
    let held : c.args.i < length (entries_of c.self.inside.labels.depths c.self.inside.progresses.items) = rw (← c.self.view_is) at c.requires.place in
    let small = c.self.invariant.1 in
    omega arith

pub offer_at-requires : goal.offer_at-requires
offer_at-requires c =
    let long : length (entries_of c.self.inside.labels.depths c.self.inside.progresses.items) ≡ length c.self.inside.labels.depths = length-entries c.self.inside.labels.depths c.self.inside.progresses.items c.self.invariant.0 in
    let held : c.args.i < length (entries_of c.self.inside.labels.depths c.self.inside.progresses.items) = rw (← c.self.view_is) at c.requires.place in
    omega arith

pub index_mut-requires : goal.index_mut-requires
index_mut-requires c =
    let long : length (entries_of c.self.inside.labels.depths c.self.inside.progresses.items) ≡ length c.self.inside.labels.depths = length-entries c.self.inside.labels.depths c.self.inside.progresses.items c.self.invariant.0 in
    let held : c.args.i < length (entries_of c.self.inside.labels.depths c.self.inside.progresses.items) = rw (← c.self.view_is) at c.requires.place in
    let same = c.self.invariant.0 in
    let items = c.self.inside.progresses.ok.0 in
    omega arith

pub invariant_of-self : goal.invariant_of-self
invariant_of-self c =
    let long : length (entries_of c.self.inside.labels.depths c.self.inside.progresses.items) ≡ length c.self.inside.labels.depths = length-entries c.self.inside.labels.depths c.self.inside.progresses.items c.self.invariant.0 in
    let held : c.args.i < length (entries_of c.self.inside.labels.depths c.self.inside.progresses.items) = rw (← c.self.view_is) at c.requires.place in
    let same = c.self.invariant.0 in
    let there = progress_there c.self.inside.labels.depths c.self.inside.progresses.items c.args.i c.index_mut.result.now c.self.invariant.0 (omega arith) c.index_mut.ensures.value in
    let labels : length c.offer_at.new.self.depths ≡ length c.self.inside.labels.depths = ap length (c.offer_at.ensures.depths there.0 there.1) ∙ length-lowered c.self.inside.labels.depths c.args.i c.args.depth there.0 in
    let progresses : length (set c.self.inside.progresses.items c.args.i c.begin_again.new.self) ≡ length c.self.inside.progresses.items = length-set c.self.inside.progresses.items c.args.i c.begin_again.new.self in
    (labels ∙ same ∙ sym progresses, subst (λ z. z < 4294967296) (sym labels) c.self.invariant.1)

pub returns : goal.returns
returns c =
    let long : length (entries_of c.self.inside.labels.depths c.self.inside.progresses.items) ≡ length c.self.inside.labels.depths = length-entries c.self.inside.labels.depths c.self.inside.progresses.items c.self.invariant.0 in
    let held : c.args.i < length (entries_of c.self.inside.labels.depths c.self.inside.progresses.items) = rw (← c.self.view_is) at c.requires.place in
    let same = c.self.invariant.0 in
    let there = progress_there c.self.inside.labels.depths c.self.inside.progresses.items c.args.i c.index_mut.result.now c.self.invariant.0 (omega arith) c.index_mut.ensures.value in
    let less : c.args.depth < there.0 = (rw (← c.self.view_is) at c.requires.less) (slot there.0 c.index_mut.result.now) there.2 in
    let labels : c.offer_at.new.self.depths ≡ set_value_at c.self.inside.labels.depths c.args.i c.args.depth = c.offer_at.ensures.depths there.0 there.1 ∙ falls c.self.inside.labels.depths c.args.i c.args.depth there.0 less in
    rw (← c.self.view_is) (
      slot there.0 c.index_mut.result.now,
      there.2,
      ap (λ z. entries_of z (set c.self.inside.progresses.items c.args.i c.begin_again.new.self)) labels
          ∙ lower_there c.self.inside.labels.depths c.self.inside.progresses.items c.args.i c.args.depth c.begin_again.new.self
          ∙ ap (λ z. set_value_at (entries_of c.self.inside.labels.depths c.self.inside.progresses.items) c.args.i (slot c.args.depth z)) c.begin_again.ensures,
    )
