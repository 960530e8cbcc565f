use Rattle.std.proofs.Common.{refl, ap, arith}
use Rattle.std.proofs.Math.Seq.{map-set_same}
use Rattle.work_queues.specs.declared.queues.Member.{Member}
use Rattle.work_queues.proofs.QueueLaws.{queue_within, member_within, read}
use Rattle.work_queues.proofs.Resizes.{relabelled}
use Rattle.work_queues.proofs.queues.Queues.relabel.Goals as goal

pub index_mut-requires : goal.index_mut-requires
index_mut-requires c =
    let lt = queue_within c.args.self.now.queues.items c.args.queue c.args.place c.requires.place in
    omega (arith, lt)

pub index_mut-member-requires : goal.index_mut-member-requires
index_mut-member-requires c =
    let lt = queue_within c.args.self.now.queues.items c.args.queue c.args.place c.requires.place in
    let inside = member_within c.args.self.now.queues.items c.args.queue c.args.place c.index_mut.result.now lt c.index_mut.ensures.value c.requires.place in
    omega (arith, inside)

pub returns : goal.returns
returns c =
    let lt = queue_within c.args.self.now.queues.items c.args.queue c.args.place c.requires.place in
    relabelled c.args.self.now _ c.args.queue c.index_mut.result.now _ c.requires.placed (read c.args.self.now.queues.items c.args.queue c.index_mut.result.now lt c.index_mut.ensures.value)
    refl
    (map-set_same (λ (m : Member). m.number) c.index_mut.result.now.members.items c.args.place _ c.index_mut-member.result.now (ap (λ (m : Member). m.number) c.index_mut-member.ensures.value))
    refl refl refl refl
