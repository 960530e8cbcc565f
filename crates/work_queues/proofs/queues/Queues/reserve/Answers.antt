use Rattle.std.proofs.Common.{◌<◌, length, map, IfSome, vec_len, vec_capacity, refl, sym, ap, subst, arith}
use Rattle.work_queues.specs.declared.queues.Member.{Member}
use Rattle.work_queues.specs.declared.queues.Queue.{Queue}
use Rattle.work_queues.proofs.QueueLaws.{read, get-set_same}
use Rattle.work_queues.proofs.Resizes.{relabelled}
use Rattle.work_queues.proofs.queues.Queues.reserve.Goals as goal

pub returns-in_err-reserve-clause-same : goal.returns-in_err-reserve-clause-same
returns-in_err-reserve-clause-same c =
    let lt : c.args.queue < length c.args.self.now.queues.items = omega arith in
    relabelled c.args.self.now _ c.args.queue c.index_mut.result.now _ c.requires.placed (read c.args.self.now.queues.items c.args.queue c.index_mut.result.now lt c.index_mut.ensures.value)
    refl (ap (λ z. map (λ (m : Member). m.number) z) c.in_err-reserve.ensures.items) refl refl refl refl

pub returns-in_err-reserve-2-clause-same : goal.returns-in_err-reserve-2-clause-same
returns-in_err-reserve-2-clause-same c =
    let lt : c.args.queue < length c.args.self.now.queues.items = omega arith in
    relabelled c.args.self.now _ c.args.queue c.index_mut.result.now _ c.requires.placed (read c.args.self.now.queues.items c.args.queue c.index_mut.result.now lt c.index_mut.ensures.value)
    refl (ap (λ z. map (λ (m : Member). m.number) z) c.in_ok-reserve.ensures.items) refl c.in_err-reserve-2.ensures.items c.in_err-reserve-2.ensures.len refl

pub returns-clause-same : goal.returns-clause-same
returns-clause-same c =
    let lt : c.args.queue < length c.args.self.now.queues.items = omega arith in
    relabelled c.args.self.now _ c.args.queue c.index_mut.result.now _ c.requires.placed (read c.args.self.now.queues.items c.args.queue c.index_mut.result.now lt c.index_mut.ensures.value)
    refl (ap (λ z. map (λ (m : Member). m.number) z) c.in_ok-reserve.ensures.items) refl c.in_ok-reserve-2.ensures.items c.in_ok-reserve-2.ensures.len refl

pub returns-clause-room : goal.returns-clause-room
returns-clause-room c =
    let lt : c.args.queue < length c.args.self.now.queues.items = omega arith in
    let members = c.in_ok-reserve.ensures in
    let places = c.in_ok-reserve-2.ensures in
    record {
      places = omega (arith, places.len, places.ok);
      members = let room : vec_len c.reserve.new.self < vec_capacity c.reserve.new.self = omega (arith, members.len, members.ok) in
          subst (λ z. IfSome z (λ (here : Queue). vec_len here.members < vec_capacity here.members))
          (sym (get-set_same c.args.self.now.queues.items c.args.queue (record { members = c.reserve.new.self; queued = c.index_mut.result.now.queued }) lt)) room;
      within = omega (arith, lt);
    }
