use Rattle.std.proofs.Common.{refl, arith}
use Rattle.std.proofs.lemmas.Option.{slice_get_within}
use Rattle.work_queues.proofs.QueueLaws.{queue_within, member_within, number_read}
use Rattle.work_queues.proofs.Exchanges.{exchange_leaves, exchanged, exchange_moves}
use Rattle.work_queues.proofs.queues.Queues.exchange.Goals as goal

pub index_mut-requires : goal.index_mut-requires
index_mut-requires c =
    let lt = queue_within c.args.self.now.queues.items c.args.queue c.args.a c.requires.a in
    omega (arith, lt)

pub index-first-requires : goal.index-first-requires
index-first-requires c =
    let lt = queue_within c.args.self.now.queues.items c.args.queue c.args.a c.requires.a in
    let inside = member_within c.args.self.now.queues.items c.args.queue c.args.a c.index_mut.result.now lt c.index_mut.ensures.value c.requires.a in
    omega (arith, inside)

pub index-second-requires : goal.index-second-requires
index-second-requires c =
    let lt = queue_within c.args.self.now.queues.items c.args.queue c.args.a c.requires.a in
    let inside = member_within c.args.self.now.queues.items c.args.queue c.args.b c.index_mut.result.now lt c.index_mut.ensures.value c.requires.b in
    omega (arith, inside)

pub index_mut-requires-2 : goal.index_mut-requires-2
index_mut-requires-2 c =
    let lt = queue_within c.args.self.now.queues.items c.args.queue c.args.a c.requires.a in
    let inside = member_within c.args.self.now.queues.items c.args.queue c.args.a c.index_mut.result.now lt c.index_mut.ensures.value c.requires.a in
    omega (arith, inside)

pub index_mut-requires-3 : goal.index_mut-requires-3
index_mut-requires-3 c =
    let lt = queue_within c.args.self.now.queues.items c.args.queue c.args.a c.requires.a in
    let inside = member_within c.args.self.now.queues.items c.args.queue c.args.b c.index_mut.result.now lt c.index_mut.ensures.value c.requires.b in
    omega (arith, inside)

pub index_mut-requires-4 : goal.index_mut-requires-4
index_mut-requires-4 c =
    let lt = queue_within c.args.self.now.queues.items c.args.queue c.args.a c.requires.a in
    let number = number_read c.args.self.now.queues.items c.args.queue c.args.a c.index_mut.result.now c.index-first.result.now lt c.index_mut.ensures.value c.requires.a c.index-first.ensures in
    let inside = slice_get_within c.args.self.now.places.items c.index-first.result.now.number (record { queue = c.args.queue; place = c.args.a }) (c.requires.placed.found c.args.queue c.args.a c.index-first.result.now.number number) in
    omega (arith, inside)

pub index_mut-requires-5 : goal.index_mut-requires-5
index_mut-requires-5 c =
    let lt = queue_within c.args.self.now.queues.items c.args.queue c.args.a c.requires.a in
    let number = number_read c.args.self.now.queues.items c.args.queue c.args.b c.index_mut.result.now c.index-second.result.now lt c.index_mut.ensures.value c.requires.b c.index-second.ensures in
    let inside = slice_get_within c.args.self.now.places.items c.index-second.result.now.number (record { queue = c.args.queue; place = c.args.b }) (c.requires.placed.found c.args.queue c.args.b c.index-second.result.now.number number) in
    omega (arith, inside)

pub returns-clause-same : goal.returns-clause-same
returns-clause-same c =
    exchanged c.args.self.now _ c.args.queue c.args.a c.args.b c.index-first.result.now.number c.index-second.result.now.number c.requires.placed
    (exchange_leaves c.args.self.now _ c.args.queue c.args.a c.args.b c.index_mut.result.now _ c.index-first.result.now c.index-second.result.now c.requires.placed
    c.index_mut.ensures.value c.requires.a c.requires.b c.index-first.ensures c.index-second.ensures refl refl refl refl)
    c.requires.side refl refl

pub returns-clause-moved : goal.returns-clause-moved
returns-clause-moved c =
    let lt = queue_within c.args.self.now.queues.items c.args.queue c.args.a c.requires.a in
    exchange_moves c.args.self.now.queues.items c.args.queue c.args.a c.args.b c.index_mut.result.now _ c.index-first.result.now c.index-second.result.now lt
    c.index_mut.ensures.value c.requires.a c.requires.b c.index-first.ensures refl
