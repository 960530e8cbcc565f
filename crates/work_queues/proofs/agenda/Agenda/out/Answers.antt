use Rattle.std.proofs.Common.{◌<◌, ℕ, length, sym, ◌∙◌}
use Rattle.std.proofs.lemmas.List.{length-map}
use Rattle.address.specs.Address.{OriginText}
use Rattle.work_queues.specs.Lists.{item_of}
use Rattle.work_queues.proofs.QueueLaws.{read}
use Rattle.work_queues.proofs.ListLaws.{item_at, out_is, unmapped}
use Rattle.work_queues.proofs.agenda.Agenda.out.Goals as goal

pub returns : goal.returns
returns c = rw (← c.self.view_is)
    (let lt : c.args.number < length c.self.inside.lists.jobs.items = simp length-map at (rw (← c.self.view_is) at c.requires) in
    let at = read c.self.inside.lists.jobs.items c.args.number c.index.result.now lt c.index.ensures in
    let within = c.self.invariant.within c.args.number c.index.result.now at in
    let entry = unmapped (λ (e : OriginText × ℕ). e.1) c.self.inside.lists.origins.entries c.index.result.now.origin c.index-2.result.now c.index-2.ensures in (
      item_of c.self.inside.lists.origins.entries c.index.result.now,
      item_at c.self.inside.lists c.args.number c.index.result.now at,
      entry.2 ∙ c.self.invariant.out c.index.result.now.origin entry.0 entry.1
          ∙ sym (out_is c.self.inside.lists.origins.entries c.index.result.now.origin within c.self.invariant.distinct c.self.inside.lists.jobs.items c.self.invariant.within),
    ))
