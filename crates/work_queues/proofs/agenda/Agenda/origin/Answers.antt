use Rattle.std.proofs.Common.{◌≡◌, ◌<◌, ℕ, [], length, Some, sym}
use Rattle.std.specs.Prelude.{slice_get}
use Rattle.std.proofs.lemmas.List.{length-map}
use Rattle.std.proofs.lemmas.Option.{get_or_from_slice_get}
use Rattle.address.specs.Address.{OriginText}
use Rattle.work_queues.specs.Lists.{texts, item_of}
use Rattle.work_queues.proofs.QueueLaws.{read}
use Rattle.work_queues.proofs.ListLaws.{item_at, mapped}
use Rattle.work_queues.proofs.agenda.Agenda.origin.Goals as goal

pub returns : goal.returns
returns c = rw (← c.self.view_is)
    (let lt : c.args.number < length c.self.inside.lists.jobs.items = simp length-map at (rw (← c.self.view_is) at c.requires) in
    let at = read c.self.inside.lists.jobs.items c.args.number c.index.result.now lt c.index.ensures in
    let key : slice_get (texts c.self.inside.lists.origins.entries) c.index.result.now.origin ≡ Some c.in-Some.origin.now =
    mapped (λ (e : OriginText × ℕ). e.0) c.self.inside.lists.origins.entries c.index.result.now.origin (c.in-Some.origin.now, c.in-Some.field-0-1.now) (sym c.in-Some.ensures.entry) in (
      item_of c.self.inside.lists.origins.entries c.index.result.now,
      item_at c.self.inside.lists c.args.number c.index.result.now at,
      sym (get_or_from_slice_get (texts c.self.inside.lists.origins.entries) c.index.result.now.origin c.in-Some.origin.now [] key),
    ))
