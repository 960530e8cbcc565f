use Rattle.std.proofs.Common.{◌≡◌, [], ◌∷◌, ◌++◌, length, set, Some, ap, ◌∙◌, arith}
use Rattle.std.specs.Prelude.{slice_get}
use Rattle.std.proofs.lemmas.List.{length-map}
use Rattle.work_queues.specs.Lists.{items_of, key_at}
use Rattle.work_queues.specs.declared.task.Task.TheVariants.{Done}
use Rattle.work_queues.proofs.Additions.{get-append_last}
use Rattle.work_queues.proofs.SetLaws.{set-append_last}
use Rattle.work_queues.proofs.agenda.Agenda.add.Goals as goal

pub returns-clause-ok : goal.returns-clause-ok
returns-clause-ok c = rw (← c.self.view_is)
    (let before : items_of c.reserve.new.self ≡ items_of c.self.inside.lists = c.in_ok-reserve.ensures.items ∙ c.in_ok-place.ensures.items in
    let key : key_at c.reserve.new.self.origins.entries c.in_ok-place.place ≡ c.args.origin = ap (λ z. key_at z.entries c.in_ok-place.place) c.in_ok-reserve.ensures.origins ∙ c.in_ok-place.ensures.ok.1 in
    let added : items_of c.append.new.self ≡ items_of c.self.inside.lists ++ record { origin = c.args.origin; task = Done } ∷ [] =
    c.append.ensures.items ∙ ap (λ z. z ++ record { origin = key_at c.reserve.new.self.origins.entries c.in_ok-place.place; task = Done } ∷ []) before
    ∙ ap (λ z. items_of c.self.inside.lists ++ record { origin = z; task = Done } ∷ []) key in
    let len : c.len-number.result ≡ length (items_of c.self.inside.lists) = simp length-map (omega arith) in
    let at : slice_get (items_of c.append.new.self) c.len-number.result ≡ Some (record { origin = c.args.origin; task = Done }) =
    ap (λ z. slice_get z c.len-number.result) added
    ∙ ap (λ z. slice_get (items_of c.self.inside.lists ++ record { origin = c.args.origin; task = Done } ∷ []) z) len
    ∙ get-append_last (items_of c.self.inside.lists) (record { origin = c.args.origin; task = Done }) in
    c.set.ensures (record { origin = c.args.origin; task = Done }) at
    ∙ ap (λ z. set z c.len-number.result (record { origin = c.args.origin; task = c.args.task })) added
    ∙ ap (λ z. set (items_of c.self.inside.lists ++ record { origin = c.args.origin; task = Done } ∷ []) z (record { origin = c.args.origin; task = c.args.task })) len
    ∙ set-append_last (items_of c.self.inside.lists) (record { origin = c.args.origin; task = Done }) (record { origin = c.args.origin; task = c.args.task }))
