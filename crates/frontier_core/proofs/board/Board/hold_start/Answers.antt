use Rattle.std.proofs.Common.{◌≡◌, ◌<◌, ◌+◌, ◌^◌, [], ◌∷◌, ◌++◌, length, Some, None, refl, sym, ap, subst, ◌∙◌, arith}
use Rattle.address.specs.Address.{origin_of}
use Rattle.frontier_core.specs.Tables.{lookup, put}
use Rattle.frontier_core.specs.inner.TableCalls.{key_numbered, IsDistinct}
use Rattle.frontier_core.specs.Machine.{State, Slot, Waiting, slot, with_entry}
use Rattle.frontier_core.specs.inner.Agendas.{IsListed, task_of}
use Rattle.frontier_core.specs.inner.Counters.{share_of, no_share, Recounts, IsTallied}
use Rattle.frontier_core.proofs.TableLaws.{distinct-put, key_held}
use Rattle.frontier_core.proofs.StartLaws.{put_again}
use Rattle.frontier_core.proofs.AgendaLaws.{listed_new}
use Rattle.frontier_core.proofs.Tallies.{tallied_new}
use Rattle.frontier_core.proofs.board.Board.hold_start.Goals as goal

pub returns-in-Some : goal.returns-in-Some
returns-in-Some c =
    let s : State = c.args.self.now in
    let (below, key) = c.in-Some.ensures.held in
    let (old, found) = key_held s.entries _ below in
    let held : lookup s.entries c.args.start.now ≡ Some old = ap (λ z. lookup s.entries z) (sym key) ∙ found in
    let is : old ≡ slot 0 Waiting = c.requires.waits old held in
    ap (λ z. record { entries = z; origins = s.origins; cause = s.cause })
    (sym (put_again s.entries c.args.start.now (slot 0 Waiting) (held ∙ ap (λ (z : Slot). Some z) is)))

pub invariant_of-self-2 : goal.invariant_of-self-2
invariant_of-self-2 c =
    let none : lookup c.self.inside.entries.entries c.args.start.now ≡ None = rw (← c.self.view_is) at c.in_default.ensures.absent in
    let v : Slot = slot 0 c.waiting-progress.result in
    let placed : c.add-2.new.self.entries ≡ put c.self.inside.entries.entries c.in-Ok-try_clone.address v = c.add-2.ensures.entries ∙ ap (λ z. put z c.in-Ok-try_clone.address v) c.reserve.ensures.entries in
    let absent : lookup c.self.inside.entries.entries c.in-Ok-try_clone.address ≡ None = ap (λ z. lookup c.self.inside.entries.entries z) c.in-Ok-try_clone.ensures ∙ none in
    let origin : c.in-Ok-of.origin ≡ origin_of c.in-Ok-try_clone.address = c.in-Ok-of.ensures ∙ ap origin_of (sym c.in-Ok-try_clone.ensures) in
    let added : c.add.new.self.items ≡ c.self.inside.agenda.items ++ record { origin = origin_of c.in-Ok-try_clone.address; task = task_of c.waiting-progress.result } ∷ [] =
    c.in-Ok-add.ensures.ok
    ∙ ap (λ z. c.self.inside.agenda.items ++ record { origin = z; task = c.task.result } ∷ []) origin
    ∙ ap (λ z. c.self.inside.agenda.items ++ record { origin = origin_of c.in-Ok-try_clone.address; task = z } ∷ []) c.task.ensures in
    let small : length (put c.self.inside.entries.entries c.in-Ok-try_clone.address v) < 2 ^ 32 = subst (λ z. length z < 2 ^ 32) placed c.add-2.ensures.small in
    let few : length (put c.self.inside.entries.entries c.in-Ok-try_clone.address v) < 2 ^ 63 = omega arith in
    let recounts : Recounts c.self.inside.counters no_share c.exchange.new.self (share_of c.waiting-progress.result) =
    subst (λ z. Recounts c.self.inside.counters no_share c.exchange.new.self z) c.share-share.ensures c.exchange.ensures in (
      subst (λ z. IsDistinct z) (sym placed) (distinct-put c.self.inside.entries.entries c.in-Ok-try_clone.address v c.self.invariant.0),
      c.self.invariant.1,
      subst (λ z. IsListed c.add.new.self.items z) (sym placed) (listed_new c.self.inside.agenda.items c.add.new.self.items c.self.inside.entries.entries c.in-Ok-try_clone.address v c.self.invariant.2 absent added),
      subst (λ z. IsTallied z c.self.inside.origins.entries c.exchange.new.self) (sym placed)
          (tallied_new c.self.inside.entries.entries c.self.inside.origins.entries c.self.inside.counters c.exchange.new.self c.in-Ok-try_clone.address v c.self.invariant.3 absent few recounts),
    )
