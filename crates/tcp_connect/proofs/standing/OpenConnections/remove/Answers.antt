use Rattle.std.proofs.Common.{◌≡◌, ◌<◌, ◌∙◌, List, Some, ap, sym, arith, length, slice_get}
use Rattle.std.specs.Prelude.{remove}
use Rattle.std.proofs.lemmas.Option.{slice_get-get_or}
use Rattle.tcp_connect.specs.Standing.{Stand, Pool}
use Rattle.tcp_connect.proofs.StandingLaws.{IsStandPool-remove}
use Rattle.tcp_connect.proofs.standing.OpenConnections.remove.Goals as goal

pub remove-requires : goal.remove-requires
remove-requires g c =
    let opened : c.self.inside.places.items ≡ c.args.self.now.stands = ap (λ p. p.stands) c.self.view_is in
    let within : c.args.at < length c.self.inside.places.items = rw opened c.requires in
    omega (arith, within, c.self.inside.places.ok.0)

pub invariant_of-self : goal.invariant_of-self
invariant_of-self g c =
    let opened : c.self.inside.places.items ≡ c.args.self.now.stands = ap (λ p. p.stands) c.self.view_is in
    rw c.remove.ensures.items (IsStandPool-remove c.self.inside.places.items c.self.inside.entered c.args.at c.self.invariant (rw opened c.requires))

pub returns : goal.returns
returns g c =
    let opened : c.self.inside.places.items ≡ c.args.self.now.stands = ap (λ p. p.stands) c.self.view_is in
    let there : slice_get c.self.inside.places.items c.args.at ≡ Some c.remove.result =
    slice_get-get_or c.self.inside.places.items c.args.at c.remove.result (rw opened c.requires) ∙ ap Some (sym c.remove.ensures.value) in
    let with : List (Stand g.row.W.Denot) → Pool g.row.W.Denot = λ stands. record { stands = stands; entered = c.self.inside.entered } in
    let without : Pool g.row.W.Denot → Pool g.row.W.Denot = λ p. record { stands = remove p.stands c.args.at; entered = p.entered } in
    (c.remove.result, rw (← opened) there, c.into_waiting.ensures, ap with c.remove.ensures.items ∙ ap without c.self.view_is)
