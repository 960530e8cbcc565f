use Rattle.std.proofs.Common.{◌≡◌, ◌∙◌, ap, refl}
use Rattle.std.specs.Prelude.{slice_get}
use Rattle.std.proofs.lemmas.Option.{slice_get_within}
use Rattle.tcp_connect.specs.Standing.{IsFirst, waits}
use Rattle.tcp_connect.proofs.StandingLaws.{EndsFirst-removes}
use Rattle.tcp_connect.proofs.standing.OpenConnections.take_oldest.Goals as goal

pub returns-in_err-at : goal.returns-in_err-at
returns-in_err-at g c =
    let lent : c.deref.result.now ≡ c.args.self.now.stands = c.deref.ensures.value ∙ ap (λ p. p.stands) c.self.view_is in
    rw (c.from_residual.ensures, ← lent) (c.in_err-at.ensures, refl)

pub remove-requires : goal.remove-requires
remove-requires g c =
    let lent : c.deref.result.now ≡ c.args.self.now.stands = c.deref.ensures.value ∙ ap (λ p. p.stands) c.self.view_is in
    rw (← lent) (slice_get_within c.deref.result.now c.in_ok-at.at c.in_ok-at.ensures.0 c.in_ok-at.ensures.1.there)

pub returns : goal.returns
returns g c =
    let lent : c.deref.result.now ≡ c.args.self.now.stands = c.deref.ensures.value ∙ ap (λ p. p.stands) c.self.view_is in
    let first : IsFirst waits c.args.self.now.stands c.in_ok-at.at c.in_ok-at.ensures.0 = rw (← lent) c.in_ok-at.ensures.1 in
    EndsFirst-removes waits c.args.self.now c.remove.new.self c.in_ok-at.at c.in_ok-at.ensures.0 c.remove.result first first.passes c.remove.ensures
