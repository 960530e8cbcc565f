use Rattle.std.proofs.Common.{◌≡◌, ap, inl, inr, refl}
use Rattle.std.proofs.lemmas.Option.{slice_get_within}
use Rattle.tcp_connect.proofs.standing.OpenConnections.leave.Goals as goal

pub remove-requires : goal.remove-requires
remove-requires g c =
    let opened : c.self.inside.places.items ≡ c.args.self.now.stands = ap (λ p. p.stands) c.self.view_is in
    let lent : c.args.self.now.stands ≡ c.deref.result.now = cc in
    rw lent (slice_get_within c.deref.result.now c.in-Some.at c.in-Some.ensures.0 c.in-Some.ensures.1.there)

pub returns-in-Some : goal.returns-in-Some
returns-in-Some g c =
    let opened : c.self.inside.places.items ≡ c.args.self.now.stands = ap (λ p. p.stands) c.self.view_is in
    let lent : c.args.self.now.stands ≡ c.deref.result.now = cc in
    inr (c.in-Some.at, c.in-Some.ensures.0, rw lent c.in-Some.ensures.1, c.remove.ensures.3)

pub returns-in_default : goal.returns-in_default
returns-in_default g c =
    let opened : c.self.inside.places.items ≡ c.args.self.now.stands = ap (λ p. p.stands) c.self.view_is in
    let lent : c.args.self.now.stands ≡ c.deref.result.now = cc in
    inl (rw lent c.in_default.ensures, refl)
