use Rattle.std.proofs.Common.{◌≡◌, ◌<◌, ◌≤◌, ◌∙◌, ap, sym, refl, length, None}
use Rattle.std.specs.Prelude.{slice_get}
use Rattle.std.proofs.lemmas.Option.{slice_get_within}
use Rattle.tcp_connect.specs.Standing.{IsFirst, EndsFirst, waits_for, count_to}
use Rattle.tcp_connect.specs.declared.standing.TheConstants.{MOST}
use Rattle.tcp_connect.proofs.StandingLaws.{EndsFirst-waits_for, MakesRoom-full, MakesRoom-whole, MakesRoom-none}
use Rattle.tcp_connect.proofs.standing.OpenConnections.make_room.Goals as goal

pub returns-in_err-at : goal.returns-in_err-at
returns-in_err-at g c =
    let opened : c.self.inside.places.items ≡ c.args.self.now.stands = ap (λ p. p.stands) c.self.view_is in
    let counted : c.deref.result.now ≡ c.args.self.now.stands = c.deref.ensures.value ∙ opened in
    let lent : c.deref-then-count-most.result.now ≡ c.args.self.now.stands = c.deref-then-count-most.ensures.value ∙ opened in
    let many : c.args.most ≤ count_to c.args.self.now.stands c.args.of.now = rw (← counted, ← c.count.ensures) c.if-count-most.true in
    let ends : EndsFirst (waits_for c.args.of.now) c.args.self.now None c.args.self.now = rw (← lent) (c.in_err-at.ensures, refl) in
    rw c.from_residual.ensures (MakesRoom-full c.args.of.now c.args.most c.args.self.now c.args.self.now None many ends)

pub remove-requires : goal.remove-requires
remove-requires g c =
    let lent : c.deref-then-count-most.result.now ≡ c.args.self.now.stands = c.deref-then-count-most.ensures.value ∙ ap (λ p. p.stands) c.self.view_is in
    rw (← lent) (slice_get_within c.deref-then-count-most.result.now c.in_ok-at.at c.in_ok-at.ensures.0 c.in_ok-at.ensures.1.there)

pub returns-then-count-most : goal.returns-then-count-most
returns-then-count-most g c =
    let opened : c.self.inside.places.items ≡ c.args.self.now.stands = ap (λ p. p.stands) c.self.view_is in
    let counted : c.deref.result.now ≡ c.args.self.now.stands = c.deref.ensures.value ∙ opened in
    let lent : c.deref-then-count-most.result.now ≡ c.args.self.now.stands = c.deref-then-count-most.ensures.value ∙ opened in
    let many : c.args.most ≤ count_to c.args.self.now.stands c.args.of.now = rw (← counted, ← c.count.ensures) c.if-count-most.true in
    let first : IsFirst (waits_for c.args.of.now) c.args.self.now.stands c.in_ok-at.at c.in_ok-at.ensures.0 = rw (← lent) c.in_ok-at.ensures.1 in
    let ends = EndsFirst-waits_for c.args.of.now c.args.self.now c.remove.new.self c.in_ok-at.at c.in_ok-at.ensures.0 c.remove.result first c.remove.ensures in
    MakesRoom-full c.args.of.now c.args.most c.args.self.now c.remove.new.self c.remove.result many ends

pub returns-then-len-ge-MOST : goal.returns-then-len-ge-MOST
returns-then-len-ge-MOST g c =
    let opened : c.self.inside.places.items ≡ c.args.self.now.stands = ap (λ p. p.stands) c.self.view_is in
    let counted : c.deref.result.now ≡ c.args.self.now.stands = c.deref.ensures.value ∙ opened in
    let few : count_to c.args.self.now.stands c.args.of.now < c.args.most = rw (← counted, ← c.count.ensures) c.if-count-most.false in
    let long : length c.deref.result.now ≡ c.len.result = c.deref.ensures.len ∙ sym c.len.ensures in
    let many : MOST ≤ length c.args.self.now.stands = rw (← counted, long) c.if-len-ge-MOST.true in
    MakesRoom-whole c.args.of.now c.args.most c.args.self.now c.take_oldest.new.self c.take_oldest.result few many c.take_oldest.ensures

pub returns : goal.returns
returns g c =
    let opened : c.self.inside.places.items ≡ c.args.self.now.stands = ap (λ p. p.stands) c.self.view_is in
    let counted : c.deref.result.now ≡ c.args.self.now.stands = c.deref.ensures.value ∙ opened in
    let few : count_to c.args.self.now.stands c.args.of.now < c.args.most = rw (← counted, ← c.count.ensures) c.if-count-most.false in
    let long : length c.deref.result.now ≡ c.len.result = c.deref.ensures.len ∙ sym c.len.ensures in
    let room : length c.args.self.now.stands < MOST = rw (← counted, long) c.if-len-ge-MOST.false in
    MakesRoom-none c.args.of.now c.args.most c.args.self.now few room
