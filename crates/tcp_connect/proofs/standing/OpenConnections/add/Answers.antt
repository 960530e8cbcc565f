use Rattle.std.proofs.Common.{◌≡◌, ◌∙◌, ◌+◌, ◌<◌, ◌++◌, ◌∷◌, [], List, length, true, false, None, ap, sym, refl}
use Rattle.std.specs.Prelude.{string_bytes}
use Rattle.tcp_connect.specs.Standing.{Stand, Pool, HasStandRoom}
use Rattle.tcp_connect.specs.declared.standing.TheConstants.{MOST}
use Rattle.tcp_connect.proofs.StandingLaws.{IsStandPool-add, next_is_fresh}
use Rattle.tcp_connect.proofs.standing.OpenConnections.add.Goals as goal

pub returns-then-not-has_room-clause-ok : goal.returns-then-not-has_room-clause-ok
returns-then-not-has_room-clause-ok g c = (
  λ room.
      let asked : HasStandRoom c.as_str.result.now c.args.most c.args.self.now = rw c.as_str.ensures.value room in
      let never : true ≡ false = sym (c.has_room.ensures.1 asked) ∙ c.if-not-has_room.true in
      cc,
  refl,
)

pub returns-then-not-has_room-clause-err : goal.returns-then-not-has_room-clause-err
returns-then-not-has_room-clause-err g c = tt

pub returns-then-not-has_room-clause-whole : goal.returns-then-not-has_room-clause-whole
returns-then-not-has_room-clause-whole g c =
    let opened : c.self.inside.places.items ≡ c.args.self.now.stands = ap (λ p. p.stands) c.self.view_is in
    rw (← opened) c.self.invariant.few

pub invariant_of-self : goal.invariant_of-self
invariant_of-self g c = rw c.in_default.ensures.items c.self.invariant

pub returns-in_default-clause-ok : goal.returns-in_default-clause-ok
returns-in_default-clause-ok g c = tt

pub returns-in_default-clause-err : goal.returns-in_default-clause-err
returns-in_default-clause-err g c =
    let with : List (Stand g.row.W.Denot) → Pool g.row.W.Denot = λ stands. record { stands = stands; entered = c.self.inside.entered } in
    ap with c.in_default.ensures.items ∙ c.self.view_is

pub returns-in_default-clause-whole : goal.returns-in_default-clause-whole
returns-in_default-clause-whole g c = (invariant_of-self g c).few

pub invariant_of-self-2 : goal.invariant_of-self-2
invariant_of-self-2 g c =
    let room : HasStandRoom c.as_str.result.now c.args.most c.args.self.now = c.has_room.ensures.0 c.if-not-has_room.false in
    let opened : c.self.inside.places.items ≡ c.args.self.now.stands = ap (λ p. p.stands) c.self.view_is in
    let few : length c.self.inside.places.items < MOST = rw opened room.whole in
    rw c.in-Ok.ensures.items (IsStandPool-add c.self.inside.places.items c.self.inside.entered _ c.self.invariant few refl)

pub returns-clause-ok : goal.returns-clause-ok
returns-clause-ok g c =
    let opened : c.self.inside.places.items ≡ c.args.self.now.stands = ap (λ p. p.stands) c.self.view_is in
    let stand : Stand g.row.W.Denot = record { number = c.self.inside.entered; of = string_bytes c.args.of; waiting = None } in
    let with : List (Stand g.row.W.Denot) → Pool g.row.W.Denot = λ stands. record { stands = stands; entered = c.self.inside.entered + 1 } in
    let next : Pool g.row.W.Denot → Pool g.row.W.Denot = λ p. record { stands = p.stands ++ stand ∷ []; entered = p.entered + 1 } in (
      rw (← c.as_str.ensures.value) (c.has_room.ensures.0 c.if-not-has_room.false),
      ap (λ p. p.entered) c.self.view_is,
      rw (← opened) (next_is_fresh c.self.inside.places.items c.self.inside.entered c.self.invariant),
      ap with c.in-Ok.ensures.items ∙ ap next c.self.view_is,
    )

pub returns-clause-err : goal.returns-clause-err
returns-clause-err g c = tt

pub returns-clause-whole : goal.returns-clause-whole
returns-clause-whole g c = (invariant_of-self-2 g c).few
