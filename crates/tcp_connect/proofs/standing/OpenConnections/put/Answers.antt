use Rattle.std.proofs.Common.{◌≡◌, ◌∙◌, List, [], ◌∷◌, ◌++◌, Some, ap, cond, get_or, slice_get, arith, refl, IsOk}
use Rattle.std.specs.Prelude.{remove}
use Rattle.std.proofs.lemmas.Option.{get_or_from_slice_get, slice_get_within}
use Rattle.tcp_connect.specs.Standing.{Stand, Pool}
use Rattle.tcp_connect.proofs.StandingLaws.{IsStandPool-move}
use Rattle.tcp_connect.proofs.standing.OpenConnections.put.Goals as goal

pub invariant_of-self : goal.invariant_of-self
invariant_of-self g c =
    let stand = c.in-Some.ensures.0 in
    let first = c.in-Some.ensures.1 in
    let at = c.in-Some.at in
    let removed = c.remove-place.result in
    let there : slice_get c.self.inside.places.items at ≡ Some stand = cc first.there in
    let read : get_or c.self.inside.places.items at removed ≡ stand = get_or_from_slice_get c.self.inside.places.items at stand removed there in
    let same : removed ≡ stand = cc c.remove-place.ensures.value in
    let fits : IsOk c.push.result = c.push.ensures.succeeds (omega (arith, c.self.inside.places.ok.1)) in
    let pushed : c.push.new.self.items ≡ c.remove-place.new.self.items ++ c.put.new.self ∷ [] =
    c.push.ensures.items ∙ ap (λ b. cond b (c.remove-place.new.self.items ++ c.put.new.self ∷ []) c.remove-place.new.self.items) fits in
    rw (pushed, c.remove-place.ensures.items)
    (IsStandPool-move c.self.inside.places.items c.self.inside.entered at stand c.put.new.self c.self.invariant there (ap (λ s. s.number) c.put.ensures ∙ ap (λ s. s.number) same))

pub returns : goal.returns
returns g c =
    let stand = c.in-Some.ensures.0 in
    let first = c.in-Some.ensures.1 in
    let at = c.in-Some.at in
    let removed = c.remove-place.result in
    let now = c.args.self.now in
    let opened : c.self.inside.places.items ≡ now.stands = ap (λ p. p.stands) c.self.view_is in
    let lent : now.stands ≡ c.deref.result.now = cc in
    let read : get_or c.deref.result.now at removed ≡ stand = get_or_from_slice_get c.deref.result.now at stand removed first.there in
    let same : removed ≡ stand = cc c.remove-place.ensures.value in
    let waiting : Stand g.row.W.Denot → Stand g.row.W.Denot = λ s. record s { waiting = Some c.args.waiting } in
    let down : c.put.new.self ≡ waiting stand = c.put.ensures ∙ ap waiting same in
    let fits : IsOk c.push.result = c.push.ensures.succeeds (omega (arith, c.self.inside.places.ok.1)) in
    let pushed : c.push.new.self.items ≡ c.remove-place.new.self.items ++ c.put.new.self ∷ [] =
    c.push.ensures.items ∙ ap (λ b. cond b (c.remove-place.new.self.items ++ c.put.new.self ∷ []) c.remove-place.new.self.items) fits in
    let behind : List (Stand g.row.W.Denot) → Stand g.row.W.Denot → List (Stand g.row.W.Denot) = λ stands s. stands ++ s ∷ [] in
    let stands : c.push.new.self.items ≡ behind (remove c.self.inside.places.items at) (waiting stand) =
    pushed ∙ ap (λ xs. behind xs c.put.new.self) c.remove-place.ensures.items ∙ ap (behind (remove c.self.inside.places.items at)) down in
    let with : List (Stand g.row.W.Denot) → Pool g.row.W.Denot = λ stands. record { stands = stands; entered = c.self.inside.entered } in
    let put_at : Pool g.row.W.Denot → Pool g.row.W.Denot = λ p. record { stands = behind (remove p.stands at) (waiting stand); entered = p.entered } in
    (at, stand, rw lent first, ap with stands ∙ ap put_at c.self.view_is)

pub returns-in_default : goal.returns-in_default
returns-in_default g c =
    let lent : c.deref.result.now ≡ c.args.self.now.stands = c.deref.ensures.value ∙ ap (λ p. p.stands) c.self.view_is in
    (refl, rw (← lent) c.in_default.ensures, refl)

pub remove-place-requires : goal.remove-place-requires
remove-place-requires g c =
    rw (← c.deref.ensures.len) (slice_get_within c.deref.result.now c.in-Some.at c.in-Some.ensures.0 c.in-Some.ensures.1.there)
