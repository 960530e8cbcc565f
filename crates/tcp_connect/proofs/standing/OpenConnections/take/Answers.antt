use Rattle.std.proofs.Common.{ap, sym, refl, ◌∙◌, ◌≡◌, ℕ, List, None, Some, true, false, get_or, slice_get, slice_set}
use Rattle.std.proofs.lemmas.Option.{get_or_from_slice_get, slice_get_within}
use Rattle.tcp_connect.specs.Standing.{Stand, Pool, IsStandPool, waits_for}
use Rattle.tcp_connect.proofs.StandingLaws.{IsStandPool-set}
use Rattle.tcp_connect.proofs.standing.OpenConnections.take.Goals as goal

-- what is where one was taken has its number
IsStandPool-take : {W : Type 0} (stands : List (Stand W)) (entered at : ℕ) (stand taken left : Stand W) → IsStandPool (record { stands = stands; entered = entered })
    → slice_get stands at ≡ Some stand → taken ≡ stand → left ≡ record taken { waiting = None } → IsStandPool (record { stands = slice_set stands at left; entered = entered })
IsStandPool-take stands entered at stand taken left was there same after =
    IsStandPool-set stands entered at stand left was there (ap (λ s. s.number) after ∙ ap (λ s. s.number) same)

pub returns-in_err-at : goal.returns-in_err-at
returns-in_err-at g c =
    let now = c.args.self.now in
    let lent : c.deref.result.now ≡ now.stands = c.deref.ensures.value ∙ ap (λ p. p.stands) c.self.view_is in
    rw (c.from_residual.ensures, ← lent) (c.in_err-at.ensures, refl)

pub invariant_of-self : goal.invariant_of-self
invariant_of-self g c =
    let stand = c.in_ok-at.ensures.0 in
    let last = c.in_ok-at.ensures.1 in
    let at = c.in_ok-at.at in
    let taken = c.index_mut-place.result.now in
    let there : slice_get c.self.inside.places.items at ≡ Some stand = rw (← c.deref.ensures.value) last.there in
    let read : get_or c.self.inside.places.items at taken ≡ stand = get_or_from_slice_get c.self.inside.places.items at stand taken there in
    let same : taken ≡ stand = c.index_mut-place.ensures.value ∙ read in
    IsStandPool-take c.self.inside.places.items c.self.inside.entered at stand taken c.take.new.self c.self.invariant there same c.take.ensures.after

pub returns-in_err-waiting : goal.returns-in_err-waiting
returns-in_err-waiting g c =
    let stand = c.in_ok-at.ensures.0 in
    let last = c.in_ok-at.ensures.1 in
    let at = c.in_ok-at.at in
    let taken = c.index_mut-place.result.now in
    let there : slice_get c.self.inside.places.items at ≡ Some stand = rw (← c.deref.ensures.value) last.there in
    let read : get_or c.self.inside.places.items at taken ≡ stand = get_or_from_slice_get c.self.inside.places.items at stand taken there in
    let same : taken ≡ stand = c.index_mut-place.ensures.value ∙ read in
    let none : stand.waiting ≡ None = sym (ap (λ s. s.waiting) same) ∙ sym c.take.ensures.value ∙ c.in_err-waiting.was in
    let idle : waits_for c.args.of.now stand ≡ false = rw none refl in
    let never : true ≡ false = sym last.passes ∙ idle in
    absurd cc

pub invariant_of-self-2 : goal.invariant_of-self-2
invariant_of-self-2 g c =
    let stand = c.in_ok-at.ensures.0 in
    let last = c.in_ok-at.ensures.1 in
    let at = c.in_ok-at.at in
    let taken = c.index_mut-place.result.now in
    let there : slice_get c.self.inside.places.items at ≡ Some stand = rw (← c.deref.ensures.value) last.there in
    let read : get_or c.self.inside.places.items at taken ≡ stand = get_or_from_slice_get c.self.inside.places.items at stand taken there in
    let same : taken ≡ stand = c.index_mut-place.ensures.value ∙ read in
    IsStandPool-take c.self.inside.places.items c.self.inside.entered at stand taken c.take.new.self c.self.invariant there same c.take.ensures.after

pub returns : goal.returns
returns g c =
    let stand = c.in_ok-at.ensures.0 in
    let last = c.in_ok-at.ensures.1 in
    let at = c.in_ok-at.at in
    let taken = c.index_mut-place.result.now in
    let now = c.args.self.now in
    let lent : c.deref.result.now ≡ now.stands = c.deref.ensures.value ∙ ap (λ p. p.stands) c.self.view_is in
    let there : slice_get c.self.inside.places.items at ≡ Some stand = rw (← c.deref.ensures.value) last.there in
    let read : get_or c.self.inside.places.items at taken ≡ stand = get_or_from_slice_get c.self.inside.places.items at stand taken there in
    let same : taken ≡ stand = c.index_mut-place.ensures.value ∙ read in
    let number : stand.number ≡ c.number-number.result = sym (ap (λ s. s.number) same) ∙ sym c.number-number.ensures in
    let waiting : stand.waiting ≡ Some c.in_ok-waiting.waiting = sym (ap (λ s. s.waiting) same) ∙ sym c.take.ensures.value ∙ c.in_ok-waiting.was in
    let idle : Stand g.row.W.Denot → Stand g.row.W.Denot = λ s. record s { waiting = None } in
    let left : c.take.new.self ≡ idle stand = c.take.ensures.after ∙ ap idle same in
    let set_at : Stand g.row.W.Denot → Pool g.row.W.Denot → Pool g.row.W.Denot = λ s p. record { stands = slice_set p.stands at s; entered = p.entered } in
    (at, stand, rw (← lent) last, number, waiting, ap (set_at c.take.new.self) c.self.view_is ∙ ap (λ s. set_at s now) left)

pub index_mut-place-requires : goal.index_mut-place-requires
index_mut-place-requires g c =
    rw (← c.deref.ensures.len) (slice_get_within c.deref.result.now c.in_ok-at.at c.in_ok-at.ensures.0 c.in_ok-at.ensures.1.there)
