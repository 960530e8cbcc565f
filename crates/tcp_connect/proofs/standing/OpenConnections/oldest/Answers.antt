use Rattle.std.proofs.Common.{◌≡◌, ◌<◌, ◌∙◌, ap, sym, refl, true, false, ℕ, List, length, Option, None, Some, MatchOption, Bor, option_copied, get_or}
use Rattle.std.proofs.lemmas.Option.{slice_get_within, get_or_from_slice_get}
use Rattle.tcp_connect.specs.Standing.{Stand, NonePasses, IsFirst, waits}
use Rattle.tcp_connect.proofs.standing.OpenConnections.oldest.Goals as goal

-- the first that waits lends what waits there
lends_first : {W : Type 0} (stands : List (Stand W)) (at : ℕ) (stand : Stand W) (lent : Option (Bor W)) → IsFirst waits stands at stand → option_copied lent ≡ stand.waiting
    → MatchOption lent (NonePasses waits stands) (λ waiting. (at : ℕ) × (stand : Stand W) × IsFirst waits stands at stand × (stand.waiting ≡ Some waiting.now))
lends_first stands at stand None first copied =
    let idle : waits stand ≡ false = rw (← copied) refl in
    let never : true ≡ false = sym first.passes ∙ idle in
    absurd cc
lends_first stands at stand (Some waiting) first copied = (at, stand, first, sym copied)

pub returns-in_err-at : goal.returns-in_err-at
returns-in_err-at g c =
    let lent : c.deref.result.now ≡ c.args.self.now.stands = c.deref.ensures.value ∙ ap (λ p. p.stands) c.self.view_is in
    rw (c.from_residual.ensures, ← lent) c.in_err-at.ensures

pub index-requires : goal.index-requires
index-requires g c =
    rw (← c.deref.ensures.len) (slice_get_within c.deref.result.now c.in_ok-at.at c.in_ok-at.ensures.0 c.in_ok-at.ensures.1.there)

pub returns : goal.returns
returns g c =
    let stand = c.in_ok-at.ensures.0 in
    let found = c.index.result.now in
    let lent : c.deref.result.now ≡ c.args.self.now.stands = c.deref.ensures.value ∙ ap (λ p. p.stands) c.self.view_is in
    let first : IsFirst waits c.args.self.now.stands c.in_ok-at.at stand = rw (← lent) c.in_ok-at.ensures.1 in
    let read : get_or c.deref.result.now c.in_ok-at.at found ≡ stand = get_or_from_slice_get c.deref.result.now c.in_ok-at.at stand found c.in_ok-at.ensures.1.there in
    let same : found ≡ stand = c.index.ensures ∙ ap (λ xs. get_or xs c.in_ok-at.at found) (sym c.deref.ensures.value) ∙ read in
    lends_first c.args.self.now.stands c.in_ok-at.at stand c.waiting.result first (c.waiting.ensures ∙ ap (λ s. s.waiting) same)
