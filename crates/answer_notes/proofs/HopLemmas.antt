-- How hops grow, and the rules at their end.
use Rattle.std.proofs.Common.{◌≡◌, ◌∙◌, ℕ, zero, suc, ◌+◌, ◌-◌, ◌<◌, ◌++◌, List, [], ◌∷◌, Some, refl, sym, ap, subst, arith, length}
use Rattle.std.specs.Prelude.{get_or}
use Rattle.address.specs.Address.{AddressText}
use Rattle.answer_notes.specs.Received.{received_target, received_rules}
use Rattle.answer_notes.specs.CrawlDelays.{delay_of_hops, received_delay}
use Rattle.answer_notes.specs.HopChains.{HopValue, AreHops, EndsChain, rules_of_hops}
use Rattle.answer_notes.specs.declared.received.Received.{Received}

first_at : (left : ℕ) (at : AddressText) (hop : HopValue) (more : List HopValue) → AreHops left at (hop ∷ more) → hop.0 ≡ at
first_at left at hop [] h = h.0
first_at zero at hop (next ∷ more) h = absurd h
first_at (suc left) at hop (next ∷ more) h = h.0

-- a hop that redirects, and the hops after it
pub hop_goes_on : (n m : ℕ) (at next : AddressText) (told : Received) (tail : List HopValue) → received_target at told ≡ Some next → n ≡ m + 1
    → AreHops m next tail → AreHops n at ((at, told) ∷ tail)
hop_goes_on n m at next told [] is less h = absurd h
hop_goes_on zero m at next told (hop ∷ more) is less h = absurd (let no : 0 < 0 = omega arith in omega arith)
hop_goes_on (suc n) m at next told (hop ∷ more) is less h =
    let same : m ≡ n = omega arith in
    let begins = first_at m next hop more h in
    (refl, is ∙ ap Some (sym begins), subst (λ k. AreHops k hop.0 (hop ∷ more)) same (subst (λ a. AreHops m a (hop ∷ more)) (sym begins) h))

-- a hop that ends the chain
pub hop_ends : (n : ℕ) (at : AddressText) (told : Received) → EndsChain n (received_target at told) → AreHops n at ((at, told) ∷ [])
hop_ends n at told ends = (refl, ends)

-- the rules are those of the last hops
pub rules_behind : (hops : List HopValue) (hop : HopValue) (more : List HopValue) → rules_of_hops (hops ++ hop ∷ more) ≡ rules_of_hops (hop ∷ more)
rules_behind [] hop more = refl
rules_behind (first ∷ []) hop more = refl
rules_behind (first ∷ second ∷ hops) hop more = rules_behind (second ∷ hops) hop more

-- the rules are those of the last hop
rules_at_last : (hops : List HopValue) (d : HopValue) → 0 < length hops → rules_of_hops hops ≡ received_rules (get_or hops (length hops - 1) d).1
rules_at_last [] d some = absurd (omega (arith, some))
rules_at_last (hop ∷ []) d some =
    let first : 0 ≡ length (hop ∷ []) - 1 = omega arith in
    ap (λ k. received_rules (get_or (hop ∷ []) k d).1) first
rules_at_last (hop ∷ next ∷ more) d some =
    let on : suc (length (next ∷ more) - 1) ≡ length (hop ∷ next ∷ more) - 1 = omega arith in
    rules_at_last (next ∷ more) d (omega arith) ∙ ap (λ k. received_rules (get_or (hop ∷ next ∷ more) k d).1) on

pub last_rules : (hops slice : List HopValue) (d : HopValue) → slice ≡ hops → 0 < length slice → received_rules (get_or slice (length slice - 1) d).1 ≡ rules_of_hops hops
last_rules hops slice d same some = sym (rules_at_last slice d some) ∙ ap rules_of_hops same

-- the delay is that of the last hop
delay_at_last : (hops : List HopValue) (d : HopValue) → 0 < length hops → delay_of_hops hops ≡ received_delay (get_or hops (length hops - 1) d).1
delay_at_last [] d some = absurd (omega (arith, some))
delay_at_last (hop ∷ []) d some =
    let first : 0 ≡ length (hop ∷ []) - 1 = omega arith in
    ap (λ k. received_delay (get_or (hop ∷ []) k d).1) first
delay_at_last (hop ∷ next ∷ more) d some =
    let on : suc (length (next ∷ more) - 1) ≡ length (hop ∷ next ∷ more) - 1 = omega arith in
    delay_at_last (next ∷ more) d (omega arith) ∙ ap (λ k. received_delay (get_or (hop ∷ next ∷ more) k d).1) on

pub last_delay : (hops slice : List HopValue) (d : HopValue) → slice ≡ hops → 0 < length slice → received_delay (get_or slice (length slice - 1) d).1 ≡ delay_of_hops hops
last_delay hops slice d same some = sym (delay_at_last slice d some) ∙ ap delay_of_hops same
