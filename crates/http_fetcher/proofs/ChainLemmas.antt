-- How a chain of redirects grows.
use Rattle.std.proofs.Common.{◌≡◌, ◌∙◌, ◌<◌, ◌≤◌, ◌+◌, ◌++◌, ℕ, zero, suc, List, [], ◌∷◌, inl, inr, arith, ap, subst, sym, length}
use Rattle.std.proofs.lemmas.List.{length-append}
use Rattle.kept_bodies.specs.Bodies.{BodyValue}
use Rattle.address.specs.Address.{AddressText}
use Rattle.robots_rules.specs.Access.{RuleSetValue}
use Rattle.response_reader.specs.Wire.{counted}
use Rattle.response_reader.specs.Limits.{Limited}
use Rattle.response_reader.specs.declared.wire.Wire.{Ghosts as Wires}
use Rattle.fetcher.specs.declared.answer.Answer.{Answer}
use Rattle.fetcher.specs.declared.outcome.Outcome.{Outcome}
use Rattle.answer_notes.specs.HopChains.{HopValue}
use Rattle.connect.specs.declared.connect.Connect.{Ghosts as Connects}
use Rattle.http_fetcher.specs.declared.chain.Hop.{Hop}
use Rattle.http_fetcher.specs.declared.chain.Hop.TheVariants.{Next, Last}
use Rattle.http_fetcher.specs.Chains.{IsChain, SaysHop}
use Rattle.http_fetcher.specs.Fetching.{AnsweredWithRetry, Fetching, IsGiven}

-- what was received over a connection is given, by a fetcher with the settings of another
pub given_by : {C W : Type 0} (connects : Connects C W) (wires : Wires W) (limits : Limited) (first old new : Fetching C) (at : AddressText) (answer : Answer BodyValue)
    → old.links ≡ first.links → old.keeps ≡ first.keeps → old.sends ≡ first.sends → AnsweredWithRetry connects wires limits old new at answer
    → IsGiven connects wires limits first at answer.outcome answer.body
given_by connects wires limits first old new at answer links keeps sends told =
    (old.connect, new.connect, rw (sym links, sym keeps, sym sends) told)

-- what an answer says of the hop that it was read as
pub says_of : (x : Outcome) (body : List ℕ) (n : ℕ) (hop read : Hop) → hop ≡ read → SaysHop x body n hop → SaysHop x body n read
says_of x body n hop read is says = subst (λ h. SaysHop x body n h) is says

-- a redirect that is followed may be
pub may_follow : (x : Outcome) (body : List ℕ) (n : ℕ) (hop : Hop) (next : AddressText) → hop ≡ Next next → SaysHop x body n hop → 0 < n
may_follow x body n hop next is says = let leads : SaysHop x body n (Next next) = says_of x body n hop (Next next) is says in leads.0

-- an answer that decides ends a chain
pub chain_ends : (Says : AddressText → Outcome → BodyValue → Type 0) (n : ℕ) (at : AddressText) (rules : RuleSetValue) (x : Outcome) (body : BodyValue)
    → Says at x body → SaysHop x body.bytes n (Last rules) → IsChain Says n at rules
unfolding IsChain
chain_ends Says zero at rules x body told says = (x, body, told, says)
chain_ends Says (suc n) at rules x body told says = (x, body, told, inl says)

-- a chain goes on after a redirect
pub chain_goes_on : (Says : AddressText → Outcome → BodyValue → Type 0) (n m : ℕ) (at next : AddressText) (rules : RuleSetValue) (x : Outcome) (body : BodyValue)
    → Says at x body → SaysHop x body.bytes n (Next next) → n ≡ m + 1 → IsChain Says m next rules → IsChain Says n at rules
unfolding IsChain
chain_goes_on Says zero m at next rules x body told says is chain = let none : 0 < 0 = says.0 in absurd (omega arith)
chain_goes_on Says (suc n) m at next rules x body told says is chain =
    let same : m ≡ n = omega arith in
    (x, body, told, inr (next, says, subst (λ k. IsChain Says k next rules) same chain))

-- a hop more, and a connection more
pub one_more : (first before after : ℕ) (old new : List HopValue) (hop : HopValue) → before ≡ counted first (length old) → after ≡ counted before 1
    → new ≡ old ++ hop ∷ [] → after ≡ counted first (length new)
one_more first before after old new hop is one more =
    let longer : length new ≡ length old + 1 = ap length more ∙ length-append old (hop ∷ []) in
    omega arith

-- one more connection, if this many redirects could still be followed
pub few_more : (before left first most now : ℕ) → before + left ≤ first + most → now ≤ before + 1 → now ≤ first + (most + 1)
few_more before left first most now few one = omega arith
