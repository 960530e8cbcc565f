-- A chain of responses that some bytes give ends in rules that the origin may have.
use Rattle.std.proofs.Common.{◌≡◌, ◌<◌, ◌==◌, ◌||◌, ◌⊎◌, ◌+◌, ℕ, zero, suc, Bool, true, false, List, [], ◌∷◌, Option, Some, None, refl, sym, arith, inl, inr}
use Rattle.std.proofs.lemmas.Bool.{eqb-true, false≢true}
use Rattle.std.proofs.lemmas.List.Elements.{All-head, All-tail}
use Rattle.address.specs.Address.{AddressText, OriginText}
use Rattle.html_links.specs.declared.rules.LinkRules.{LinkRules}
use Rattle.robots_rules.specs.Access.{RuleSetValue}
use Rattle.fetcher.specs.Statuses.{is_redirect, is_successful}
use Rattle.fetcher.specs.declared.outcome.Outcome.{Outcome}
use Rattle.response_reader.specs.Fields.{HeadParts}
use Rattle.response_reader.specs.Response.{ResponseParts}
use Rattle.response_answer.specs.Digests.{digest_of, is_document, is_sheet, kept_body, page_or_leaf, sheet_or_leaf, target_of}
use Rattle.answer_notes.specs.HopChains.{AreHops, EndsChain, HopValue, IsAdmitted, robots_file, rules_of_hops}
use Rattle.answer_notes.specs.Received.{received_body, received_outcome, received_rules, received_target}
use Rattle.answer_notes.specs.RobotsAnswers.{all_allowed, max_redirects, rules_by_status}
use Rattle.answer_notes.specs.declared.received.Received.{Received}
use Rattle.answer_notes.specs.declared.received.Received.TheVariants.{Whole, Fault}
use Rattle.http_fetcher.specs.Chains.{IsChain, IsLast, LeadsTo, rules_by}
use Rattle.http_fetcher.specs.Meanings.{MayAnswer, MayRule}
use Rattle.http_fetcher.proofs.ChainLemmas.{chain_ends, chain_goes_on}
use Rattle.earlier_answers.specs.Texts.{AreWhole, IsWhole}

-- ---- what the last answer says

or_split : (x y : Bool) → (x || y) ≡ true → (x ≡ true) ⊎ (y ≡ true)
or_split true y h = inl refl
or_split false y h = inr h

-- a status that redirects allows everything
redirect_allows : (status : ℕ) (file : List ℕ) → is_redirect status ≡ true → rules_by_status status file ≡ all_allowed
unfolding rules_by_status
redirect_allows status file h =
    elim (or_split _ _ h) [
      | inl a ↦ at 301 a refl
      | inr h ↦ (elim (or_split _ _ h) [
        | inl a ↦ at 302 a refl
        | inr h ↦ (elim (or_split _ _ h) [
          | inl a ↦ at 303 a refl
          | inr h ↦ (elim (or_split _ _ h) [
            | inl a ↦ at 307 a refl
            | inr h ↦ (elim (or_split _ _ h) [ inl a ↦ at 308 a refl | inr none ↦ absurd (false≢true none) ])
          ])
        ])
      ])
    ]
  where
    at : (n : ℕ) → (status == n) ≡ true → rules_by_status n file ≡ all_allowed → rules_by_status status file ≡ all_allowed
    at n is allows = rw (eqb-true status n is) allows

-- a file is looked at only if the status is one of success
kept_is_enough : (status : ℕ) (body : List ℕ) → rules_by_status status (kept_body status body) ≡ rules_by_status status body
unfolding rules_by_status
kept_is_enough status body = by (is_successful status) refl
  where
    by : (t : Bool) → is_successful status ≡ t → rules_by_status status (kept_body status body) ≡ rules_by_status status body
    by true is = rw is refl
    by false is = rw is refl

-- what redirects to an address has a status that redirects
redirects : (at target : AddressText) (head : HeadParts) → target_of at head ≡ Some target → is_redirect head.status ≡ true
redirects at target head h = by (is_redirect head.status) refl
  where
    by : (t : Bool) → is_redirect head.status ≡ t → is_redirect head.status ≡ true
    by true is = is
    by false is = absurd (let none : target_of at head ≡ None = rw is refl in cc)

-- the answer decides, if so many redirects may still be followed, and gives these rules
abbrev Decides : Outcome → List ℕ → ℕ → RuleSetValue → Type 0
Decides outcome file left rules = IsLast outcome left × (rules ≡ rules_by outcome file)

-- so does a response that is no page of HTML
sheet_decides : (links : LinkRules) (at : AddressText) (r : ResponseParts) (left : ℕ)
    → Decides (sheet_or_leaf links at r) (kept_body r.head.status r.body) left (rules_by_status r.head.status r.body)
sheet_decides links at r left = by (is_sheet r.head) refl
  where
    by : (t : Bool) → is_sheet r.head ≡ t → Decides (sheet_or_leaf links at r) (kept_body r.head.status r.body) left (rules_by_status r.head.status r.body)
    by true sheet = rw sheet (tt, sym (kept_is_enough r.head.status r.body))
    by false sheet = rw sheet (tt, sym (kept_is_enough r.head.status r.body))

-- and any that redirects nowhere
plain_decides : (links : LinkRules) (at : AddressText) (r : ResponseParts) (left : ℕ)
    → Decides (page_or_leaf links at r) (kept_body r.head.status r.body) left (rules_by_status r.head.status r.body)
plain_decides links at r left = by (is_document r.head) refl
  where
    by : (t : Bool) → is_document r.head ≡ t → Decides (page_or_leaf links at r) (kept_body r.head.status r.body) left (rules_by_status r.head.status r.body)
    by true document = rw document (tt, sym (kept_is_enough r.head.status r.body))
    by false document = rw document (sheet_decides links at r left)

-- a response that ends a chain decides
whole_decides : (links : LinkRules) (at : AddressText) (r : ResponseParts) (left : ℕ) (target : Option AddressText) → target_of at r.head ≡ target → EndsChain left target
    → Decides (digest_of links at r) (kept_body r.head.status r.body) left (rules_by_status r.head.status r.body)
whole_decides links at r left None is ends = rw is (plain_decides links at r left)
whole_decides links at r zero (Some target) is ends = rw is (refl, redirect_allows r.head.status r.body (redirects at target r.head is))
whole_decides links at r (suc left) (Some target) is ends = absurd cc

-- a response that redirects leads to its target
whole_leads : (links : LinkRules) (at next : AddressText) (r : ResponseParts) → target_of at r.head ≡ Some next → LeadsTo (digest_of links at r) next
whole_leads links at next r is = rw is refl

-- ---- chains

-- a response that some bytes give may be answered
may_answer_whole : (links : LinkRules) (at : AddressText) (received : Received) → IsWhole received
    → MayAnswer links at (received_outcome links at received) (received_body received)
may_answer_whole links at (Whole r) given = inl (given.0, (r, given.1, refl, refl))
may_answer_whole links at (Fault kind) given = absurd given

ends_there : (links : LinkRules) (n : ℕ) (at : AddressText) (received : Received) → EndsChain n (received_target at received) → IsWhole received
    → IsChain (MayAnswer links) n at (received_rules received)
ends_there links n at (Whole r) ends whole =
    chain_ends (MayAnswer links) n at (received_rules (Whole r)) (received_outcome links at (Whole r)) (received_body (Whole r))
    (may_answer_whole links at (Whole r) whole) (whole_decides links at r n (target_of at r.head) refl ends)
ends_there links n at (Fault kind) ends whole = absurd whole

goes_on_there : (links : LinkRules) (n : ℕ) (at next : AddressText) (rules : RuleSetValue) (received : Received) → received_target at received ≡ Some next → IsWhole received
    → IsChain (MayAnswer links) n next rules → IsChain (MayAnswer links) (suc n) at rules
goes_on_there links n at next rules (Whole r) leads whole rest =
    let more : 0 < suc n = omega arith in
    let one : suc n ≡ n + 1 = omega arith in
    chain_goes_on (MayAnswer links) (suc n) n at next rules (received_outcome links at (Whole r)) (received_body (Whole r))
    (may_answer_whole links at (Whole r) whole) (more, whole_leads links at next r leads) one rest
goes_on_there links n at next rules (Fault kind) leads whole rest = absurd whole

-- such responses from an address on are a chain of answers
chain_of_whole : (links : LinkRules) (n : ℕ) (at : AddressText) (hops : List HopValue) → AreHops n at hops → AreWhole hops
    → IsChain (MayAnswer links) n at (rules_of_hops hops)
chain_of_whole links n at [] are whole = absurd are
chain_of_whole links n at (hop ∷ []) are whole = ends_there links n at hop.1 are.1 (All-head (λ (h : HopValue). IsWhole h.1) hop [] whole)
chain_of_whole links zero at (hop ∷ next ∷ more) are whole = absurd are
chain_of_whole links (suc n) at (hop ∷ next ∷ more) are whole =
    goes_on_there links n at next.0 (rules_of_hops (next ∷ more)) hop.1 are.1 (All-head (λ (h : HopValue). IsWhole h.1) hop (next ∷ more) whole)
    (chain_of_whole links n next.0 (next ∷ more) are.2 (All-tail (λ (h : HopValue). IsWhole h.1) hop (next ∷ more) whole))

-- the rules at the end of an origin's chain of responses are rules that it may have
pub may_rule_by_hops : (links : LinkRules) (of : OriginText) (hops : List HopValue) → IsAdmitted of hops → AreWhole hops → MayRule links of (rules_of_hops hops)
may_rule_by_hops links of hops are whole = chain_of_whole links max_redirects (robots_file of) hops are whole
