-- What was received for a hop says what its answer says.
use Rattle.std.proofs.Common.{◌≡◌, ◌∙◌, ℕ, zero, suc, ◌==◌, ◌||◌, ◌⊎◌, Bool, true, false, List, Option, Some, None, refl, sym, subst, inl, inr}
use Rattle.std.proofs.lemmas.Bool.{eqb-true, false≢true}
use Rattle.kept_bodies.specs.Bodies.{BodyValue}
use Rattle.address.specs.Address.{AddressText}
use Rattle.robots_rules.specs.Access.{RuleSetValue}
use Rattle.response_reader.specs.Response.{ResponseParts}
use Rattle.response_reader.specs.Fields.{HeadParts}
use Rattle.response_reader.specs.Limits.{Limited}
use Rattle.response_reader.specs.declared.wire.Wire.{Ghosts as Wires}
use Rattle.fetcher.specs.declared.answer.Answer.{Answer}
use Rattle.fetcher.specs.Statuses.{is_redirect, is_successful}
use Rattle.response_answer.specs.Digests.{is_document, is_sheet, digest_of, kept_body, target_of, page_or_leaf, sheet_or_leaf}
use Rattle.answer_notes.specs.RobotsAnswers.{all_allowed, rules_by_status}
use Rattle.answer_notes.specs.Received.{received_outcome, received_body}
use Rattle.answer_notes.specs.declared.received.Received.{Received}
use Rattle.answer_notes.specs.declared.received.Received.TheVariants.{Whole, Fault}
use Rattle.connect.specs.declared.connect.Connect.{Ghosts as Connects}
use Rattle.http_fetcher.specs.declared.chain.Hop.{Hop}
use Rattle.http_fetcher.specs.declared.chain.Hop.TheVariants.{Next, Last}
use Rattle.http_fetcher.specs.Chains.{SaysHop}
use Rattle.http_fetcher.specs.inner.Chains.{IsHopReceived}
use Rattle.http_fetcher.specs.Fetching.{AnsweredWithRetry, Fetching, received_answer}
use Rattle.html_links.specs.declared.rules.LinkRules.{LinkRules}

or_split : (x y : Bool) → (x || y) ≡ true → (x ≡ true) ⊎ (y ≡ true)
or_split true y h = inl refl
or_split false y h = inr h

-- a status that redirects allows everything
redirect_allows : (status : ℕ) (file : List ℕ) → is_redirect status ≡ true → rules_by_status status file ≡ all_allowed
unfolding rules_by_status
redirect_allows status file h =
    elim (or_split _ _ h) [
      | inl a ↦ at 301 a refl
      | inr h ↦ (elim (or_split _ _ h) [
        | inl a ↦ at 302 a refl
        | inr h ↦ (elim (or_split _ _ h) [
          | inl a ↦ at 303 a refl
          | inr h ↦ (elim (or_split _ _ h) [
            | inl a ↦ at 307 a refl
            | inr h ↦ (elim (or_split _ _ h) [ inl a ↦ at 308 a refl | inr none ↦ absurd (false≢true none) ])
          ])
        ])
      ])
    ]
  where
    at : (n : ℕ) → (status == n) ≡ true → rules_by_status n file ≡ all_allowed → rules_by_status status file ≡ all_allowed
    at n is allows = rw (eqb-true status n is) allows

-- a file is looked at only if the status is one of success
kept_is_enough : (status : ℕ) (body : List ℕ) → rules_by_status status (kept_body status body) ≡ rules_by_status status body
unfolding rules_by_status
kept_is_enough status body = by (is_successful status) refl
  where
    by : (t : Bool) → is_successful status ≡ t → rules_by_status status (kept_body status body) ≡ rules_by_status status body
    by true is = rw is refl
    by false is = rw is refl

-- what redirects to an address has a status that redirects
redirects : (at target : AddressText) (head : HeadParts) → target_of at head ≡ Some target → is_redirect head.status ≡ true
redirects at target head h = by (is_redirect head.status) refl
  where
    by : (t : Bool) → is_redirect head.status ≡ t → is_redirect head.status ≡ true
    by true is = is
    by false is = absurd (let none : target_of at head ≡ None = rw is refl in cc)

-- what a response that is no page of HTML says of the rules
sheet_says : (links : LinkRules) (at : AddressText) (r : ResponseParts) (left : ℕ) (rules : RuleSetValue) → rules ≡ rules_by_status r.head.status r.body
    → SaysHop (sheet_or_leaf links at r) (kept_body r.head.status r.body) left (Last rules)
sheet_says links at r left rules is = by (is_sheet r.head) refl
  where
    by : (t : Bool) → is_sheet r.head ≡ t → SaysHop (sheet_or_leaf links at r) (kept_body r.head.status r.body) left (Last rules)
    by true sheet = rw sheet (tt, is ∙ sym (kept_is_enough r.head.status r.body))
    by false sheet = rw sheet (tt, is ∙ sym (kept_is_enough r.head.status r.body))

-- what a response that redirects nowhere says of the rules
plain_says : (links : LinkRules) (at : AddressText) (r : ResponseParts) (left : ℕ) (rules : RuleSetValue) → rules ≡ rules_by_status r.head.status r.body
    → SaysHop (page_or_leaf links at r) (kept_body r.head.status r.body) left (Last rules)
plain_says links at r left rules is = by (is_document r.head) refl
  where
    by : (t : Bool) → is_document r.head ≡ t → SaysHop (page_or_leaf links at r) (kept_body r.head.status r.body) left (Last rules)
    by true document = rw document (tt, is ∙ sym (kept_is_enough r.head.status r.body))
    by false document = rw document (sheet_says links at r left rules is)

-- what a whole response says of a hop
whole_says : (links : LinkRules) (at : AddressText) (r : ResponseParts) (left : ℕ) (hop : Hop) (target : Option AddressText) → target_of at r.head ≡ target
    → IsHopReceived at (Whole r) left hop → SaysHop (digest_of links at r) (kept_body r.head.status r.body) left hop
whole_says links at r left (Next next) None is h = let some = h.1 in absurd cc
whole_says links at r left (Next next) (Some target) is h = let some = h.1 in rw is (h.0, cc)
whole_says links at r left (Last rules) None is h = rw is (plain_says links at r left rules h.1)
whole_says links at r zero (Last rules) (Some target) is h = rw is (refl, h.1 ∙ redirect_allows r.head.status r.body (redirects at target r.head is))
whole_says links at r (suc left) (Last rules) (Some target) is h = let none = h.0 in absurd cc

-- what was received for an address says of a hop what its answer says
pub tells_says : (links : LinkRules) (at : AddressText) (told : Received) (left : ℕ) (hop : Hop) → IsHopReceived at told left hop
    → SaysHop (received_outcome links at told) (received_body told).bytes left hop
tells_says links at (Whole r) left hop h = whole_says links at r left hop (target_of at r.head) refl h
tells_says links at (Fault kind) left (Next next) h = let some = h.1 in absurd cc
tells_says links at (Fault kind) left (Last rules) h = (tt, h.1)

-- what was received says this of the hop that it was read as
pub tells_of : (at : AddressText) (told : Received) (left : ℕ) (hop read : Hop) → hop ≡ read → IsHopReceived at told left hop → IsHopReceived at told left read
tells_of at told left hop read is tells = subst (λ h. IsHopReceived at told left h) is tells

-- an answer that says what was received over a connection was received over it
pub told_by_answer : {C W : Type 0} (connects : Connects C W) (wires : Wires W) (limits : Limited) (old now new : Fetching C) (at : AddressText) (told : Received) (answer : Answer BodyValue)
    → now ≡ new → new.links ≡ old.links → answer.outcome ≡ received_outcome now.links at told → answer.body ≡ received_body told
    → AnsweredWithRetry connects wires limits old new at (received_answer old.links at told) → AnsweredWithRetry connects wires limits old now at answer
told_by_answer connects wires limits old now new at told answer same is outcome_is body_is h =
    rw (outcome_is, body_is, same, is) h
