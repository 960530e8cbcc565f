-- A fetcher that requests what a record doesn't state.
use Rattle.std.proofs.Common.{◌≡◌, ◌≤◌, ℕ, ◌++◌, ◌∙◌, List, [], ◌∷◌, All, Option, Some, None, MatchOption, Result, Ok, Err, OnOk, OnErr, refl, sym, ap, subst, inl, inr, length, take, drop, arith}
use Rattle.std.specs.Map.{lookup}
use Rattle.std.specs.Str.{bytes_eq}
use Rattle.std.proofs.lemmas.List.{drop-append-le, take-append-le, length-append}
use Rattle.std.proofs.lemmas.List.Elements.{All-push}
use Rattle.kept_bodies.specs.Bodies.{BodyValue}
use Rattle.address.specs.Address.{AddressText, OriginText}
use Rattle.robots_rules.specs.Access.{RuleSetValue}
use Rattle.fetcher.specs.declared.answer.Answer.{Answer}
use Rattle.fetcher.specs.declared.fetcher.Ask.{Ask}
use Rattle.fetcher.specs.declared.outcome.Outcome.{Outcome}
use Rattle.fetcher.specs.Logs.{GainedAtMost}
use Rattle.fetcher.specs.Sites.{SiteAnswers, AreAnswers}
use Rattle.site_records.specs.Resumption.{Resumption, Resuming, resumption_of, SaysOr, RulesOr, IsUnstated, IsSpared, AreOf}

-- whatever a call gives, the log has gained at most its ask
pub gained : {T E : Type 0} {old new : List Ask} (ask : Ask) (r : Result T E) → OnOk r (new ≡ old ++ ask ∷ []) → OnErr r (GainedAtMost old new ask) → GainedAtMost old new ask
gained ask (Ok x) ok err = inr ok
gained ask (Err e) ok err = err

-- one more ask, of what isn't stated
pub spared_more : {answers : List (AddressText × Answer BodyValue)} {rules : List (OriginText × RuleSetValue)} {since : ℕ} {old new : List Ask} (ask : Ask)
    → IsSpared answers rules since old → IsUnstated answers rules ask → GainedAtMost old new ask → IsSpared answers rules since new
spared_more {answers} {rules} {since} ask h u (inl e) = subst (IsSpared answers rules since) (sym e) h
spared_more {answers} {rules} {since} {old} {new} ask h u (inr e) =
    let long = length-append old (ask ∷ []) in
    let within = h.within in
    subst (IsSpared answers rules since) (sym e) (record {
      within = omega (arith, long, within);
      unstated = subst (All (IsUnstated answers rules)) (sym (drop-append-le since old (ask ∷ []) h.within)) (All-push (IsUnstated answers rules) (drop since old) ask h.unstated u);
    })

-- if a call's error is given, and if its value is
pub on_err : {T E P : Type 0} (r : Result T E) → P → OnErr r P
on_err (Ok x) p = tt
on_err (Err e) p = p

pub on_ok : {T E P : Type 0} (r : Result T E) → P → OnOk r P
on_ok (Ok x) p = p
on_ok (Err e) p = tt

-- what had been asked before stays what it is
pub before_stays : {since : ℕ} {old new : List Ask} (ask : Ask) → since ≤ length old → GainedAtMost old new ask → take since new ≡ take since old
before_stays {since} ask le (inl e) = ap (take since) e
before_stays {since} {old} {new} ask le (inr e) = ap (take since) e ∙ take-append-le since old (ask ∷ []) le

-- the ask that is pushed is after the others
pub logged : {F : Type 0} {r now : Resuming F} {new : List Ask} {x y : Ask} → r ≡ now → new ≡ r.asks ++ x ∷ [] → x ≡ y → new ≡ now.asks ++ y ∷ []
logged {F} {r} {now} {new} {x} {y} view put is = put ∙ ap (λ (a : Ask). r.asks ++ a ∷ []) is ∙ ap (λ (r : Resuming F). r.asks ++ y ∷ []) view

-- the site depends on the fetcher's site and on what this had been asked before
pub same_site : {F S : Type 0} (site : F → S) (log : F → List Ask) (r : Resuming F) (inner : F) (asks : List Ask) → site inner ≡ site r.inner
    → take r.since (log inner) ≡ take r.since (log r.inner) → resumption_of site log (record r { inner = inner; asks = asks }) ≡ resumption_of site log r
same_site {F} {S} site log r inner asks is before =
    let with : S → List Ask → Resumption S = λ s l. record { answers = r.recorded.answers; rules = r.recorded.rules; inner = s; before = l } in
    ap (λ s. with s (take r.since (log inner))) is ∙ ap (with (site r.inner)) before

-- an answer that is stated, and one of the fetcher if none is
pub says_stated : {S : Type 0} (says : S → List ℕ → Outcome → BodyValue → Type 0) (site : Resumption S) (at : List ℕ) (a : Answer BodyValue)
    → lookup (bytes_eq at) site.answers ≡ Some a → SaysOr says site at a.outcome a.body
says_stated says site at a is = subst (λ o. MatchOption o (says site.inner at a.outcome a.body) (λ (b : Answer BodyValue). (a.outcome ≡ b.outcome) × (a.body ≡ b.body))) (sym is) (refl, refl)

pub says_inner : {S : Type 0} (says : S → List ℕ → Outcome → BodyValue → Type 0) (site : Resumption S) (at : List ℕ) (x : Outcome) (body : BodyValue)
    → lookup (bytes_eq at) site.answers ≡ None → says site.inner at x body → SaysOr says site at x body
says_inner says site at x body is h = subst (λ o. MatchOption o (says site.inner at x body) (λ (b : Answer BodyValue). (x ≡ b.outcome) × (body ≡ b.body))) (sym is) h

-- the same of rule sets
pub rules_stated : {S : Type 0} (rules : S → List ℕ → RuleSetValue → Type 0) (site : Resumption S) (of : List ℕ) (r : RuleSetValue)
    → lookup (bytes_eq of) site.rules ≡ Some r → RulesOr rules site of r
rules_stated rules site of r is = subst (λ o. MatchOption o (rules site.inner of r) (λ stated. r ≡ stated)) (sym is) refl

pub rules_inner : {S : Type 0} (rules : S → List ℕ → RuleSetValue → Type 0) (site : Resumption S) (of : List ℕ) (r : RuleSetValue)
    → lookup (bytes_eq of) site.rules ≡ None → rules site.inner of r → RulesOr rules site of r
rules_inner rules site of r is h = subst (λ o. MatchOption o (rules site.inner of r) (λ stated. r ≡ stated)) (sym is) h

-- ---- a steady site

given_or : {S : Type 0} (says : S → List ℕ → Outcome → BodyValue → Type 0) (site : S) (x : Outcome) (at : List ℕ) (o : Option (Answer BodyValue))
    → ((a : Answer BodyValue) → o ≡ Some a → says site at a.outcome a.body) → ((y : Outcome) (body : BodyValue) → says site at y body → y ≡ x)
    → ((body : BodyValue) × says site at x body) → (body : BodyValue) × MatchOption o (says site at x body) (λ a. (x ≡ a.outcome) × (body ≡ a.body))
given_or says site x at None are only given = given
given_or says site x at (Some a) are only given = (a.body, (sym (only a.outcome a.body (are a refl)), refl))

only_or : {S : Type 0} (says : S → List ℕ → Outcome → BodyValue → Type 0) (site : S) (x : Outcome) (at : List ℕ) (o : Option (Answer BodyValue))
    → ((a : Answer BodyValue) → o ≡ Some a → says site at a.outcome a.body) → ((y : Outcome) (body : BodyValue) → says site at y body → y ≡ x)
    → (y : Outcome) (body : BodyValue) → MatchOption o (says site at y body) (λ a. (y ≡ a.outcome) × (body ≡ a.body)) → y ≡ x
only_or says site x at None are only y body h = only y body h
only_or says site x at (Some a) are only y body h = h.0 ∙ only a.outcome a.body (are a refl)

rules_given_or : {S : Type 0} (rules : S → List ℕ → RuleSetValue → Type 0) (site : S) (x : RuleSetValue) (of : List ℕ) (o : Option RuleSetValue)
    → ((r : RuleSetValue) → o ≡ Some r → rules site of r) → ((r : RuleSetValue) → rules site of r → r ≡ x)
    → rules site of x → MatchOption o (rules site of x) (λ stated. x ≡ stated)
rules_given_or rules site x of None are only given = given
rules_given_or rules site x of (Some r) are only given = sym (only r (are r refl))

rules_only_or : {S : Type 0} (rules : S → List ℕ → RuleSetValue → Type 0) (site : S) (x : RuleSetValue) (of : List ℕ) (o : Option RuleSetValue)
    → ((r : RuleSetValue) → o ≡ Some r → rules site of r) → ((r : RuleSetValue) → rules site of r → r ≡ x)
    → (r : RuleSetValue) → MatchOption o (rules site of r) (λ stated. r ≡ stated) → r ≡ x
rules_only_or rules site x of None are only r h = only r h
rules_only_or rules site x of (Some stated) are only r h = h ∙ only stated (are stated refl)

-- answers of a steady site, and the site after them, are that site
pub resumed_is_steady : {S : Type 0} (says : S → List ℕ → Outcome → BodyValue → Type 0) (rules : S → List ℕ → RuleSetValue → Type 0) (site : Resumption S) (answers : SiteAnswers)
    → AreAnswers says rules site.inner answers → AreOf says rules site.inner site.answers site.rules → AreAnswers (SaysOr says) (RulesOr rules) site answers
resumed_is_steady says rules site answers steady are = record {
  given = λ at. given_or says site.inner (answers.outcome at) at (lookup (bytes_eq at) site.answers) (are.answers_are at) (steady.only at) (steady.given at);
  only = λ at. only_or says site.inner (answers.outcome at) at (lookup (bytes_eq at) site.answers) (are.answers_are at) (steady.only at);
  no_fault = steady.no_fault;
  given_rules = λ of. rules_given_or rules site.inner (answers.rules of) of (lookup (bytes_eq of) site.rules) (are.rules_are of) (steady.only_rules of) (steady.given_rules of);
  only_rules = λ of. rules_only_or rules site.inner (answers.rules of) of (lookup (bytes_eq of) site.rules) (are.rules_are of) (steady.only_rules of);
}
