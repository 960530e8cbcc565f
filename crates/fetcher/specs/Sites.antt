-- Steady sites: each address has one outcome there, which is no fault, and each origin one rule set.
use Rattle.std.specs.Prelude.{◌≡◌, ℕ, false, List, [], refl}
use Rattle.robots_rules.specs.Access.{RuleSetValue}
use Rattle.kept_bodies.specs.Bodies.{BodyValue, no_body}
use Rattle.kept_bodies.specs.declared.body_kind.BodyKind.TheVariants.{Html}
use Rattle.fetcher.specs.declared.outcome.Outcome.{Outcome}
use Rattle.fetcher.specs.declared.outcome.Outcome.TheVariants.{Page, Moved, Leaf, Fault}
use Rattle.fetcher.specs.declared.status.TheConstants.{NOT_FOUND}
use Rattle.fetcher.specs.Outcomes.{is_fault}

-- the one outcome of each address, and the one rule set of each origin (RFC 9309, section 2.3)
pub record SiteAnswers : Type 0 where
  pub outcome : List ℕ → Outcome
  pub rules : List ℕ → RuleSetValue

-- the body of an outcome that comes alone: no bytes, which are HTML if it is a page
abbrev pub bare_body : Outcome → BodyValue
bare_body (Page status links) = record { kind = Html; bytes = [] }
bare_body other = no_body

-- such a site gives an address its outcome, with the body of an outcome that comes alone
abbrev pub GivesOutcome : SiteAnswers → List ℕ → Outcome → BodyValue → Type 0
GivesOutcome site at x body = (x ≡ site.outcome at) × (body ≡ bare_body x)

-- such a site gives an origin its rule set
abbrev pub GivesRules : SiteAnswers → List ℕ → RuleSetValue → Type 0
GivesRules site of r = r ≡ site.rules of

-- these are the answers of a site: each address has exactly this outcome, which is no fault, and each origin exactly these rules
pub record AreAnswers {S B : Type 0} (says : S → List ℕ → Outcome → B → Type 0) (rules : S → List ℕ → RuleSetValue → Type 0) (site : S) (answers : SiteAnswers) : Type 0 where
  pub given : (at : List ℕ) → (body : B) × says site at (answers.outcome at) body
  pub only : (at : List ℕ) (x : Outcome) (body : B) → says site at x body → x ≡ answers.outcome at
  pub no_fault : (at : List ℕ) → is_fault (answers.outcome at) ≡ false
  pub given_rules : (of : List ℕ) → rules site of (answers.rules of)
  pub only_rules : (of : List ℕ) (r : RuleSetValue) → rules site of r → r ≡ answers.rules of

-- the site has such answers
abbrev pub IsSteady : {S B : Type 0} → (S → List ℕ → Outcome → B → Type 0) → (S → List ℕ → RuleSetValue → Type 0) → S → Type 0
IsSteady says rules site = (answers : SiteAnswers) × AreAnswers says rules site answers

-- ---- a site that is steady whatever its answers are

-- the outcome, and that of an address that names nothing in place of a fault
abbrev pub unless_fault : Outcome → Outcome
unless_fault (Fault kind) = Leaf NOT_FOUND
unless_fault other = other

-- the answers without their faults
abbrev pub without_faults : SiteAnswers → SiteAnswers
without_faults site = record { outcome = λ at. unless_fault (site.outcome at); rules = site.rules }

-- what is left is no fault
pub is_fault-unless_fault : (x : Outcome) → is_fault (unless_fault x) ≡ false
is_fault-unless_fault (Page status links) = refl
is_fault-unless_fault (Moved status target) = refl
is_fault-unless_fault (Leaf status) = refl
is_fault-unless_fault (Fault kind) = refl

-- a site of such answers is steady
pub without_faults-IsSteady : (site : SiteAnswers) → IsSteady GivesOutcome GivesRules (without_faults site)
without_faults-IsSteady site = (
  without_faults site,
  record {
    given = λ at. (bare_body (unless_fault (site.outcome at)), (refl, refl));
    only = λ at x body h. h.0;
    no_fault = λ at. is_fault-unless_fault (site.outcome at);
    given_rules = λ of. refl;
    only_rules = λ of r h. h;
  },
)
