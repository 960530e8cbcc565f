-- What a worker does, step by step.
use Rattle.std.proofs.Common.{◌≡◌, ℕ, List, [], ◌∷◌, ◌++◌, length, length-append, map, refl, sym, ap, ◌∙◌, subst, append_assoc, inl, inr, arith}
use Rattle.std.specs.Prelude.{All, Option, Some, None, IfSome, MatchOption}
use Rattle.std.specs.List.{filter_map}
use Rattle.std.proofs.lemmas.List.{map-append, append-nil}
use Rattle.std.proofs.lemmas.Option.{IfSome_then}
use Rattle.std.proofs.lemmas.List.Elements.{All-append, All-nil, All-cons, filter_map-append}
use Rattle.follow_filters.specs.declared.plan.Plan.{Plan}
use Rattle.robots_rules.specs.Access.{RuleSetValue}
use Rattle.fetcher.specs.declared.fetcher.Ask.{Ask}
use Rattle.fetcher.specs.declared.fetcher.Fetcher.{Ghosts as Meaning}
use Rattle.fetcher.specs.declared.fetcher.Ask.TheVariants as ask
use Rattle.fetcher.specs.Logs.{GainedAtMost}
use Rattle.fetcher.specs.declared.outcome.Outcome.{Outcome}
use Rattle.frontier_core.specs.Tables.{Text}
use Rattle.workers.specs.declared.note.PageNote.{PageNote}
use Rattle.workers.specs.declared.note.RulesNote.{RulesNote}
use Rattle.workers.specs.declared.note.Notes.{Notes}
use Rattle.workers.specs.Asks.{page_asked, origin_asked}
use Rattle.workers.specs.inner.Notes.{Goes, body_of, IsPageOfSite, AreRulesOfSite}

-- an ask that found no memory was logged or not, as the log's length says
pub not_logged : (old new : List Ask) (a : Ask) → GainedAtMost old new a → length new ≡ length old → new ≡ old
not_logged old new a (inl is) same = is
not_logged old new a (inr is) same = absurd (let long : length new ≡ length (old ++ a ∷ []) = ap length is in omega (arith, long, same, length-append old (a ∷ [])))

pub was_logged : (old new : List Ask) (a : Ask) → GainedAtMost old new a → (length new ≡ length old → ⊥) → new ≡ old ++ a ∷ []
was_logged old new a (inl is) other = absurd (other (ap length is))
was_logged old new a (inr is) other = is

-- one more at the end of a list that had stayed as it was
pub noted_after : {X : Type 0} (old mid new : List X) (x : X) → new ≡ mid ++ x ∷ [] → mid ≡ old → new ≡ old ++ x ∷ []
noted_after {X = X} old mid new x more same = more ∙ ap (λ (xs : List X). xs ++ x ∷ []) same

-- what a note of a page has, if it has an outcome, was received
told_cases : {B : Type 0} (says : Text → Outcome → B → Type 0) (plan : Plan) (u : Text) (told : Option Outcome) (kept : Option B) (x : Outcome) (body : B) → says u x body
    → MatchOption told (kept ≡ None) (λ y. (y ≡ x) × (kept ≡ body_of plan u y body)) → MatchOption told (kept ≡ None) (λ y. (b : B) × says u y b × (kept ≡ body_of plan u y b))
told_cases says plan u None kept x body said is = is
told_cases says plan u (Some y) kept x body said is = (body, subst (λ z. says u z body) (sym is.0) said, is.1)

pub told_page : {B : Type 0} (says : Text → Outcome → B → Type 0) (plan : Plan) (note : PageNote B) (x : Outcome) (body : B) → says note.address x body
    → MatchOption note.outcome (note.body ≡ None) (λ y. (y ≡ x) × (note.body ≡ body_of plan note.address y body)) → IsPageOfSite says plan note
told_page says plan note x body said is = told_cases says plan note.address note.outcome note.body x body said is

-- and so it is with the rules of an origin
pub told_rules : (may_rule : Text → RuleSetValue → Type 0) (note : RulesNote) (rules : RuleSetValue) → may_rule note.origin rules → IfSome note.rules (λ told. told ≡ rules) → AreRulesOfSite may_rule note
told_rules may_rule note rules may is = IfSome_then note.rules is (λ told same. subst (λ (r : RuleSetValue). may_rule note.origin r) (sym same) may)

module _ {F B : Type 0} (m : Meaning F B) (plan : Plan) (worker : ℕ) where
  -- nothing was done
  pub goes_none : (f : F) (notes : Notes B) → Goes m plan worker (f, notes) (f, notes)
  goes_none f notes = record {
    asks = [];
    pages = [];
    sets = [];
    site_is = refl;
    log_is = sym (append-nil (m.log f));
    pages_are = sym (append-nil notes.pages.items);
    sets_are = sym (append-nil notes.rules.items);
    pages_noted = refl;
    rules_noted = refl;
    told = All-nil (IsPageOfSite (m.says (m.site f)) plan);
    ruled = All-nil (AreRulesOfSite (m.rules (m.site f)));
    own = All-nil (λ (note : PageNote B). note.worker ≡ worker);
    own_sets = All-nil (λ (note : RulesNote). note.worker ≡ worker);
  }

  -- nothing was asked, and nothing noted
  pub goes_idle : (f g : F) (n n' : Notes B) → m.site g ≡ m.site f → m.log g ≡ m.log f → n'.pages.items ≡ n.pages.items → n'.rules.items ≡ n.rules.items
      → Goes m plan worker (f, n) (g, n')
  goes_idle f g n n' same_site same_log same_pages same_sets = record {
    asks = [];
    pages = [];
    sets = [];
    site_is = same_site;
    log_is = same_log ∙ sym (append-nil (m.log f));
    pages_are = same_pages ∙ sym (append-nil n.pages.items);
    sets_are = same_sets ∙ sym (append-nil n.rules.items);
    pages_noted = refl;
    rules_noted = refl;
    told = All-nil (IsPageOfSite (m.says (m.site f)) plan);
    ruled = All-nil (AreRulesOfSite (m.rules (m.site f)));
    own = All-nil (λ (note : PageNote B). note.worker ≡ worker);
    own_sets = All-nil (λ (note : RulesNote). note.worker ≡ worker);
  }

  -- a page was requested, and noted
  pub goes_page : (f g : F) (n n' : Notes B) (note : PageNote B) → m.site g ≡ m.site f → m.log g ≡ m.log f ++ ask.Page note.address ∷ []
      → n'.pages.items ≡ n.pages.items ++ note ∷ [] → n'.rules.items ≡ n.rules.items → IsPageOfSite (m.says (m.site f)) plan note → note.worker ≡ worker → Goes m plan worker (f, n) (g, n')
  goes_page f g n n' note same_site logged noted same_sets told own = record {
    asks = ask.Page note.address ∷ [];
    pages = note ∷ [];
    sets = [];
    site_is = same_site;
    log_is = logged;
    pages_are = noted;
    sets_are = same_sets ∙ sym (append-nil n.rules.items);
    pages_noted = refl;
    rules_noted = refl;
    told = All-cons (IsPageOfSite (m.says (m.site f)) plan) note [] told (All-nil (IsPageOfSite (m.says (m.site f)) plan));
    ruled = All-nil (AreRulesOfSite (m.rules (m.site f)));
    own = All-cons (λ (note : PageNote B). note.worker ≡ worker) note [] own (All-nil (λ (note : PageNote B). note.worker ≡ worker));
    own_sets = All-nil (λ (note : RulesNote). note.worker ≡ worker);
  }

  -- an origin's rules were requested, and noted
  pub goes_rules : (f g : F) (n n' : Notes B) (note : RulesNote) → m.site g ≡ m.site f → m.log g ≡ m.log f ++ ask.Rules note.origin ∷ []
      → n'.pages.items ≡ n.pages.items → n'.rules.items ≡ n.rules.items ++ note ∷ [] → AreRulesOfSite (m.rules (m.site f)) note → note.worker ≡ worker → Goes m plan worker (f, n) (g, n')
  goes_rules f g n n' note same_site logged same_pages noted told own = record {
    asks = ask.Rules note.origin ∷ [];
    pages = [];
    sets = note ∷ [];
    site_is = same_site;
    log_is = logged;
    pages_are = same_pages ∙ sym (append-nil n.pages.items);
    sets_are = noted;
    pages_noted = refl;
    rules_noted = refl;
    told = All-nil (IsPageOfSite (m.says (m.site f)) plan);
    ruled = All-cons (AreRulesOfSite (m.rules (m.site f))) note [] told (All-nil (AreRulesOfSite (m.rules (m.site f))));
    own = All-nil (λ (note : PageNote B). note.worker ≡ worker);
    own_sets = All-cons (λ (note : RulesNote). note.worker ≡ worker) note [] own (All-nil (λ (note : RulesNote). note.worker ≡ worker));
  }

  -- one thing was done after the other
  pub goes_on : (f g h : F) (n n' n'' : Notes B) → Goes m plan worker (f, n) (g, n') → Goes m plan worker (g, n') (h, n'') → Goes m plan worker (f, n) (h, n'')
  goes_on f g h n n' n'' a b = record {
    asks = a.asks ++ b.asks;
    pages = a.pages ++ b.pages;
    sets = a.sets ++ b.sets;
    site_is = b.site_is ∙ a.site_is;
    log_is = b.log_is ∙ (ap (λ (x : List Ask). x ++ b.asks) a.log_is ∙ append_assoc (m.log f) a.asks b.asks);
    pages_are = b.pages_are ∙ (ap (λ (x : List (PageNote B)). x ++ b.pages) a.pages_are ∙ append_assoc n.pages.items a.pages b.pages);
    sets_are = b.sets_are ∙ (ap (λ (x : List RulesNote). x ++ b.sets) a.sets_are ∙ append_assoc n.rules.items a.sets b.sets);
    pages_noted = filter_map-append page_asked a.asks b.asks ∙ (ap (λ (x : List Text). x ++ filter_map page_asked b.asks) a.pages_noted
        ∙ (ap (λ (x : List Text). map (λ (note : PageNote B). note.address) a.pages ++ x) b.pages_noted ∙ sym (map-append (λ (note : PageNote B). note.address) a.pages b.pages)));
    rules_noted = filter_map-append origin_asked a.asks b.asks ∙ (ap (λ (x : List Text). x ++ filter_map origin_asked b.asks) a.rules_noted
        ∙ (ap (λ (x : List Text). map (λ (note : RulesNote). note.origin) a.sets ++ x) b.rules_noted ∙ sym (map-append (λ (note : RulesNote). note.origin) a.sets b.sets)));
    told = All-append (IsPageOfSite (m.says (m.site f)) plan) a.pages b.pages a.told (subst (λ (s : m.Site). All (IsPageOfSite (m.says s) plan) b.pages) a.site_is b.told);
    ruled = All-append (AreRulesOfSite (m.rules (m.site f))) a.sets b.sets a.ruled (subst (λ (s : m.Site). All (AreRulesOfSite (m.rules s)) b.sets) a.site_is b.ruled);
    own = All-append (λ (note : PageNote B). note.worker ≡ worker) a.pages b.pages a.own b.own;
    own_sets = All-append (λ (note : RulesNote). note.worker ≡ worker) a.sets b.sets a.own_sets b.own_sets;
  }
