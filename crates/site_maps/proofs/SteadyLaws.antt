-- A map without fault lines never answers a fault, so taking faults out of its answers changes none.
use Rattle.std.proofs.Common.{◌≡◌, ℕ, Bool, true, false, ◌||◌, List, [], ◌∷◌, Option, Some, Result, Ok, Err, refl, sym, ◌∙◌, cond}
use Rattle.std.specs.Prelude.{IfOk, unwrap_or}
use Rattle.std.specs.List.{list_any}
use Rattle.std.specs.Map.{lookup, values_of}
use Rattle.std.specs.Str.{bytes_eq}
use Rattle.kept_bodies.specs.Bodies.{BodyValue}
use Rattle.fetcher.specs.declared.answer.Answer.{Answer}
use Rattle.fetcher.specs.declared.outcome.Outcome.{Outcome}
use Rattle.fetcher.specs.declared.outcome.Outcome.TheVariants.{Page, Moved, Leaf, Fault}
use Rattle.fetcher.specs.declared.status.TheConstants.{NOT_FOUND}
use Rattle.fetcher.specs.Outcomes.{is_fault}
use Rattle.fetcher.specs.Sites.{SiteAnswers, GivesOutcome, unless_fault, without_faults}
use Rattle.site_maps.specs.MapSites.{has_fault}
use Rattle.site_maps.specs.Maps.{outcome_in_map}

-- of two tests that one is true neither is, if that is false
or_parts : (a b : Bool) → (a || b) ≡ false → (a ≡ false) × (b ≡ false)
or_parts true b h = absurd cc
or_parts false b h = (refl, h)

-- the same of one look-up
never_at : (test : List ℕ → Bool) (answers : List (List ℕ × Outcome)) → list_any is_fault (values_of answers) ≡ false
    → is_fault (unwrap_or (lookup test answers) (Leaf NOT_FOUND)) ≡ false
never_at test [] h = refl
never_at test (a ∷ more) h =
    let both = or_parts (is_fault a.1) (list_any is_fault (values_of more)) h in
    first (test a.0) a.1 (lookup test more) both.0 (never_at test more both.1)
  where
    first : (b : Bool) (x : Outcome) (rest : Option Outcome) → is_fault x ≡ false → is_fault (unwrap_or rest (Leaf NOT_FOUND)) ≡ false
        → is_fault (unwrap_or (cond b (Some x) rest) (Leaf NOT_FOUND)) ≡ false
    first true x rest here later = here
    first false x rest here later = later

-- no address has a fault
pub never_fails : (answers : List (List ℕ × Outcome)) → has_fault answers ≡ false → (at : List ℕ) → is_fault (outcome_in_map answers at) ≡ false
never_fails answers h at = never_at (bytes_eq at) answers h

-- an outcome that is no fault stays
unless_fault_same : (x : Outcome) → is_fault x ≡ false → unless_fault x ≡ x
unless_fault_same (Page status links) h = refl
unless_fault_same (Moved status target) h = refl
unless_fault_same (Leaf status) h = refl
unless_fault_same (Fault kind) h = absurd cc

-- what a site answers that never fails, the site without its faults answers too
pub told_steady : {E : Type 0} (r : Result (Answer BodyValue) E) (site : SiteAnswers) (at : List ℕ) → is_fault (site.outcome at) ≡ false
    → IfOk r (λ a. GivesOutcome site at a.outcome a.body) → IfOk r (λ a. GivesOutcome (without_faults site) at a.outcome a.body)
told_steady (Ok a) site at never h = (h.0 ∙ sym (unless_fault_same (site.outcome at) never), h.1)
told_steady (Err e) site at never h = h
