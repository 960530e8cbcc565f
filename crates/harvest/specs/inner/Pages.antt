-- What proofs alone need beside `Pages`.
use Rattle.std.specs.Prelude.{◌↔◌, ◌&&◌, List, [], ◌∷◌, map, All, Contains, if◌then◌else◌}
use Rattle.follow_filters.specs.Rules.{keeps_of}
use Rattle.follow_filters.specs.declared.plan.Plan.{Plan}
use Rattle.fetcher.specs.declared.outcome.Outcome.{Outcome}
use Rattle.frontier_core.specs.Tables.{Text, IsOnce}
use Rattle.frontier_core.specs.Routes.{Answers}
use Rattle.harvest.specs.declared.page.KeptPage.{KeptPage}
use Rattle.harvest.specs.Pages.{is_success, IsKept, IsBodyOf}

-- the pages of which a response is kept: this one, or none
abbrev pub kept_pages_of : {B : Type 0} → Plan → Text → Outcome → B → List (KeptPage B)
kept_pages_of plan u x body = if keeps_of plan u && is_success x then record { address = u; body = body } ∷ [] else []

-- the pages are those that are kept, each once, with bodies that the site may give
pub record AreKept {B : Type 0} (may_say : Text → Outcome → B → Type 0) (plan : Plan) (m : Answers) (pages : List (KeptPage B)) : Type 0 where
  pub once : IsOnce (map (λ page. page.address) pages)
  pub addresses : (u : Text) → Contains (map (λ page. page.address) pages) u ↔ IsKept plan m u
  pub bodies : All (λ page. IsBodyOf may_say m page.address page.body) pages
