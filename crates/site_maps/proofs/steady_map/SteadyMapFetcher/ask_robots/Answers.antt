-- The map stays one without faults.
use Rattle.std.proofs.Common.{ap, ◌∙◌}
use Rattle.fetcher.specs.Outcomes.{is_fault}
use Rattle.fetcher.specs.Sites.{SiteAnswers}
use Rattle.site_maps.proofs.steady_map.SteadyMapFetcher.ask_robots.Goals as goal

pub invariant_of-self : goal.invariant_of-self
invariant_of-self c = λ at. ap (λ (s : SiteAnswers). is_fault (s.outcome at)) c.ask_robots.ensures.site ∙ c.self.invariant at
