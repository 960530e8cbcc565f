-- The map answers no fault.
use Rattle.std.proofs.Common.{ap, ◌∙◌}
use Rattle.fetcher.specs.Outcomes.{is_fault}
use Rattle.fetcher.specs.Sites.{SiteAnswers}
use Rattle.site_maps.specs.Maps.{says_of}
use Rattle.site_maps.proofs.SteadyLaws.{told_steady}
use Rattle.site_maps.proofs.steady_map.SteadyMapFetcher.ask.Goals as goal

pub invariant_of-self : goal.invariant_of-self
invariant_of-self c = λ at. ap (λ (s : SiteAnswers). is_fault (s.outcome at)) c.ask.ensures.site ∙ c.self.invariant at

pub returns-clause-told : goal.returns-clause-told
returns-clause-told c =
    let map = c.self.inside.map in
    let at = c.args.at.now in
    rw (← c.self.view_is) (told_steady c.ask.result (says_of map.answers map.rules) at (c.self.invariant at) c.ask.ensures.told)
