-- The site is the map's, and what is retrieved is what it has.
use Rattle.site_maps.specs.Maps.{says_of}
use Rattle.retriever.specs.Site.{IsMapOf, with_bare_bodies}
use Rattle.retriever.proofs.EndLaws.{map_fits, map_kinds}
use Rattle.retriever.proofs.LogLaws.{log_told}
use Rattle.retriever.proofs.input_run.output_of_map.Goals as goal

pub returns-clause-ok : goal.returns-clause-ok
returns-clause-ok g c =
    let site = says_of c.in_ok-site.site.answers c.in_ok-site.site.rules in
    (with_bare_bodies site, c.in_ok-site.ensures.ok, (c.in_ok-told.ensures (with_bare_bodies site) (map_fits site) (map_kinds site)).0)

pub returns-clause-rejected : goal.returns-clause-rejected
returns-clause-rejected g c =
    let site = says_of c.in_ok-site.site.answers c.in_ok-site.site.rules in
    log_told IsMapOf c.args.order.now (g.R.Read.remaining c.args.reader.now) _ _ c.in_ok-site.ensures.ok (c.in_ok-told.ensures (with_bare_bodies site) (map_fits site) (map_kinds site)).1
