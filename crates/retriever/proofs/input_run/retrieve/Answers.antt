-- What the crew retrieved is what the site has.
use Rattle.std.proofs.Common.{◌≢◌, ◌∙◌, subst}
use Rattle.std.specs.Prelude.{IfOk, IfErr}
use Rattle.frontier_core.specs.declared.event.Cause.TheVariants as why
use Rattle.workers.specs.OneWorker.{AreByCrew}
use Rattle.retriever.specs.Site.{whole_of}
use Rattle.workers.proofs.ServingLaws.{crew_fits}
use Rattle.workers.proofs.QuotaLaws.{unlimited}
use Rattle.retriever.proofs.EndLaws.{copies_fit, copies_kinds, crew_kinds, told_finishes}
use Rattle.retriever.proofs.LogLaws.{output_logged}
use Rattle.retriever.proofs.input_run.retrieve.Goals as goal

pub returns : goal.returns
returns g c = λ told fits has.
    let F = g.F.Fetcher in
    let whole = whole_of told in
    let r = c.retrieve_shown-retrieved.result.0 in
    let crew = c.retrieve_shown-retrieved.ensures in
    let copies = c.in_ok-copies.copies.items in
    let fit = copies_fit F whole c.args.site.now c.args.order.now.workers copies c.in_ok-copies.ensures.equal fits in
    let by = subst (λ n. IfOk r (λ h. AreByCrew n h.trace) × IfErr r (λ halt. halt.cause ≢ why.Mismatch → AreByCrew n halt.harvest.trace)) c.in_ok-copies.ensures.count crew.numbered in
    let have = copies_kinds F told c.args.site.now c.args.order.now.workers copies c.in_ok-copies.ensures.equal has in
    let left = c.retrieve_shown-retrieved.result.1.items in
    output_logged c.args.order.now told _ _ _ r c.log_of-rejected.result c.render_retrieval-told.result c.log_of-rejected.ensures.log crew.ok (crew.whole_site whole fit) c.render_retrieval-told.ensures.rejected
    (told_finishes c.args.order.now _ _ told _ r _ (crew_fits F copies left whole fit) (crew_kinds F told copies left have) crew.ok (crew.whole_site whole fit) crew.err
    (crew.full_site whole fit) (λ one. crew.one (c.in_ok-copies.ensures.count ∙ one)) (unlimited _ r crew.quota) by c.render_retrieval-told.ensures.told)
