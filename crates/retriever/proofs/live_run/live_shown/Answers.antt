-- What the crew retrieved is put and written.
use Rattle.std.proofs.Common.{◌∙◌, subst}
use Rattle.local_tree.specs.Folders.{holding}
use Rattle.workers.specs.Quotas.{KeepsTo}
use Rattle.retriever.specs.Found.{crew_of, outside}
use Rattle.retriever.specs.Keeping.{kept_as}
use Rattle.retriever.specs.inner.Parts.{IsWrittenAs}
use Rattle.retriever.proofs.LiveLaws.{crew_ends, lives_from, of_crew}
use Rattle.retriever.proofs.LogLaws.{retrieved_by}
use Rattle.retriever.proofs.live_run.live_shown.Goals as goal

pub returns : goal.returns
returns g c =
    let F = g.F.Fetcher in
    let D = g.D.Folder in
    let W = g.W.Write in
    let keeps = kept_as g.F.Body.HasKind.kind_of g.F.Body.HasKind.len_of g.D.Shelf.holds in
    let r = c.retrieve_shown-retrieved.result.0 in
    let news = c.retrieve_shown-retrieved.result.1.items in
    let known = c.retrieve_shown-retrieved.ensures in
    let olds = c.args.fetchers.items in
    let crew = crew_of F keeps olds news in
    let by = of_crew crew r c.args.fetchers.len c.args.fetchers.ok.0 known.numbered known.own in
    let ends = crew_ends crew c.args.order.now r (holding D.files D.failed c.args.folder.now) (holding D.files D.failed c.finish-told.new.folder)
    (IsWrittenAs (W.contents c.args.writer.now) (W.contents c.finish-told.new.writer) c.finish-told.result)
    known.ok known.err known.full (λ is. known.one (c.args.fetchers.ok.0 ∙ is)) by (subst (λ most. KeepsTo most g.F.Body.HasKind.len_of r) c.of-quota.ensures known.quota) c.finish-told.ensures in
    record {
      lives = lives_from F keeps c.args.order.now olds news (outside (holding D.files D.failed c.args.folder.now) (W.contents c.args.writer.now))
          (outside (holding D.files D.failed c.finish-told.new.folder) (W.contents c.finish-told.new.writer)) c.finish-told.result c.last_status-status.result known.fetchers c.last_status-status.ensures ends;
      retrieved = retrieved_by F c.args.order.now.plan olds news r known.fetchers known.ok;
    }
