-- A live retrieval found what it results in.
use Rattle.local_tree.specs.Folders.{holding}
use Rattle.retriever.specs.Found.{outside}
use Rattle.retriever.specs.Keeping.{kept_as}
use Rattle.retriever.proofs.LiveLaws.{finds_of_lives}
use Rattle.retriever.proofs.live_run.live.Goals as goal

pub returns : goal.returns
returns g c =
    let D = g.D.Folder in
    let W = g.W.Write in
    let lives = c.live_shown-status.ensures.lives in
    record {
      lives = lives;
      finds = finds_of_lives g.F.Fetcher (kept_as g.F.Body.HasKind.kind_of g.F.Body.HasKind.len_of g.D.Shelf.holds) c.args.order.now c.args.fetchers.items (outside (holding D.files D.failed c.args.folder.now) (W.contents c.args.writer.now))
          (outside (holding D.files D.failed c.live_shown-status.new.folder) (W.contents c.live_shown-status.new.writer)) c.live_shown-status.result.0 lives;
    }
