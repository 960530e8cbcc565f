-- It is saved if the order says so.
use Rattle.retriever.specs.Keeping.{kept_as}
use Rattle.retriever.specs.Systems.{means}
use Rattle.retriever.proofs.ResumeLaws.{saves, saves_not}
use Rattle.retriever.proofs.live_order.run_on_record.Goals as goal

pub returns-in-Some-clause-lives : goal.returns-in-Some-clause-lives
returns-in-Some-clause-lives g c =
    let m = means g.S.System c.args.system.now g.S.Fetcher.Fetcher g.S.Recorder.Fetcher g.S.Recorder.Recording.noted (kept_as g.S.Body.HasKind.kind_of g.S.Body.HasKind.len_of g.S.Folder.Shelf.holds) g.S.Folder.Folder g.S.Record.Write in
    saves m c.args.order.now (g.W.Write.contents c.args.writer.now) (g.W.Write.contents c.run_saving.new.writer) c.in-Some.path _ c.run_saving.result c.in-Some.is c.as_str.ensures c.run_saving.ensures.lives

pub returns-in-None-clause-lives : goal.returns-in-None-clause-lives
returns-in-None-clause-lives g c =
    let m = means g.S.System c.args.system.now g.S.Fetcher.Fetcher g.S.Recorder.Fetcher g.S.Recorder.Recording.noted (kept_as g.S.Body.HasKind.kind_of g.S.Body.HasKind.len_of g.S.Folder.Shelf.holds) g.S.Folder.Folder g.S.Record.Write in
    saves_not m c.args.order.now (g.W.Write.contents c.args.writer.now) (g.W.Write.contents c.run_recorded.new.writer) c.run_recorded.result c.in-None.is c.run_recorded.ensures.lives
