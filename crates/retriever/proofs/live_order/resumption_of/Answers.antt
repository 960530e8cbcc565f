-- What is read of the file that the order names is what it resumes.
use Rattle.retriever.specs.Keeping.{kept_as}
use Rattle.retriever.specs.Systems.{means}
use Rattle.retriever.proofs.ResumeLaws.{read_resumed, read_not_resumed}
use Rattle.retriever.proofs.live_order.resumption_of.Goals as goal

pub returns-in-Some : goal.returns-in-Some
returns-in-Some g c =
    let m = means g.S.System c.args.system.now g.S.Fetcher.Fetcher g.S.Recorder.Fetcher g.S.Recorder.Recording.noted (kept_as g.S.Body.HasKind.kind_of g.S.Body.HasKind.len_of g.S.Folder.Shelf.holds) g.S.Folder.Folder g.S.Record.Write in
    record {
      ok = read_resumed m c.args.order.now c.in-Some.path _ c.read_record.result c.in-Some.is c.as_str.ensures c.read_record.ensures.ok;
      err = read_not_resumed m c.args.order.now c.in-Some.path _ c.read_record.result c.in-Some.is c.as_str.ensures c.read_record.ensures.err;
    }
