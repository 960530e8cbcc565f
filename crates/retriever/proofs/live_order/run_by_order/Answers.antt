-- Which of the three it is, by what the order names.
use Rattle.std.proofs.Common.{◌∙◌, sym}
use Rattle.retriever.specs.Keeping.{kept_as}
use Rattle.retriever.specs.Systems.{means}
use Rattle.retriever.proofs.ResumeLaws.{plainly, not_plainly}
use Rattle.retriever.proofs.live_order.run_by_order.Goals as goal

pub returns-then-is_plain-clause-lives : goal.returns-then-is_plain-clause-lives
returns-then-is_plain-clause-lives g c =
    let m = means g.S.System c.args.system.now g.S.Fetcher.Fetcher g.S.Recorder.Fetcher g.S.Recorder.Recording.noted (kept_as g.S.Body.HasKind.kind_of g.S.Body.HasKind.len_of g.S.Folder.Shelf.holds) g.S.Folder.Folder g.S.Record.Write in
    plainly m c.args.order.now (g.W.Write.contents c.args.writer.now) (g.W.Write.contents c.run_plain.new.writer) _ _ _ (sym c.is_plain.ensures ∙ c.if-is_plain.true) c.in_ok-run_plain.ensures.lives

pub returns-clause-lives : goal.returns-clause-lives
returns-clause-lives g c =
    let m = means g.S.System c.args.system.now g.S.Fetcher.Fetcher g.S.Recorder.Fetcher g.S.Recorder.Recording.noted (kept_as g.S.Body.HasKind.kind_of g.S.Body.HasKind.len_of g.S.Folder.Shelf.holds) g.S.Folder.Folder g.S.Record.Write in
    not_plainly m c.args.order.now (g.W.Write.contents c.args.writer.now) (g.W.Write.contents c.run_on_record-lived.new.writer) _ _ _ (sym c.is_plain.ensures ∙ c.if-is_plain.false) c.in_ok-lived.ensures.lives
