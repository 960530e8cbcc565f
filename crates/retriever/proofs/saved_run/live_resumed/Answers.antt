-- The fetchers that resume are those that the record makes of the given ones.
use Rattle.std.proofs.Common.{List, inl, inr, refl, subst}
use Rattle.answer_notes.specs.declared.noted.Noted.{Noted}
use Rattle.local_tree.specs.Folders.{holding}
use Rattle.site_records.specs.Resumption.{Resuming}
use Rattle.retriever.specs.Saving.{SavedRun, notes_of, noted_within, outside_saved, resuming_means}
use Rattle.retriever.proofs.saved_run.live_resumed.Goals as goal

pub returns-in-Ok : goal.returns-in-Ok
returns-in-Ok g c =
    let D = g.D.Folder in
    let lives = λ (given : List Noted) (all : List (Resuming g.row.F.Denot)). SavedRun (notes_of (resuming_means g.F.Fetcher) (noted_within g.F.Recording.noted) given) c.args.order.now all
    (outside_saved (holding D.files D.failed c.args.folder.now) (g.W.Write.contents c.args.writer.now) (g.V.Write.contents c.args.saved.now))
    (outside_saved (holding D.files D.failed c.live_saved-status.new.folder) (g.W.Write.contents c.live_saved-status.new.writer) (g.V.Write.contents c.live_saved-status.new.saved)) c.live_saved-status.result.0 in
    let of_record = subst (λ (given : List Noted). lives given c.in-Ok.resuming.items) c.notes.ensures c.live_saved-status.ensures.lives in
    record { lives = inl (subst (λ (all : List (Resuming g.row.F.Denot)). lives c.args.recorded.now.notes all) c.in-Ok.ensures.resuming of_record) }

pub returns-in-Err : goal.returns-in-Err
returns-in-Err g c = record { lives = inr (c.deliver.ensures, refl, refl) }
