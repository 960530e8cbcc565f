-- The fetchers, the folder and the record's writer are the system's. Before each fetcher is the record, whose notes are saved first.
use Rattle.std.proofs.Common.{ℕ, List, inl, inr, refl, subst, true}
use Rattle.std.proofs.lemmas.Result.{err_from_is_err_and}
use Rattle.answer_notes.specs.declared.noted.Noted.{Noted}
use Rattle.local_tree.specs.Folders.{holding}
use Rattle.local_tree.specs.declared.disk_folder.originals.Originals.{Originals}
use Rattle.site_records.specs.Resumption.{Resuming}
use Rattle.retriever.specs.Rejecting.{IsLogOfCrew}
use Rattle.retriever.specs.Saving.{SavedRun, notes_of, noted_within, outside_saved, resuming_means}
use Rattle.retriever.proofs.LogLaws.{crew_taken, logged_more}
use Rattle.retriever.proofs.live_order.run_saving.Goals as goal

pub returns-clause-lives : goal.returns-clause-lives
returns-clause-lives g c =
    let D = g.S.Folder.Folder in
    let V = g.S.Record.Write in
    let those = c.in_ok-resumed.ensures.resumed in
    let lives = λ (given : List Noted) (all : List (Resuming _)). SavedRun (notes_of (resuming_means g.S.Recorder.Fetcher) (noted_within g.S.Recorder.Recording.noted) given) c.args.order.now all
    (outside_saved (holding D.files D.failed c.in_ok-folder.folder) (g.W.Write.contents c.args.writer.now) (V.contents c.in_ok-saved.saved))
    (outside_saved (holding D.files D.failed c.live_saved-status.new.folder) (g.W.Write.contents c.live_saved-status.new.writer) (V.contents c.live_saved-status.new.saved)) c.live_saved-status.result.0 in
    let of_record = subst (λ (given : List Noted). lives given c.in_ok-resumed.resumed.items) c.notes.ensures c.live_saved-status.ensures.lives in
    record {
      recorded = c.args.recorded.now;
      resumed = c.requires.resumed;
      fetchers = those.fetchers;
      folder = c.in_ok-folder.folder;
      given = record {
        made = those.made;
        count = those.count;
        opened = subst (λ (kept : Originals). g.S.System.opens c.args.system.now c.args.order.now.prefix kept c.in_ok-folder.folder) c.originals_of.ensures (subst (λ (path : List ℕ). g.S.System.opens c.args.system.now path c.originals_of.result c.in_ok-folder.folder) c.as_str.ensures c.in_ok-folder.ensures);
      };
      left = c.live_saved-status.new.folder;
      record_begun = c.in_ok-saved.saved;
      named = c.in_ok-saved.ensures;
      record_left = c.live_saved-status.new.saved;
      lives = inl (subst (λ (all : List (Resuming _)). lives c.args.recorded.now.notes all) those.are of_record);
    }

pub returns-clause-unwritten : goal.returns-clause-unwritten
returns-clause-unwritten g c = tt

pub returns-clause-logged : goal.returns-clause-logged
returns-clause-logged g c =
    let those = c.in_ok-resumed.ensures.resumed in
    let order = c.args.order.now in
    logged_more _ _ _ _
    (crew_taken (resuming_means g.S.Recorder.Fetcher) order c.in_ok-resumed.resumed.items c.live_saved-status.result.1 c.log_of.result _ _ c.live_saved-status.ensures.retrieved c.log_of.ensures.log c.hand_over.ensures)
    (λ text log. inr (record {
      recorded = c.args.recorded.now;
      resumed = c.requires.resumed;
      is_recording = true;
      fetchers = those.fetchers;
      made = those.made;
      count = those.count;
      log = subst (λ (fs : List (Resuming _)). IsLogOfCrew (resuming_means g.S.Recorder.Fetcher) order fs text) those.are log;
    }))

pub returns-in_err-resumed : goal.returns-in_err-resumed
returns-in_err-resumed g c =
    let p = err_from_is_err_and c.from_residual.result c.from_residual.ensures.1 in
    rw p.1 (record { lives = tt; unwritten = refl; logged = inl refl })

pub returns-in_err-folder : goal.returns-in_err-folder
returns-in_err-folder g c =
    let p = err_from_is_err_and c.from_residual-in_err-folder.result c.from_residual-in_err-folder.ensures.1 in
    rw p.1 (record { lives = tt; unwritten = refl; logged = inl refl })

pub returns-in_err-saved : goal.returns-in_err-saved
returns-in_err-saved g c =
    let p = err_from_is_err_and c.from_residual-in_err-saved.result c.from_residual-in_err-saved.ensures.1 in
    rw p.1 (record { lives = tt; unwritten = refl; logged = inl refl })
