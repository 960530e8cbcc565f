-- The fetchers are the system's, each with the record before it, and the folder is its, too.
use Rattle.std.proofs.Common.{ℕ, List, false, inl, inr, refl, subst}
use Rattle.std.proofs.lemmas.Result.{err_from_is_err_and}
use Rattle.local_tree.specs.Folders.{holding}
use Rattle.local_tree.specs.declared.disk_folder.originals.Originals.{Originals}
use Rattle.site_records.specs.Resumption.{Resuming}
use Rattle.retriever.specs.Found.{outside}
use Rattle.retriever.specs.Keeping.{in_memory}
use Rattle.retriever.specs.Live.{LiveRun}
use Rattle.retriever.specs.Rejecting.{IsLogOfCrew}
use Rattle.retriever.specs.Saving.{resuming_means}
use Rattle.retriever.proofs.LogLaws.{logged_more}
use Rattle.retriever.proofs.live_order.run_recorded.Goals as goal

pub returns : goal.returns
returns g c =
    let D = g.S.Folder.Folder in
    let W = g.W.Write in
    let those = c.in_ok-resumed.ensures.resumed in
    let before = outside (holding D.files D.failed c.in_ok-folder.folder) (W.contents c.args.writer.now) in
    let after = outside (holding D.files D.failed c.run_into.new.folder) (W.contents c.run_into.new.writer) in
    record {
      lives = record {
        recorded = c.args.recorded.now;
        resumed = c.requires.resumed;
        fetchers = those.fetchers;
        folder = c.in_ok-folder.folder;
        given = record {
          made = those.made;
          count = those.count;
          opened = subst (λ (kept : Originals). g.S.System.opens c.args.system.now c.args.order.now.prefix kept c.in_ok-folder.folder) c.originals_of.ensures (subst (λ (path : List ℕ). g.S.System.opens c.args.system.now path c.originals_of.result c.in_ok-folder.folder) c.as_str.ensures c.in_ok-folder.ensures);
        };
        left = c.run_into.new.folder;
        lives = subst (λ (fs : List (Resuming _)). LiveRun (resuming_means g.S.Recorder.Fetcher) in_memory c.args.order.now fs before after c.run_into.result) those.are c.run_into.ensures.lives;
      };
      unwritten = tt;
      logged = logged_more _ _ _ _ c.run_into.ensures.logged
          (λ text log. inr (record {
            recorded = c.args.recorded.now;
            resumed = c.requires.resumed;
            is_recording = false;
            fetchers = those.fetchers;
            made = those.made;
            count = those.count;
            log = subst (λ (fs : List (Resuming _)). IsLogOfCrew (resuming_means g.S.Recorder.Fetcher) c.args.order.now fs text) those.are log;
          }));
    }

pub returns-in_err-resumed : goal.returns-in_err-resumed
returns-in_err-resumed g c =
    let p = err_from_is_err_and c.from_residual.result c.from_residual.ensures.1 in
    rw p.1 (record { lives = tt; unwritten = refl; logged = inl refl })

pub returns-in_err-folder : goal.returns-in_err-folder
returns-in_err-folder g c =
    let p = err_from_is_err_and c.from_residual-in_err-folder.result c.from_residual-in_err-folder.ensures.1 in
    rw p.1 (record { lives = tt; unwritten = refl; logged = inl refl })
