-- Each of the system's fetchers has the record before it.
use Rattle.std.proofs.Common.{◌≡◌, ◌∙◌, ℕ, sym, subst}
use Rattle.std.specs.Prelude.{IfOk, vec_len}
use Rattle.std.proofs.lemmas.Result.{IfOk-from_err}
use Rattle.retriever.specs.Keeping.{kept_as}
use Rattle.retriever.specs.Systems.{means}
use Rattle.retriever.proofs.ResumeLaws.{are_resuming}
use Rattle.retriever.proofs.live_order.resumed_of.Goals as goal

pub returns : goal.returns
returns g c =
    let m = means g.S.System c.args.system.now g.S.Fetcher.Fetcher g.S.Recorder.Fetcher g.S.Recorder.Recording.noted (kept_as g.S.Body.HasKind.kind_of g.S.Body.HasKind.len_of g.S.Folder.Shelf.holds) g.S.Folder.Folder g.S.Record.Write in
    let fetchers = c.in_ok-fetchers.fetchers in
    let given = c.in_ok-fetchers.ensures in
    record {
      count = subst (λ (n : ℕ). IfOk c.resuming.result (λ all. vec_len all ≡ n)) given.count c.resuming.ensures.count;
      resumed = are_resuming m c.args.order.now c.resuming.result _ c.args.is_recording c.args.recorded.now fetchers.items given.made (sym fetchers.ok.0 ∙ given.count) c.resuming.ensures.resuming;
    }

pub returns-in_err-fetchers : goal.returns-in_err-fetchers
returns-in_err-fetchers g c =
    let failed = c.from_residual.ensures.0 in
    record { count = IfOk-from_err _ _ failed; resumed = IfOk-from_err _ _ failed }
