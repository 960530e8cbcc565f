-- Each turn puts the record before one fetcher; at the end none is left.
use Rattle.std.proofs.Common.{◌≡◌, ◌∙◌, ◌++◌, [], ◌∷◌, length, map, sym, ap, subst}
use Rattle.std.proofs.lemmas.List.{length-map}
use Rattle.std.proofs.lemmas.Result.{IfOk-from_err}
use Rattle.std.specs.Vec.Iter.{into_iter_items}
use Rattle.workers.proofs.MoveLaws.{piece_moved, all_moved, none_left}
use Rattle.retriever.specs.Saving.{resuming_of}
use Rattle.retriever.proofs.SavingLaws.{resuming_is}
use Rattle.retriever.proofs.saved_run.resuming.Goals as goal

pub loop-fetcher-preserved : goal.loop-fetcher-preserved
loop-fetcher-preserved g c =
    let at = c.loop-fetcher in
    let F = g.F.Fetcher in
    let record_is = c.args.recorded.now in
    let turned = resuming_of F.log record_is in
    let steps : into_iter_items at.fetcher-iterator ≡ c.in-Some.fetcher ∷ into_iter_items c.next.new.self = c.in-Some.ensures.steps.0 in
    let made = c.new.ensures in
    let next : c.new.result ≡ turned c.in-Some.fetcher = resuming_is F.log record_is c.in-Some.fetcher c.new.result (made.recorded ∙ c.in_ok-try_clone.ensures) made.inner made.asks made.since in
    record {
      can_next = tt;
      is_finite = tt;
      moved = piece_moved at.all.items (turned c.in-Some.fetcher ∷ []) (map turned (into_iter_items c.next.new.self)) _ _ _ (ap (map turned) steps)
          (subst (λ r. c.push.new.self.items ≡ at.all.items ++ (r ∷ [])) next c.in_ok-push.ensures.items) at.invariant.moved;
    }

pub returns : goal.returns
returns g c =
    let at = c.loop-fetcher in
    let turned = resuming_of g.F.Fetcher.log c.args.recorded.now in
    let none = none_left _ (sym at.fetcher-iterator.rest.ok.0 ∙ c.in-None.ensures.steps.0) in
    let is : at.all.items ≡ map turned c.args.fetchers.items = all_moved at.all.items _ _ (ap (map turned) none) at.invariant.moved in
    record { count = at.all.ok.0 ∙ ap length is ∙ length-map c.args.fetchers.items turned ∙ sym c.args.fetchers.ok.0; resuming = is }

pub loop-fetcher-init : goal.loop-fetcher-init
loop-fetcher-init g c =
    let turned = resuming_of g.F.Fetcher.log c.args.recorded.now in
    let given = c.into_iter-fetcher-iterator in
    record {
      can_next = tt;
      is_finite = tt;
      moved = ap (λ done. done ++ map turned (into_iter_items given.result)) c.new-all.ensures.items ∙ ap (λ left. map turned left) given.ensures.into_iter_gives.0;
    }

pub returns-in_err-try_clone : goal.returns-in_err-try_clone
returns-in_err-try_clone g c =
    let failed = c.from_residual.ensures.0 in
    record { count = IfOk-from_err _ _ failed; resuming = IfOk-from_err _ _ failed }

pub returns-in_err-push : goal.returns-in_err-push
returns-in_err-push g c =
    let failed = c.from_residual-in_err-push.ensures.0 in
    record { count = IfOk-from_err _ _ failed; resuming = IfOk-from_err _ _ failed }
