use Rattle.std.proofs.Common.{◌≡◌, [], ◌∷◌, All, false, length, sym, ap, ◌∙◌, subst, arith}
use Rattle.std.proofs.lemmas.List.{length-append}
use Rattle.std.proofs.lemmas.List.Elements.{All-append, All-cons, All-nil}
use Rattle.std.proofs.lemmas.Result.{IfOk-from_err}
use Rattle.retriever.specs.Systems.{settings_of}
use Rattle.retriever.proofs.live_order.fetchers_of.Goals as goal

pub loop-preserved : goal.loop-preserved
loop-preserved g c =
    let Made = g.S.System.makes c.args.system.now (settings_of c.args.order.now false) in
    let new = c.in_ok-fetcher.fetcher in
    let here : Made new =
    subst (λ settings. g.S.System.makes c.args.system.now settings new) c.in_ok-settings.ensures c.in_ok-fetcher.ensures in
    let items = c.in_ok-push.ensures.items in
    record {
      count = omega (arith, ap length items ∙ length-append c.loop.fetchers.items (new ∷ []), c.loop.invariant.count);
      made = subst (All Made) (sym items) (All-append Made c.loop.fetchers.items (new ∷ []) c.loop.invariant.made (All-cons Made new [] here (All-nil Made)));
    }

pub returns : goal.returns
returns g c =
    let last : c.loop.counter ≡ c.args.order.now.workers = omega (arith, c.loop-test.false, c.loop.auto.counter-end) in
    record { count = c.loop.fetchers.ok.0 ∙ c.loop.invariant.count ∙ last; made = c.loop.invariant.made }

pub returns-in_err-push : goal.returns-in_err-push
returns-in_err-push g c =
    let failed = c.from_residual-in_err-push.ensures.0 in
    record { count = IfOk-from_err _ _ failed; made = IfOk-from_err _ _ failed }
