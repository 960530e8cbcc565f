-- Each turn adds the kind of one body.
use Rattle.std.proofs.Common.{◌∙◌, ap, arith, length}
use Rattle.std.proofs.lemmas.List.{take_all}
use Rattle.std.proofs.lemmas.Result.{IfOk-from_err}
use Rattle.retriever.specs.Keeping.{kinds_of}
use Rattle.retriever.proofs.KindLaws.{kinds_more}
use Rattle.retriever.proofs.render.kinds_of.Goals as goal

pub loop-i-init : goal.loop-i-init
loop-i-init g c = c.new-kinds.ensures.items

pub loop-i-preserved : goal.loop-i-preserved
loop-i-preserved g c =
    kinds_more g.B.HasKind.kind_of c.args.harvest.now.bodies c.loop-i.i c.kept_body.result.now c.loop-i.kinds.items c.push.new.self.items c.kind_of.result (omega (arith, ap length c.kept-i-end.ensures.value, c.requires)) c.kept_body.ensures c.kind_of.ensures c.in_ok-push.ensures.items c.loop-i.invariant

pub returns-in_err-push : goal.returns-in_err-push
returns-in_err-push g c = IfOk-from_err _ _ c.from_residual.ensures.0

pub returns : goal.returns
returns g c =
    let all = take_all c.loop-i.i c.args.harvest.now.bodies (omega (arith, ap length c.kept-i-end.ensures.value, c.requires)) in
    c.loop-i.invariant ∙ ap (λ bodies. kinds_of g.B.HasKind.kind_of bodies) all
