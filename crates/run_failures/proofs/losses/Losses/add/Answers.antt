-- The list has gained one loss of the kind: at its place, or at the end.
use Rattle.std.proofs.Common.{◌≡◌, List, Some, None, cond, ap, ◌∙◌}
use Rattle.std.specs.Prelude.{position}
use Rattle.run_failures.specs.Losses.{is_kind, is_loss_of, lost, one_more}
use Rattle.run_failures.specs.declared.losses.Loss.{Loss}
use Rattle.run_failures.proofs.LossLaws.{raised_by, unplaced}
use Rattle.run_failures.proofs.losses.Losses.add.Goals as goal

pub returns-in-Some-clause-ok : goal.returns-in-Some-clause-ok
returns-in-Some-clause-ok c = λ asked.
    (let found : Some c.in-Some.place ≡ position (is_loss_of c.args.kind) c.self.inside.each.items = cc (c.in-Some.ensures, c.as_slice.ensures.value) in
    raised_by c.self.inside.each.items c.args.kind c.args.at c.in-Some.place c.index.result.now c.index_mut.result.now _ _ c.saturating_add.result found c.index.ensures c.index_mut.ensures.value c.saturating_add.ensures asked
    ∙ ap (λ (v : List Loss). cond (is_kind c.args.kind asked) (Some (one_more (lost v asked) c.args.kind c.args.at)) (lost v asked)) c.self.view_is)

pub returns-in_ok-push-in-None-clause-ok : goal.returns-in_ok-push-in-None-clause-ok
returns-in_ok-push-in-None-clause-ok c = λ asked.
    (let found : None ≡ position (is_loss_of c.args.kind) c.self.inside.each.items = cc (c.in-None.ensures, c.as_slice.ensures.value) in
    ap (λ (v : List Loss). lost v asked) c.in_ok-push-in-None.ensures.items
    ∙ unplaced c.self.inside.each.items c.args.kind c.args.at found asked
    ∙ ap (λ (v : List Loss). cond (is_kind c.args.kind asked) (Some (one_more (lost v asked) c.args.kind c.args.at)) (lost v asked)) c.self.view_is)
