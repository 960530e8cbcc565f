use Rattle.std.proofs.Common.{◌≡◌, sym, ap, subst, ◌∙◌, arith}
use Rattle.frontier_core.specs.Routes.{Policy}
use Rattle.frontier_core.specs.Plans.{policy}
use Rattle.frontier_core.specs.Machine.{opened}
use Rattle.frontier_core.specs.Lines.{IsReplay}
use Rattle.frontier_core.specs.Owed.{owed}
use Rattle.frontier_core.proofs.StartLaws.{opened_replay, owed_opened}
use Rattle.frontier_core.proofs.frontier.Frontier.open.Goals as goal

pub invariant_of-result : goal.invariant_of-result
invariant_of-result c =
    let p : Policy = policy c.args.plan in
    let board : c.in-Ok.board ≡ opened p = c.in-Ok.ensures.board in
    let room = c.in-Ok.ensures.room in
    let one : owed c.in-Ok.board ≡ 1 = ap owed board ∙ owed_opened p in
    (subst (λ z. IsReplay p c.in-Ok.trace.items z) (sym board) (subst (λ z. IsReplay p z (opened p)) (sym c.in-Ok.ensures.trace) (opened_replay p)), omega (arith, one, room))
