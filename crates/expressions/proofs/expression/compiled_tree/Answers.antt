-- What every match has, the automaton needs.
use Rattle.expressions.proofs.Compiling.{needs_some}
use Rattle.expressions.proofs.expression.compiled_tree.Goals as goal

pub returns-in-Ok : goal.returns-in-Ok
returns-in-Ok c =
    (c.in-Ok.ensures.matches, needs_some c.in_ok-needles.needles c.args.hir.now c.in-Ok.nfa c.in-Ok.ensures.matches c.in_ok-needles.ensures.contains)
