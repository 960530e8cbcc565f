-- The end of one text looks like those of all.
use Rattle.std.proofs.lemmas.Result.{IfOk-weaker}
use Rattle.expressions.proofs.Tables.{end_set_is}
use Rattle.expressions.proofs.table.end_set.Goals as goal

pub returns : goal.returns
returns c =
    IfOk-weaker c.marked.result _ _ (λ set its. (its.0, end_set_is c.args.nfa.now c.deref.result.now set.items c.requires.edges its.1)) c.marked.ensures
