-- Each row is that of its set.
use Rattle.std.proofs.Common.{sym, subst, arith}
use Rattle.expressions.specs.inner.Tables.{IsRow}
use Rattle.expressions.proofs.table.row_in.Goals as goal

pub returns : goal.returns
returns c =
    subst (λ row. IsRow c.args.nfa.now c.args.table.now.sets.items c.args.number row) (sym c.index.ensures) (c.requires.table.rows.1 c.args.number c.index.result.now (omega (arith, c.requires.number, c.requires.table.rows.0)))
