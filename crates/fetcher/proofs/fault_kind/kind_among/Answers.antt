-- The first row with the word gives the fault.
use Rattle.std.proofs.Common.{rules, refl, List, ℕ, arith}
use Rattle.std.specs.Borrow.{Bor}
use Rattle.fetcher.proofs.FaultLaws.{none_more, none_of_all, row_found, differs}
use Rattle.fetcher.proofs.fault_kind.kind_among.Goals as goal

pub loop-row-preserved : goal.loop-row-preserved
loop-row-preserved c =
    none_more c.args.word.now (λ row. row.word.now) c.args.rows.now c.loop-row.row-index _ c.loop-row-test.true c.loop-row.invariant (differs c.eq.result _ c.args.word.now c.eq.ensures c.if-eq.false)

pub returns : goal.returns
returns c = none_of_all c.args.word.now (λ row. row.word.now) c.args.rows.now c.loop-row.row-index (search rules) c.loop-row.invariant

pub returns-then-eq : goal.returns-then-eq
returns-then-eq c = row_found (λ (text : Bor (List ℕ)). text.now) c.args.rows.now c.loop-row.row-index _ c.args.word.now _ c.loop-row-test.true refl (search rules)
