-- The first line, the lines after it, and which of the pages count.
use Rattle.std.proofs.Common.{◌≡◌, ◌∙◌, true, false, refl, sym}
use Rattle.std.proofs.lemmas.Result.{err_from_is_err_and}
use Rattle.mirror_upkeep.proofs.ReadingLaws.{back_written, is_run, line_fault, memory_only, never_fault, run_back, unwritten}
use Rattle.mirror_upkeep.specs.declared.reading.JournalFault.TheVariants.{Line}
use Rattle.mirror_upkeep.proofs.reading.read_said.Goals as goal

pub returns-in_err-rest-clause-back : goal.returns-in_err-rest-clause-back
returns-in_err-rest-clause-back c all written begins = absurd (never_fault c.args.text.now c.args.first.now all _ c.in_err-rest.ensures begins)

pub returns-in_err-read-clause-back : goal.returns-in_err-read-clause-back
returns-in_err-read-clause-back c all written begins =
    let p = err_from_is_err_and c.from_residual-in_err-read.result c.from_residual-in_err-read.ensures.1 in
    rw (p.1, p.2) (memory_only c.args.text.now c.args.first.now c.in_ok-rest.rest.now all _ c.in_ok-rest.ensures c.in_err-read.ensures written begins)

pub returns-in_err-read-clause-line : goal.returns-in_err-read-clause-line
returns-in_err-read-clause-line c line is =
    let p = err_from_is_err_and c.from_residual-in_err-read.result c.from_residual-in_err-read.ensures.1 in
    line_fault c.args.text.now c.args.first.now c.in_ok-rest.rest.now _ line c.in_ok-rest.ensures c.in_err-read.ensures (let same : p.0 ≡ Line line = cc in sym p.2 ∙ same)

pub returns-then-made-clause-is : goal.returns-then-made-clause-is
returns-then-made-clause-is c =
    is_run c.args.text.now c.args.first.now c.in_ok-rest.rest.now c.in_ok-read.read _ c.in_ok-rest.ensures c.in_ok-read.ensures (c.in_ok-made.ensures.whole c.if-made.true) refl

pub returns-then-made-clause-back : goal.returns-then-made-clause-back
returns-then-made-clause-back c all written begins =
    run_back c.args.text.now c.args.first.now c.in_ok-rest.rest.now all c.in_ok-read.read _ c.in_ok-rest.ensures c.in_ok-read.ensures (c.in_ok-made.ensures.whole c.if-made.true) refl written begins

pub returns-else-made-clause-back : goal.returns-else-made-clause-back
returns-else-made-clause-back c all written begins =
    let pages = back_written c.args.text.now c.args.first.now c.in_ok-rest.rest.now all c.in_ok-read.read c.in_ok-rest.ensures c.in_ok-read.ensures written begins in
    let yes : c.in_ok-made.made.is_whole ≡ true = c.in_ok-made.ensures.all pages in
    let none : c.in_ok-made.made.is_whole ≡ false = c.if-made.false in
    cc

pub returns-else-made-clause-entry : goal.returns-else-made-clause-entry
returns-else-made-clause-entry c same =
    unwritten c.args.text.now c.args.first.now c.in_ok-rest.rest.now c.in_ok-read.read c.in_ok-made.made.is_whole c.in_ok-rest.ensures c.in_ok-read.ensures c.in_ok-made.ensures.all c.if-made.false
