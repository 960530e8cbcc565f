-- One more line is read, until there is none.
use Rattle.std.proofs.Common.{arith}
use Rattle.mirror_upkeep.proofs.ReadingLaws.{all_read, bad_read, line_fits, one_read}
use Rattle.mirror_upkeep.proofs.reading.lines_in.Goals as goal

pub overflow_add-result-then-not-added : goal.overflow_add-result-then-not-added
overflow_add-result-then-not-added c =
    let fits = line_fits c.args.text.now c.lines.rest.now c.in-Some.line.now c.lines.read c.add_line.new.read c.in_ok-added.added c.lines.invariant (omega arith) c.if-not-added.true c.in_ok-added.ensures in
    omega (arith, fits, c.len.ensures, c.len-then-not-added.ensures)

pub returns-then-not-added : goal.returns-then-not-added
returns-then-not-added c =
    bad_read c.args.text.now c.lines.rest.now c.in-Some.line.now c.in-Some.after.now c.lines.read c.add_line.new.read c.in_ok-added.added _ c.lines.invariant c.in-Some.ensures.0 c.in-Some.ensures.1 c.if-not-added.true
    c.in_ok-added.ensures (omega (arith, c.len.ensures, c.len-then-not-added.ensures))

pub lines-preserved : goal.lines-preserved
lines-preserved c =
    one_read c.args.text.now c.lines.rest.now c.in-Some.line.now c.in-Some.after.now c.lines.read c.add_line.new.read c.in_ok-added.added c.lines.invariant c.in-Some.ensures.0 c.in-Some.ensures.1 c.if-not-added.false
    c.in_ok-added.ensures

pub returns : goal.returns
returns c = all_read c.args.text.now c.lines.rest.now c.lines.read c.lines.invariant c.in_default.ensures
