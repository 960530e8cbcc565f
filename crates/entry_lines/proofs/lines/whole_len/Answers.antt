use Rattle.std.proofs.Common.{◌≡◌, ◌∙◌, get_or, arith}
use Rattle.entry_lines.proofs.LineLaws.{reads_front}
use Rattle.entry_lines.proofs.WholeLaws.{step_line}
use Rattle.entry_lines.proofs.lines.whole_len.Goals as goal

pub loop-i-preserved-then-bytes-i-eq10 : goal.loop-i-preserved-then-bytes-i-eq10
loop-i-preserved-then-bytes-i-eq10 c =
    let feed : get_or c.args.bytes.now c.loop-i.i 0 ≡ 10 = grind arith in
    record {
      within = omega arith;
      before = omega arith;
      read = c.loop-i.invariant.read ∙ step_line c.args.bytes.now c.loop-i.whole c.loop-i.i (omega arith) c.loop-i.invariant.before feed;
    }

pub returns-else-bytes-i-ne0-clause-crash : goal.returns-else-bytes-i-ne0-clause-crash
returns-else-bytes-i-ne0-clause-crash c done added are_done are_added torn = reads_front done added c.args.bytes.now are_done are_added torn

pub returns-after-loop-i-clause-crash : goal.returns-after-loop-i-clause-crash
returns-after-loop-i-clause-crash c done added are_done are_added torn = reads_front done added c.args.bytes.now are_done are_added torn
