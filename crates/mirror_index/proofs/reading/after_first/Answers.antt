-- Another first line.
use Rattle.mirror_index.proofs.ReadLaws.{other_first}
use Rattle.mirror_index.proofs.reading.after_first.Goals as goal

pub returns-then-not-is_first_line : goal.returns-then-not-is_first_line
returns-then-not-is_first_line c =
    other_first c.args.bytes.now c.in-Some.line.now c.in-Some.rest.now c.in-Some.ensures.0 c.in-Some.ensures.1
    (λ same. let is = c.is_first_line.ensures.1 same in cc (is, c.if-not-is_first_line.true))
