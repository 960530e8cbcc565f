-- The clause has the parts of the line in other brackets.
use Rattle.std.proofs.Common.{append_assoc}
use Rattle.run_failures.proofs.losses.push_line.Goals as goal

pub returns : goal.returns
returns c =
    let said = rw c.noun_of-noun.ensures at rw c.words-words.ensures at rw c.as_str-first.ensures.value at c.writeln.ensures.bytes in
    record { ok = simp append_assoc said }
