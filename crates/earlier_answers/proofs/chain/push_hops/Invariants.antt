-- The hops so far are added, and can be read again.
use Rattle.std.proofs.Common.{take}
use Rattle.earlier_answers.proofs.TextLaws.{AreAdded}
use Rattle.earlier_answers.proofs.chain.push_hops.Given as goal

abbrev pub invariant-loop-at : goal.invariant-loop-at
invariant-loop-at l = AreAdded l.fn.text.items l.text.items (take l.at-index l.hops)
