use Rattle.std.proofs.Common.{◌≡◌, drop}
use Rattle.memory_connect.specs.Talks.{answer_to}
use Rattle.memory_connect.proofs.memory_connect.answer_to.Given as goal

abbrev pub invariant-loop-stored : goal.invariant-loop-stored
invariant-loop-stored l = answer_to (drop l.stored-index l.answers) l.request ≡ answer_to l.answers l.request
