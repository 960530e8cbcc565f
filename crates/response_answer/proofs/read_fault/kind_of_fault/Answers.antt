-- The kind that has the fault's word.
use Rattle.response_answer.proofs.KindLaws.{found}
use Rattle.response_answer.proofs.read_fault.kind_of_fault.Goals as goal

pub returns : goal.returns
returns c = found c.args.fault c.of_word.result (rw (← c.word.ensures) c.of_word.ensures)
