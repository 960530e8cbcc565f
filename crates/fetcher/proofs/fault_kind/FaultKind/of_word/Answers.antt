-- What the rows say of a word.
use Rattle.fetcher.proofs.FaultLaws.{found}
use Rattle.fetcher.proofs.fault_kind.FaultKind.of_word.Goals as goal

pub returns : goal.returns
returns c = found c.args.word.now c.kind_among.result c.kind_among.ensures
