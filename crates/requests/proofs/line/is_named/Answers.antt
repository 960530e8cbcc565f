-- The letters are the same in lower case, or they aren't.
use Rattle.requests.proofs.TextLemmas.{name_is}
use Rattle.requests.proofs.line.is_named.Goals as goal

pub returns : goal.returns
returns c = name_is c.args.one.now c.args.other.now c.eq_ignore_ascii_case.result c.eq_ignore_ascii_case.ensures.test
