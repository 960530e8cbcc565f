-- The letters are the same in lower case, or they aren't.
use Rattle.options.proofs.WordLemmas.{word_is}
use Rattle.options.proofs.said.is_word.Goals as goal

pub returns : goal.returns
returns c = word_is c.args.one.now c.args.other.now c.eq_ignore_ascii_case.result c.eq_ignore_ascii_case.ensures.test
