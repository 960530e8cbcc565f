use Rattle.std.proofs.Common.{sym, arith}
use Rattle.std.proofs.lemmas.Str.Pattern.{strip_prefix_char}
use Rattle.follow_filters.proofs.ElementLemmas.{without_dot-dotted, without_dot-bare}
use Rattle.follow_filters.proofs.domain.without_dot.Goals as goal

pub returns-in-Some : goal.returns-in-Some
returns-in-Some c =
    let strip = strip_prefix_char 46 c.args.text.now c.strip_prefix.result c.strip_prefix.ensures.cases (omega arith) in
    sym (without_dot-dotted c.args.text.now c.in-Some.bare.now (rw c.in-Some.is at strip))

pub returns-in-None : goal.returns-in-None
returns-in-None c =
    let strip = strip_prefix_char 46 c.args.text.now c.strip_prefix.result c.strip_prefix.ensures.cases (omega arith) in
    sym (without_dot-bare c.args.text.now (rw c.in-None.is at strip))
