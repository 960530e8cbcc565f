use Rattle.std.proofs.Common.{◌∙◌, sym, ap, arith, rules}
use Rattle.std.proofs.lemmas.Str.Pattern.{strip_suffix_char}
use Rattle.follow_filters.specs.Directories.{without_closing_slashes}
use Rattle.follow_filters.proofs.ElementLemmas.{closing-more, closing-none}
use Rattle.follow_filters.proofs.directory.without_closing_slashes.Goals as goal

pub loop-front-preserved : goal.loop-front-preserved
loop-front-preserved c =
    let strip = strip_suffix_char 47 c.loop-front.bare.now c.strip_suffix.result c.strip_suffix.ensures.cases (omega arith) in
    let ends = rw c.in-Some.is at strip in
    (search rules, sym (ap without_closing_slashes ends ∙ closing-more c.in-Some.front.now) ∙ c.loop-front.invariant.1)

pub returns : goal.returns
returns c =
    let strip = strip_suffix_char 47 c.loop-front.bare.now c.strip_suffix.result c.strip_suffix.ensures.cases (omega arith) in
    let bare = rw c.in_default.is at strip in
    sym (closing-none c.loop-front.bare.now bare) ∙ c.loop-front.invariant.1
