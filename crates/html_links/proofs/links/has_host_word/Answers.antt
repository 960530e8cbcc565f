use Rattle.std.proofs.Common.{rules, tests}
use Rattle.std.proofs.lemmas.Iterator.Search.{any_from_yields_List}
use Rattle.std.proofs.lemmas.Iterator.Splits.{YieldsList-from_slice_split}
use Rattle.html_links.specs.Pieces.{is_white}
use Rattle.html_links.specs.Links.{is_host_word}
use Rattle.html_links.proofs.links.has_host_word.Goals as goal

pub returns : goal.returns
returns c =
    any_from_yields_List is_host_word _ _ _ c.any.ensures.ran
    (YieldsList-from_slice_split _ is_white c.args.rel.now c.split.ensures.rest c.split.ensures.done c.split.ensures.closure (λ x b q k. search (rules, tests)))
    (λ x b q k. search (rules, tests))
