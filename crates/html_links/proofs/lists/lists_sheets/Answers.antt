use Rattle.std.proofs.Common.{rules, tests, ◌==◌}
use Rattle.std.specs.Prelude.{codes}
use Rattle.std.proofs.lemmas.Iterator.Search.{any_from_yields_List}
use Rattle.std.proofs.lemmas.Iterator.Splits.{YieldsList-from_slice_split}
use Rattle.html_links.specs.Rules.{is_same}
use Rattle.html_links.proofs.lists.lists_sheets.Goals as goal

pub returns : goal.returns
returns c =
    any_from_yields_List (λ name. is_same name (codes "style")) _ _ _ c.any.ensures.ran
    (YieldsList-from_slice_split _ (λ b. b == 44) c.args.list.now c.split.ensures.rest c.split.ensures.done c.split.ensures.closure (λ x b q k. search (rules, tests)))
    (λ x b q k. search (rules, tests))
