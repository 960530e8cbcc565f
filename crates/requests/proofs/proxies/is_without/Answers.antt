-- One element after the other.
use Rattle.std.proofs.Common.{rules, tests}
use Rattle.std.proofs.lemmas.Iterator.Search.{any_from_yields_List}
use Rattle.std.proofs.lemmas.Iterator.Splits.{YieldsList-from_slice_split}
use Rattle.requests.specs.Lines.{trimmed}
use Rattle.requests.specs.Proxies.{has_suffix, is_comma}
use Rattle.requests.proofs.proxies.is_without.Goals as goal

pub returns : goal.returns
returns c =
    any_from_yields_List (λ element. has_suffix c.args.host.now (trimmed element)) _ _ _ c.any.ensures.ran
    (YieldsList-from_slice_split _ is_comma c.args.list.now c.split.ensures.rest c.split.ensures.done c.split.ensures.closure (λ x b q k. search (rules, tests)))
    (λ x b q k. search (rules, tests))
