use Rattle.std.proofs.Common.{rules, tests}
use Rattle.std.proofs.lemmas.Iterator.Search.{any_from_yields_List}
use Rattle.std.proofs.lemmas.Iterator.Splits.{YieldsList-from_slice_split}
use Rattle.local_names.specs.PlainNames.{is_slash}
use Rattle.local_names.specs.inner.LocalNames.{is_outer}
use Rattle.local_names.proofs.local_name.has_outer.Goals as goal

pub returns : goal.returns
returns c =
    any_from_yields_List is_outer _ _ _ c.any.ensures.ran
    (YieldsList-from_slice_split _ is_slash c.args.name.now c.split.ensures.rest c.split.ensures.done c.split.ensures.closure (λ x b q k. search rules))
    (λ x b q k. search (rules, tests))
