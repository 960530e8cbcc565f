use Rattle.std.proofs.Common.{◌∙◌, sym}
use Rattle.local_links.proofs.Going.{share}
use Rattle.local_links.proofs.writing.below_shared.Goals as goal

pub returns-then-is_name-clause-same : goal.returns-then-is_name-clause-same
returns-then-is_name-clause-same c =
    share c.args.from.now c.args.to.now c.in_ok-directory.directory.now c.in_ok-directory.above.now c.in_ok-other.other.now c.in_ok-other.below.now
    c.in_ok-directory.ensures.parts c.in_ok-other.ensures.parts (sym c.is_name.ensures ∙ c.if-is_name.true)
