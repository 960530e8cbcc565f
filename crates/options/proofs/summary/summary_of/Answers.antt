-- The summaries that the code has are those of the table.
use Rattle.std.proofs.Common.{◌∙◌, ap}
use Rattle.options.specs.Help.{says_of}
use Rattle.options.proofs.summary.summary_of.Goals as goal

pub returns : goal.returns
returns c = c.says_of.ensures ∙ ap (says_of c.args.name.now) c.summaries.ensures
