use Rattle.std.proofs.Common.{◌∙◌}
use Rattle.follow_filters.proofs.NumberLemmas.{number_read}
use Rattle.options.proofs.given.number_in.Goals as goal

pub returns : goal.returns
returns c = c.ok.ensures.value ∙ number_read c.args.text.now c.parse.result c.parse.ensures.value.0
