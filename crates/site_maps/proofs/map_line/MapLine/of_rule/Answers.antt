-- A line that begins with neither word is no rule.
use Rattle.site_maps.proofs.FormLaws.{no_rule}
use Rattle.site_maps.proofs.map_line.MapLine.of_rule.Goals as goal

pub returns : goal.returns
returns c = no_rule c.args.line.now c.in_default.ensures c.in_default-behind_word.ensures
