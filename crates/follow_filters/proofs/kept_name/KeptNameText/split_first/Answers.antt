use Rattle.std.proofs.Common.{rules}
use Rattle.follow_filters.proofs.NameLemmas.{nothing_left, query_step}
use Rattle.follow_filters.proofs.kept_name.KeptNameText.split_first.Goals as goal

pub returns-in_err-octet : goal.returns-in_err-octet
returns-in_err-octet c = rw c.from_residual.ensures (nothing_left _ _ c.in_default.len_below (search rules))

pub returns : goal.returns
returns c = query_step c.args.self.file.now c.args.self.query.now c.in_ok-octet.field-0-0.now c.in_ok-octet.query.now c.in_default.len_below c.in_ok-octet.ensures.cases.0
