use Rattle.std.proofs.Common.{not, rules}
use Rattle.std.proofs.lemmas.Fn.{filter_same}
use Rattle.cookie_files.specs.Jars.{replaces}
use Rattle.cookie_files.proofs.cookies.leave_others.Goals as goal

pub returns : goal.returns
returns c = filter_same _ (λ other. not (replaces c.args.later.now other)) _ (λ x b f k. search rules) _ _ c.retain.ensures.filtered
