-- Words that are said alike order the same.
use Rattle.std.proofs.Common.{map}
use Rattle.options.proofs.SameLemmas.{orders_by_sayings}
use Rattle.options.proofs.read.read_order.Goals as goal

pub returns-in-Ok-clause-last : goal.returns-in-Ok-clause-last
returns-in-Ok-clause-last c = orders_by_sayings (map (λ w. w.now) c.args.words.now)

pub returns-in-Err-clause-last : goal.returns-in-Err-clause-last
returns-in-Err-clause-last c = orders_by_sayings (map (λ w. w.now) c.args.words.now)
