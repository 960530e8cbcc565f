use Rattle.std.proofs.Common.{refl}
use Rattle.workers.proofs.worker.hand_rules_over.Goals as goal

pub returns-in_default : goal.returns-in_default
returns-in_default g c = rw c.unanswered_rules.ensures (record { worker = refl; origin = refl; told = tt })

pub returns-then-not-give : goal.returns-then-not-give
returns-then-not-give g c = rw c.unanswered_rules-then-not-give.ensures (record { worker = refl; origin = refl; told = tt })

pub returns : goal.returns
returns g c = record { worker = refl; origin = refl; told = refl }
