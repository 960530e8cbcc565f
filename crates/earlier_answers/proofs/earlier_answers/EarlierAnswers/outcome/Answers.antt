-- What is found is kept.
use Rattle.std.proofs.Common.{◌≡◌, true}
use Rattle.fetcher.specs.declared.outcome.Outcome.{Outcome}
use Rattle.earlier_answers.specs.Texts.{has_no_file}
use Rattle.earlier_answers.proofs.KeptLaws.{found_has}
use Rattle.earlier_answers.proofs.earlier_answers.EarlierAnswers.outcome.Goals as goal

pub returns-clause-no_file : goal.returns-clause-no_file
returns-clause-no_file c = found_has (λ (x : Outcome). has_no_file x ≡ true) c.self.inside.answers.entries c.args.at.now c.get.result c.self.invariant.answers_are c.get.ensures.value
