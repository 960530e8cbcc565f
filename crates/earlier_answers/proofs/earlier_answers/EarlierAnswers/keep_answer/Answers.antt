-- The answer that is kept has no file either.
use Rattle.std.proofs.Common.{◌≡◌, true, subst, sym}
use Rattle.std.specs.Prelude.{All}
use Rattle.address.specs.Address.{AddressText}
use Rattle.fetcher.specs.declared.outcome.Outcome.{Outcome}
use Rattle.earlier_answers.specs.Texts.{has_no_file}
use Rattle.earlier_answers.proofs.KeptLaws.{kept_inserted}
use Rattle.earlier_answers.proofs.earlier_answers.EarlierAnswers.keep_answer.Goals as goal

pub invariant_of-self-2 : goal.invariant_of-self-2
invariant_of-self-2 c = record {
  answers_are = subst (All (λ (a : AddressText × Outcome). has_no_file a.1 ≡ true)) (sym c.in_ok-insert.ensures.entries)
      (kept_inserted (λ (a : AddressText × Outcome). has_no_file a.1 ≡ true) c.self.inside.answers.entries c.args.at c.args.outcome (λ key is. c.requires) c.requires c.self.invariant.answers_are);
  chains_are = c.self.invariant.chains_are;
}
