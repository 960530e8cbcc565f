-- The chain that is kept is its origin's.
use Rattle.std.proofs.Common.{◌≡◌, ◌∙◌, ap, subst, sym}
use Rattle.std.specs.Prelude.{All}
use Rattle.answer_notes.specs.HopChains.{ChainValue}
use Rattle.earlier_answers.specs.inner.Kept.{IsKept}
use Rattle.earlier_answers.proofs.KeptLaws.{kept_inserted, key_is}
use Rattle.earlier_answers.proofs.earlier_answers.EarlierAnswers.keep_chain.Goals as goal

pub invariant_of-self-2 : goal.invariant_of-self-2
invariant_of-self-2 c =
    let own : c.args.chain.of ≡ c.in_ok-of.of = sym (c.in_ok-of.ensures ∙ c.of.ensures ∙ ap (λ (h : ChainValue). h.of) c.hops.ensures.value) in
    record {
      answers_are = c.self.invariant.answers_are;
      chains_are = subst (All IsKept) (sym c.in_ok-insert.ensures.entries)
          (kept_inserted IsKept c.self.inside.chains.entries c.in_ok-of.of c.args.chain (λ key is. own ∙ key_is c.in_ok-of.of key is) own c.self.invariant.chains_are);
    }
