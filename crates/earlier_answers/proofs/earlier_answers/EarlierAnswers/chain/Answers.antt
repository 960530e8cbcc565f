-- The chain that is found is its origin's, and one of responses.
use Rattle.std.proofs.Common.{◌≡◌, ◌∙◌, List, Some, ap, subst, sym}
use Rattle.std.specs.Prelude.{All, bytes_eq}
use Rattle.std.specs.Map.{lookup}
use Rattle.answer_notes.specs.HopChains.{ChainValue, rules_of_hops}
use Rattle.http_fetcher.specs.Meanings.{MayRule}
use Rattle.earlier_answers.specs.Texts.{Text}
use Rattle.earlier_answers.specs.inner.Kept.{IsKept}
use Rattle.earlier_answers.proofs.ChainLaws.{may_rule_by_hops}
use Rattle.earlier_answers.proofs.KeptLaws.{found_at, key_is}
use Rattle.earlier_answers.proofs.earlier_answers.EarlierAnswers.chain.Goals as goal

own_chain : (chains : List (Text × ChainValue)) (of : Text) (c : ChainValue) → All IsKept chains → lookup (bytes_eq of) chains ≡ Some c → c.of ≡ of
own_chain chains of c kept found =
    let (key, is, own) = found_at IsKept chains of c kept found in
    own ∙ sym (key_is of key is)

pub returns-in-Some-clause-of : goal.returns-in-Some-clause-of
returns-in-Some-clause-of c =
    ap (λ (h : ChainValue). h.of) c.hops.ensures.value
    ∙ own_chain c.self.inside.chains.entries c.args.of.now c.in-Some.chain.now c.self.invariant.chains_are (sym c.in-Some.ensures.value)

pub returns-in-Some-clause-may : goal.returns-in-Some-clause-may
returns-in-Some-clause-may c links =
    let own = own_chain c.self.inside.chains.entries c.args.of.now c.in-Some.chain.now c.self.invariant.chains_are (sym c.in-Some.ensures.value) in
    subst (λ (x : ChainValue). MayRule links c.args.of.now (rules_of_hops x.hops)) (sym c.hops.ensures.value)
    (subst (λ (of : Text). MayRule links of (rules_of_hops c.in-Some.chain.now.hops)) own
    (may_rule_by_hops links c.in-Some.chain.now.of c.in-Some.chain.now.hops c.hops.ensures.note.1 c.hops.ensures.whole))
