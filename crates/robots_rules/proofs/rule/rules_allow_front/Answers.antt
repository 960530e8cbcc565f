use Rattle.std.proofs.Common.{◌≡◌, ◌↔◌, ◌∙◌, ◌+◌, ◌||◌, ◌&&◌, ◌==◌, [], ◌∷◌, ◌++◌, length, take, IsTrue, arith, ap, sym, subst}
use Rattle.std.proofs.lemmas.List.{take_more, take_all}
use Rattle.std.proofs.lemmas.Bool.{both_ways}
use Rattle.robots_rules.specs.Access.{RuleValue, RulesAllow}
use Rattle.robots_rules.proofs.AccessLemmas.{AnswersFor, AnswersFor-skip, AnswersFor-take, RulesAllow_from, rules_allow-is, same_truth}
use Rattle.robots_rules.proofs.rule.rules_allow_front.Goals as goal
use Rattle.robots_rules.proofs.rule.rules_allow_front.Goals.{then-reached-octets+in_ok-applies_to_front+then-branch, else-reached-octets, else-reached-octets-via-then-reached-octets+in_ok-applies_to_front+else-branch, else-reached-octets-via-else-reached-octets}

pub loop-rule-preserved : goal.loop-rule-preserved
loop-rule-preserved c =
    let rs = c.args.rules.now in
    let i = c.loop-rule.rule-index in
    let item = c.rule-item.result in
    let more : take (i + 1) rs ≡ take i rs ++ item ∷ [] = take_more rs i item (omega arith) ∙ ap (λ (r : RuleValue). take i rs ++ r ∷ []) (sym c.rule-item.is) in
    let reached = c.loop-rule.reached in
    let allowed = c.loop-rule.is_allowed in
    let octets : c.octets-octets.result ≡ length item.pattern = c.octets-octets.ensures in
    λ rest.
    let text = c.args.front.now ++ rest in
    let so = c.loop-rule.invariant rest in
    subst (λ done. AnswersFor text done c.if-reached-octets.reached c.if-reached-octets.is_allowed) (sym more)
    (elim c.if-reached-octets.branch [
      | then-reached-octets+in_ok-applies_to_front+then-branch w ↦ (
          let taken = AnswersFor-take text (take i rs) item reached allowed so (omega arith) ((w.in_ok-applies_to_front.ensures rest).0 w.if-branch.true) in
          let answer : (item.allows || (allowed && (length item.pattern == reached))) ≡ c.if-reached-octets.is_allowed = sym (w.is_allowed-is ∙ w.decides-is_allowed.ensures) in
          let long : length item.pattern ≡ c.if-reached-octets.reached = sym (w.reached-is ∙ octets) in
          subst (λ n. AnswersFor text (take i rs ++ item ∷ []) n c.if-reached-octets.is_allowed) long
          (subst (λ b. AnswersFor text (take i rs ++ item ∷ []) (length item.pattern) b) answer taken))
      | else-reached-octets w ↦ (
          let skipped = AnswersFor-skip text (take i rs) item reached allowed so
          (elim w.else-reached-octets.branch [
            | else-reached-octets-via-then-reached-octets+in_ok-applies_to_front+else-branch w' ↦ λ m. absurd (both_ways _ w'.if-branch.false ((w'.in_ok-applies_to_front.ensures rest).1 m))
            | else-reached-octets-via-else-reached-octets w' ↦ λ m. omega arith
          ]) in
          subst (λ n. AnswersFor text (take i rs ++ item ∷ []) n c.if-reached-octets.is_allowed) (sym w.reached-is)
          (subst (λ b. AnswersFor text (take i rs ++ item ∷ []) reached b) (sym w.is_allowed-is) skipped))
    ])

pub returns-clause-allowed : goal.returns-clause-allowed
returns-clause-allowed c = λ rest.
    let whole : take c.loop-rule.rule-index c.args.rules.now ≡ c.args.rules.now = take_all _ _ (omega arith) in
    RulesAllow_from (c.args.front.now ++ rest) c.args.rules.now c.loop-rule.reached c.loop-rule.is_allowed (rw (← whole) (c.loop-rule.invariant rest))

pub returns-clause-value : goal.returns-clause-value
returns-clause-value c = λ rest.
    let text = c.args.front.now ++ rest in
    let whole : take c.loop-rule.rule-index c.args.rules.now ≡ c.args.rules.now = take_all _ _ (omega arith) in
    let allowed : IsTrue c.loop-rule.is_allowed ↔ RulesAllow c.args.rules.now text =
    RulesAllow_from text c.args.rules.now c.loop-rule.reached c.loop-rule.is_allowed (rw (← whole) (c.loop-rule.invariant rest)) in
    same_truth (RulesAllow c.args.rules.now text) _ _ allowed (rules_allow-is c.args.rules.now text)
