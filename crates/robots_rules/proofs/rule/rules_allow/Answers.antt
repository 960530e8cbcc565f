use Rattle.std.proofs.Common.{◌≡◌, ◌↔◌, ◌∙◌, ◌+◌, ◌||◌, ◌&&◌, ◌==◌, [], ◌∷◌, ◌++◌, length, take, IsTrue, arith, ap, sym, subst}
use Rattle.std.proofs.lemmas.List.{take_more, take_all}
use Rattle.std.proofs.lemmas.Bool.{both_ways}
use Rattle.robots_rules.specs.Access.{RuleValue, RulesAllow}
use Rattle.robots_rules.proofs.AccessLemmas.{AnswersFor, AnswersFor-skip, AnswersFor-take, RulesAllow_from, rules_allow-is, same_truth}
use Rattle.robots_rules.proofs.rule.rules_allow.Goals as goal
use Rattle.robots_rules.proofs.rule.rules_allow.Goals.{then-longest-octets+then-applies, else-longest-octets, else-longest-octets-via-then-longest-octets+else-applies, else-longest-octets-via-else-longest-octets}

pub loop-rule-preserved : goal.loop-rule-preserved
loop-rule-preserved g c =
    let text = g.T.NormalPath.octets c.args.path in
    let rs = c.args.rules.now in
    let i = c.loop-rule.rule-index in
    let item = c.rule-item.result in
    let more : take (i + 1) rs ≡ take i rs ++ item ∷ [] = take_more rs i item (omega arith) ∙ ap (λ (r : RuleValue). take i rs ++ r ∷ []) (sym c.rule-item.is) in
    let so = c.loop-rule.invariant in
    let longest = c.loop-rule.longest in
    let allowed = c.loop-rule.is_allowed in
    let octets : c.octets-octets.result ≡ length item.pattern = c.octets-octets.ensures in
    subst (λ done. AnswersFor text done c.if-longest-octets.longest c.if-longest-octets.is_allowed) (sym more)
    (elim c.if-longest-octets.branch [
      | then-longest-octets+then-applies w ↦ (
          let taken = AnswersFor-take text (take i rs) item longest allowed so (omega arith) (w.applies.ensures.0 w.if-applies.true) in
          let answer : (item.allows || (allowed && (length item.pattern == longest))) ≡ c.if-longest-octets.is_allowed = sym (w.is_allowed-is ∙ w.decides-is_allowed.ensures) in
          let reached : length item.pattern ≡ c.if-longest-octets.longest = sym (w.longest-is ∙ octets) in
          subst (λ n. AnswersFor text (take i rs ++ item ∷ []) n c.if-longest-octets.is_allowed) reached
          (subst (λ b. AnswersFor text (take i rs ++ item ∷ []) (length item.pattern) b) answer taken))
      | else-longest-octets w ↦ (
          let skipped = AnswersFor-skip text (take i rs) item longest allowed so
          (elim w.else-longest-octets.branch [
            | else-longest-octets-via-then-longest-octets+else-applies w' ↦ λ m. absurd (both_ways _ w'.if-applies.false (w'.applies.ensures.1 m))
            | else-longest-octets-via-else-longest-octets w' ↦ λ m. omega arith
          ]) in
          subst (λ n. AnswersFor text (take i rs ++ item ∷ []) n c.if-longest-octets.is_allowed) (sym w.longest-is)
          (subst (λ b. AnswersFor text (take i rs ++ item ∷ []) longest b) (sym w.is_allowed-is) skipped))
    ])

pub returns : goal.returns
returns g c =
    let text = g.T.NormalPath.octets c.args.path in
    let whole : take c.loop-rule.rule-index c.args.rules.now ≡ c.args.rules.now = take_all _ _ (omega arith) in
    let allowed : IsTrue c.loop-rule.is_allowed ↔ RulesAllow c.args.rules.now text =
    RulesAllow_from text c.args.rules.now c.loop-rule.longest c.loop-rule.is_allowed (rw (← whole) c.loop-rule.invariant) in
    record { value = same_truth (RulesAllow c.args.rules.now text) _ _ allowed (rules_allow-is c.args.rules.now text); allowed = allowed }
