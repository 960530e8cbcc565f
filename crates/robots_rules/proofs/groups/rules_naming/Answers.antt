use Rattle.std.proofs.Common.{◌≡◌, ℕ, ◌+◌, ◌<◌, Bool, true, false, not, cond, ◌&&◌, ◌||◌, List, [], ◌∷◌, ◌++◌, length, map, drop, get_or, refl, subst, sym, ap, ◌∙◌, arith, append-nil, append_assoc}
use Rattle.std.proofs.lemmas.List.{drop_more, drop_all}
use Rattle.robots_rules.specs.Groups.{rule_of}
use Rattle.robots_rules.specs.Access.{RuleValue}
use Rattle.robots_rules.specs.inner.LineView.{line_value}
use Rattle.robots_rules.specs.inner.AudienceView.{names_one}
use Rattle.robots_rules.specs.declared.lines.Line.{Line}
use Rattle.robots_rules.specs.declared.lines.Line.TheVariants as line
use Rattle.std.specs.Borrow.{Bor}
use Rattle.std.proofs.lemmas.Bool.{or_left}
use Rattle.robots_rules.proofs.GroupLemmas.{collect, collect-nil, collect-rules_naming}
use Rattle.robots_rules.proofs.groups.rules_naming.Goals as goal
use Rattle.robots_rules.proofs.groups.rules_naming.Goals.{in-Agent+then-names_one, in-Agent+else-names_one+then-not-is_behind_rule, in-Agent+else-names_one+else-not-is_behind_rule, in-Rule+then-is_ours+in_ok-push_rule-in-Rule, in-Rule+else-is_ours}

agent_step : (names : List ℕ → Bool) (so whole : List RuleValue) (all : List Line) (i : ℕ) (d : Line) (name : Bor (List ℕ)) (ours behind ours' : Bool) → i < length all → get_or all i d ≡ line.Agent name → ours' ≡ (names name.now || (not behind && ours)) → so ++ map rule_of (collect names ours behind (map line_value (drop i all))) ≡ whole → so ++ map rule_of (collect names ours' false (map line_value (drop (i + 1) all))) ≡ whole
unfolding collect
agent_step names so whole all i d name ours behind ours' below is same before =
    ap (λ b. so ++ map rule_of (collect names b false (map line_value (drop (i + 1) all)))) same
    ∙ sym (ap (λ xs. so ++ map rule_of (collect names ours behind (map line_value xs))) (drop_more all i d below ∙ ap (λ x. x ∷ drop (i + 1) all) is))
    ∙ before

rule_step : (names : List ℕ → Bool) (so whole : List RuleValue) (all : List Line) (i : ℕ) (d : Line) (allows : Bool) (pattern : Bor (List ℕ)) (ours behind : Bool) → i < length all → get_or all i d ≡ line.Rule allows pattern → so ++ map rule_of (collect names ours behind (map line_value (drop i all))) ≡ whole → so ++ map rule_of (cond ours (record { allows = allows; pattern = pattern.now } ∷ []) [] ++ collect names ours true (map line_value (drop (i + 1) all))) ≡ whole
unfolding collect
rule_step names so whole all i d allows pattern ours behind below is before =
    sym (ap (λ xs. so ++ map rule_of (collect names ours behind (map line_value xs))) (drop_more all i d below ∙ ap (λ x. x ∷ drop (i + 1) all) is)) ∙ before

held : (a b c : Bool) → a ≡ false → b ≡ true → c ≡ (a || (b && c))
held a b c refused since = rw (refused, since) refl

lost : (a b c : Bool) → a ≡ false → b ≡ false → b ≡ (a || (b && c))
lost a b c refused since = rw (refused, since) refl

found : (a b : Bool) → a ≡ true → a ≡ (a || b)
found a b yes_ = yes_ ∙ sym (or_left a b yes_)

pub loop-line-preserved : goal.loop-line-preserved
loop-line-preserved c =
    let names = names_one c.args.audience in
    let so = c.loop-line.rules.items in
    let all = c.args.lines.now in
    let i = c.loop-line.line-index in
    let ours = c.loop-line.is_ours in
    let behind = c.loop-line.is_behind_rule in
    let below : i < length all = omega arith in
    let rest = map line_value (drop (i + 1) all) in
    let whole = map rule_of (collect names false true (map line_value all)) in
    elim c.match-line.branch [
      | in-Agent+then-names_one w ↦
          rw (w.rules-is, w.is_behind_rule-is) (agent_step names so whole all i _ w.in-Agent.value ours behind c.match-line.is_ours below w.in-Agent.is
          (w.is_ours-is ∙ w.names_one.ensures ∙ found (names (w.in-Agent.value).now) (not behind && ours) (sym w.names_one.ensures ∙ w.if-names_one.true)) c.loop-line.invariant)
      | in-Agent+else-names_one+then-not-is_behind_rule w ↦
          rw (w.rules-is, w.is_behind_rule-is) (agent_step names so whole all i _ w.in-Agent.value ours behind c.match-line.is_ours below w.in-Agent.is
          (w.is_ours-is ∙ held (names (w.in-Agent.value).now) (not behind) ours (sym w.names_one.ensures ∙ w.if-names_one.false) (ap not w.if-not-is_behind_rule.true)) c.loop-line.invariant)
      | in-Agent+else-names_one+else-not-is_behind_rule w ↦
          rw (w.rules-is, w.is_behind_rule-is) (agent_step names so whole all i _ w.in-Agent.value ours behind c.match-line.is_ours below w.in-Agent.is
          (w.is_ours-is ∙ lost (names (w.in-Agent.value).now) (not behind) ours (sym w.names_one.ensures ∙ w.if-names_one.false) (ap not w.if-not-is_behind_rule.false)) c.loop-line.invariant)
      | in-Rule+then-is_ours+in_ok-push_rule-in-Rule w ↦
          (let step = rule_step names so whole all i _ w.in-Rule.allows w.in-Rule.pattern ours behind below w.in-Rule.is c.loop-line.invariant in
          rw (w.rules-is, w.is_behind_rule-is, w.is_ours-is, w.in_ok-push_rule-in-Rule.ensures, append_assoc)
          (subst (λ b. so ++ map rule_of (cond b (record { allows = w.in-Rule.allows; pattern = (w.in-Rule.pattern).now } ∷ []) [] ++ collect names ours true rest) ≡ whole) w.if-is_ours.true step))
      | in-Rule+else-is_ours w ↦
          (let step = rule_step names so whole all i _ w.in-Rule.allows w.in-Rule.pattern ours behind below w.in-Rule.is c.loop-line.invariant in
          rw (w.rules-is, w.is_behind_rule-is, w.is_ours-is)
          (subst (λ b. so ++ map rule_of (cond b (record { allows = w.in-Rule.allows; pattern = (w.in-Rule.pattern).now } ∷ []) [] ++ collect names ours true rest) ≡ whole) w.if-is_ours.false step))
    ]

pub returns : goal.returns
returns c =
    let names = names_one c.args.audience in
    let so = c.loop-line.rules.items in
    let end : drop c.loop-line.line-index c.args.lines.now ≡ [] = drop_all c.loop-line.line-index c.args.lines.now (omega arith) in
    sym (append-nil so)
    ∙ ap (λ rest. so ++ map rule_of rest) (sym (collect-nil names c.loop-line.is_ours c.loop-line.is_behind_rule))
    ∙ ap (λ xs. so ++ map rule_of (collect names c.loop-line.is_ours c.loop-line.is_behind_rule (map line_value xs))) (sym end)
    ∙ c.loop-line.invariant
    ∙ ap (map rule_of) (collect-rules_naming names (map line_value c.args.lines.now))
