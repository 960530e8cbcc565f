use Rattle.std.proofs.Common.{◌≡◌, ◌∙◌, ◌+◌, ◌<◌, ℕ, Bool, ◌||◌, List, ◌∷◌, length, map, drop, get_or, sym, ap, arith}
use Rattle.std.proofs.lemmas.List.{drop_more, drop_all}
use Rattle.std.proofs.lemmas.Bool.{or_left}
use Rattle.std.specs.Borrow.{Bor}
use Rattle.robots_rules.specs.Groups.{names_us}
use Rattle.robots_rules.specs.inner.LineView.{line_value}
use Rattle.robots_rules.specs.declared.lines.Line.{Line}
use Rattle.robots_rules.specs.declared.lines.Line.TheVariants as line
use Rattle.robots_rules.proofs.GroupLemmas.{some_agent, some_agent-groups}
use Rattle.robots_rules.proofs.groups.names_this_agent.Goals as goal
use Rattle.robots_rules.proofs.groups.names_this_agent.Goals.{in-Agent+else-names_us, in-Rule}

agent_step : (names : List ℕ → Bool) (lines : List Line) (i : ℕ) (d : Line) (name : Bor (List ℕ)) → i < length lines → get_or lines i d ≡ line.Agent name → some_agent names (map line_value (drop i lines)) ≡ (names name.now || some_agent names (map line_value (drop (i + 1) lines)))
unfolding some_agent
agent_step names lines i d name below is = ap (λ xs. some_agent names (map line_value xs)) (drop_more lines i d below ∙ ap (λ x. x ∷ drop (i + 1) lines) is)

rule_step : (names : List ℕ → Bool) (lines : List Line) (i : ℕ) (d : Line) (allows : Bool) (pattern : Bor (List ℕ)) → i < length lines → get_or lines i d ≡ line.Rule allows pattern → some_agent names (map line_value (drop i lines)) ≡ some_agent names (map line_value (drop (i + 1) lines))
unfolding some_agent
rule_step names lines i d allows pattern below is = ap (λ xs. some_agent names (map line_value xs)) (drop_more lines i d below ∙ ap (λ x. x ∷ drop (i + 1) lines) is)

pub returns-then-names_us : goal.returns-then-names_us
returns-then-names_us c =
    let lines = c.args.lines.now in
    let i = c.loop-line.line-index in
    sym (or_left (names_us (c.in-Agent.value).now) (some_agent names_us (map line_value (drop (i + 1) lines))) (sym c.names_us.ensures ∙ c.if-names_us.true))
    ∙ sym (agent_step names_us lines i _ c.in-Agent.value c.loop-line-test.true c.in-Agent.is)
    ∙ c.loop-line.invariant
    ∙ some_agent-groups names_us (map line_value lines)

pub loop-line-preserved : goal.loop-line-preserved
loop-line-preserved c =
    let lines = c.args.lines.now in
    let i = c.loop-line.line-index in
    let rest = some_agent names_us (map line_value (drop (i + 1) lines)) in
    elim c.match-line.branch [
      | in-Agent+else-names_us w ↦
          sym (agent_step names_us lines i _ w.in-Agent.value c.loop-line-test.true w.in-Agent.is ∙ ap (λ b. b || rest) (sym w.names_us.ensures ∙ w.if-names_us.false)) ∙ c.loop-line.invariant
      | in-Rule w ↦ sym (rule_step names_us lines i _ _ _ c.loop-line-test.true w.in-Rule.is) ∙ c.loop-line.invariant
    ]

pub returns : goal.returns
unfolding some_agent
returns c =
    sym (ap (λ xs. some_agent names_us (map line_value xs)) (drop_all c.loop-line.line-index c.args.lines.now (omega arith)))
    ∙ c.loop-line.invariant ∙ some_agent-groups names_us (map line_value c.args.lines.now)
