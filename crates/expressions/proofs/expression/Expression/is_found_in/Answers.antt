-- The automaton finds what the expression finds, nothing without what it needs, and the test says what is meant.
use Rattle.std.proofs.Common.{◌∙◌, ◌<◌, false, sym, ap, subst, arith}
use Rattle.std.proofs.lemmas.List.Elements.{All-from_get_or}
use Rattle.expressions.specs.inner.Accepting.{IsCompiled, begins_from}
use Rattle.expressions.specs.inner.Needles.{MayHave}
use Rattle.expressions.proofs.Compiling.{found_is, found_iff, without}
use Rattle.expressions.proofs.expression.Expression.is_found_in.Goals as goal

pub returns-then-not-may_have-clause-value : goal.returns-then-not-may_have-clause-value
returns-then-not-may_have-clause-value c =
    let nfa = c.self.inside.nfa in
    let text = c.args.text.now in
    let bytes = All-from_get_or (λ x. x < 256) text 0 (λ i within. omega (arith, c.type_inv.text i)) in
    let none = subst (λ t. MayHave c.self.inside.needles t false) c.as_bytes-text.ensures.value (subst (λ b. MayHave c.self.inside.needles c.as_bytes-text.result.now b) c.if-not-may_have.true c.may_have.ensures) in
    sym (without c.self.inside.needles nfa text bytes c.self.invariant.3 none) ∙ found_is c.args.self.now text nfa (subst (λ e. IsCompiled e nfa) c.self.view_is c.self.invariant.0) bytes

pub returns-then-not-may_have-clause-means : goal.returns-then-not-may_have-clause-means
returns-then-not-may_have-clause-means c =
    let says = found_iff c.args.self.now c.args.text.now in
    let value = returns-then-not-may_have-clause-value c in
    (λ yes_it. says.0 (sym value ∙ yes_it), λ found. value ∙ says.1 found)

pub returns-clause-value : goal.returns-clause-value
returns-clause-value c =
    let nfa = c.self.inside.nfa in
    let text = c.args.text.now in
    let bytes = All-from_get_or (λ x. x < 256) text 0 (λ i within. omega (arith, c.type_inv.text i)) in
    c.searched.ensures ∙ ap (λ t. begins_from nfa t 0) c.as_bytes-text.ensures.value
    ∙ found_is c.args.self.now text nfa (subst (λ e. IsCompiled e nfa) c.self.view_is c.self.invariant.0) bytes

pub returns-clause-means : goal.returns-clause-means
returns-clause-means c =
    let says = found_iff c.args.self.now c.args.text.now in
    let value = returns-clause-value c in
    (λ yes_it. says.0 (sym value ∙ yes_it), λ found. value ∙ says.1 found)
