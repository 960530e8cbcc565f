-- One state more looks at edges.
use Rattle.std.proofs.Common.{◌≡◌, ◌≤◌, ◌<◌, ◌∙◌, ap, ⊎_elim, arith}
use Rattle.std.proofs.lemmas.Bool.{cases_lt}
use Rattle.regex_nfa.specs.Run.{state_of}
use Rattle.expressions.proofs.table.looks_at_edges.Goals as goal

pub loop-id-preserved : goal.loop-id-preserved
loop-id-preserved c =
    λ q next look below is.
    ⊎_elim
    (λ (before : q < c.loop-id.id). c.loop-id.invariant q next look before is)
    (λ (past : c.loop-id.id ≤ q).
    let same : c.loop-id.id ≡ q = omega (arith, past, below) in
    c.is_edge.ensures look next c.if-not-is_edge.false (c.state.ensures.is ∙ ap (λ p. state_of c.args.nfa.now p) same ∙ is))
    (cases_lt q c.loop-id.id)
