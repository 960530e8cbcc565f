use Rattle.std.proofs.Common.{◌∙◌, ◌+◌, ◌++◌, List, drop, sym, ap, append_assoc, append-nil, arith}
use Rattle.std.proofs.lemmas.List.{drop_all}
use Rattle.fetcher.specs.declared.edge.Edge.{Edge}
use Rattle.response_answer.specs.Digests.{sheet_edges}
use Rattle.response_answer.proofs.LinkLemmas.{shown_step}
use Rattle.response_answer.proofs.links.shown_from.Goals as goal

pub loop-reference-preserved : goal.loop-reference-preserved
loop-reference-preserved c =
    let found = c.args.found.now in
    let at = c.args.at.now in
    let i = c.loop-reference.reference-index in
    let rules = c.args.rules in
    let rest = sheet_edges rules at (drop (i + 1) found) in
    ap (λ (l : List Edge). l ++ rest) c.in_ok-add_shown.ensures
    ∙ (append_assoc c.loop-reference.edges.items _ rest
    ∙ (ap (λ (l : List Edge). c.loop-reference.edges.items ++ l) (sym (shown_step rules at found i _ c.reference-item.result c.loop-reference-test.true (sym c.reference-item.is)))
    ∙ c.loop-reference.invariant))

pub returns : goal.returns
unfolding sheet_edges
returns c =
    sym (append-nil c.loop-reference.edges.items)
    ∙ (sym (ap (λ xs. c.loop-reference.edges.items ++ sheet_edges c.args.rules c.args.at.now xs) (drop_all c.loop-reference.reference-index c.args.found.now (omega arith)))
    ∙ c.loop-reference.invariant)
