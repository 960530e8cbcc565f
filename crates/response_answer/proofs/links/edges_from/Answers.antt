use Rattle.std.proofs.Common.{◌∙◌, ◌+◌, ◌++◌, List, drop, sym, ap, append_assoc, append-nil, arith}
use Rattle.std.proofs.lemmas.List.{drop_all}
use Rattle.fetcher.specs.declared.edge.Edge.{Edge}
use Rattle.response_answer.specs.Digests.{edges_from}
use Rattle.response_answer.proofs.LinkLemmas.{edges_step}
use Rattle.response_answer.proofs.links.edges_from.Goals as goal

pub loop-link-preserved : goal.loop-link-preserved
loop-link-preserved c =
    let links = c.args.links.now in
    let base = c.args.base.now in
    let i = c.loop-link.link-index in
    let rules = c.args.rules in
    let rest = edges_from rules base (drop (i + 1) links) in
    ap (λ (l : List Edge). l ++ rest) c.in_ok-add_edge.ensures
    ∙ (append_assoc c.loop-link.edges.items _ rest
    ∙ (ap (λ (l : List Edge). c.loop-link.edges.items ++ l) (sym (edges_step rules base links i _ c.link-item.result c.loop-link-test.true (sym c.link-item.is)))
    ∙ c.loop-link.invariant))

pub returns : goal.returns
unfolding edges_from
returns c =
    sym (append-nil c.loop-link.edges.items)
    ∙ (sym (ap (λ xs. c.loop-link.edges.items ++ edges_from c.args.rules c.args.base.now xs) (drop_all c.loop-link.link-index c.args.links.now (omega arith)))
    ∙ c.loop-link.invariant)
