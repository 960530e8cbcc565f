use Rattle.std.proofs.Common.{◌≡◌, ◌+◌, sym, refl, ◌∙◌, true, true≢false, below_more, arith}
use Rattle.std.proofs.lemmas.Bool.{false≢true}
use Rattle.frontier_core.specs.Plans.{policy}
use Rattle.frontier_core.specs.inner.TableCalls.{key_numbered}
use Rattle.frontier_core.specs.Routes.{admits, weight as weight_of}
use Rattle.fetcher.specs.declared.edge.Edge.{Edge}
use Rattle.frontier_core.proofs.Stuck.{stuck_at, unstuck, stuck_within}
use Rattle.frontier_core.proofs.board.Board.is_stuck.Goals as goal

pub returns-then-leads_out : goal.returns-then-leads_out
returns-then-leads_out c =
    let s = c.args.self.now in
    let (held, found, depth) = c.depth_at-depth.ensures in
    let edge : Edge = record { target = c.edge_at-kind.result.0.now; kind = c.edge_at-kind.result.1 } in
    let sum = c.weight.ensures in
    let out = c.leads_out.ensures.0 c.if-leads_out.true in
    let followed : admits (policy c.args.plan.now) (key_numbered s.entries c.args.at) edge (held.depth + weight_of edge.kind) ≡ true = rw (← depth, ← sum, ← c.address_at.ensures) out.0 in
    ((λ so. (held.depth, c.loop-k.k, stuck_at (policy c.args.plan.now) s (key_numbered s.entries c.args.at) held c.loop-k.k edge found c.edge_at-kind.ensures followed out.1)), λ so. refl)

pub loop-k-preserved : goal.loop-k-preserved
loop-k-preserved c =
    let s = c.args.self.now in
    let (held, found, depth) = c.depth_at-depth.ensures in
    let edge : Edge = record { target = c.edge_at-kind.result.0.now; kind = c.edge_at-kind.result.1 } in
    let sum = c.weight.ensures in
    below_more _ _ c.loop-k.invariant
    (unstuck (policy c.args.plan.now) s (key_numbered s.entries c.args.at) held c.loop-k.k edge found c.edge_at-kind.ensures
    (λ followed none. (let out : admits (policy c.args.plan.now) c.address_at.result.now edge (c.depth_at-depth.result + c.weight.result) ≡ true = rw (depth, sum, c.address_at.ensures) followed in
    true≢false (sym (c.leads_out.ensures.1 (out, none)) ∙ c.if-leads_out.false))))

pub returns : goal.returns
returns c =
    let s = c.args.self.now in (
      (λ so. absurd (false≢true so)),
      λ some. (
          let within = stuck_within (policy c.args.plan.now) s (key_numbered s.entries c.args.at) some.0 some.1 some.2 in
          let count = c.edge_count-k-end.ensures in
          let end = c.loop-k-test.false in
          absurd (c.loop-k.invariant some.1 (omega (arith, within, count, end)) some.0 some.2)),
    )
