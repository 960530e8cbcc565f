use Rattle.std.proofs.Common.{ap, ◌∙◌, arith}
use Rattle.std.specs.Int.{bit_at}
use Rattle.std.proofs.lemmas.Nat.Bits.{bit_at-zero}
use Rattle.css_links.specs.inner.Spans.{ends_span}
use Rattle.css_links.proofs.Vectors.{further, within_lanes}
use Rattle.css_links.proofs.span.Span.calm.Goals as goal

pub returns-then-marked-ne0-clause-calm : goal.returns-then-marked-ne0-clause-calm
returns-then-marked-ne0-clause-calm c =
    further (ends_span c.args.self) c.args.text.now c.load.result c.lanes.result c.marks-marked.result c.loop-at.at c.lowest.result c.load.ensures c.lanes.ensures c.marks-marked.ensures
    (omega (arith, within_lanes c.lanes.result c.marks-marked.result c.lowest.result c.lanes.ensures.long c.marks-marked.ensures c.lowest.ensures.set)) c.lowest.ensures.below c.loop-at.invariant.calm

pub loop-at-preserved : goal.loop-at-preserved
loop-at-preserved c = record {
  within = omega arith;
  calm =
      further (ends_span c.args.self) c.args.text.now c.load.result c.lanes.result c.marks-marked.result c.loop-at.at 32 c.load.ensures c.lanes.ensures c.marks-marked.ensures
      (omega arith) (λ k _. ap (λ m. bit_at m k) c.if-marked-ne0.false ∙ bit_at-zero k) c.loop-at.invariant.calm;
}
