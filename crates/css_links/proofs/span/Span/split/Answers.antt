use Rattle.std.proofs.Common.{◌≡◌, ◌+◌, ◌-◌, ◌≤◌, length, refl, ◌∙◌, arith}
use Rattle.css_links.specs.inner.Spans.{ends_span}
use Rattle.css_links.proofs.Vectors.{cut_after, run_fits}
use Rattle.css_links.proofs.span.Span.split.Goals as goal

pub split_at-requires-2 : goal.split_at-requires-2
split_at-requires-2 c =
    omega (arith, c.calm-calm.ensures.within, c.split_at.ensures.back_len, run_fits (ends_span c.args.self) c.split_at.result.1.now c.split_by_bytes.result.0.now c.split_by_bytes.ensures.front)

pub returns-clause-front : goal.returns-clause-front
returns-clause-front c =
    let parts =
    cut_after (ends_span c.args.self) c.args.text.now c.calm-calm.result c.calm-calm.ensures.within c.calm-calm.ensures.calm c.split_by_bytes.result.0.now c.split_at.result.1.now
    (c.calm-calm.result + length c.split_by_bytes.result.0.now) c.split_at.ensures.back c.split_by_bytes.ensures.front refl in
    c.split_at-2.ensures.front ∙ parts.0

pub returns-clause-left : goal.returns-clause-left
returns-clause-left c =
    let parts =
    cut_after (ends_span c.args.self) c.args.text.now c.calm-calm.result c.calm-calm.ensures.within c.calm-calm.ensures.calm c.split_by_bytes.result.0.now c.split_at.result.1.now
    (c.calm-calm.result + length c.split_by_bytes.result.0.now) c.split_at.ensures.back c.split_by_bytes.ensures.front refl in
    c.split_at-2.ensures.back ∙ parts.1
