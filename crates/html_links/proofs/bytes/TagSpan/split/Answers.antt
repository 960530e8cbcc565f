use Rattle.std.proofs.Common.{refl, sym, ◌∙◌, add-one}
use Rattle.html_links.specs.inner.Spans.{ends_span}
use Rattle.html_links.proofs.Running.{stopped_until, stopped_from, passed_until, passed_from, ended_until, ended_from}
use Rattle.html_links.proofs.bytes.TagSpan.split.Goals as goal

pub loop-i-init : goal.loop-i-init
loop-i-init c = record { front = refl; left = refl }

pub returns-then-ends_at-clause-front : goal.returns-then-ends_at-clause-front
returns-then-ends_at-clause-front c =
    c.split_at.ensures.front ∙ sym (stopped_until (ends_span c.args.self) c.args.text.now c.loop-i.i c.loop-i-test.true (sym c.ends_at.ensures ∙ c.if-ends_at.true) c.loop-i.invariant.front)

pub returns-then-ends_at-clause-left : goal.returns-then-ends_at-clause-left
returns-then-ends_at-clause-left c =
    c.split_at.ensures.back ∙ sym (stopped_from (ends_span c.args.self) c.args.text.now c.loop-i.i c.loop-i-test.true (sym c.ends_at.ensures ∙ c.if-ends_at.true) c.loop-i.invariant.left)

pub loop-i-preserved : goal.loop-i-preserved
loop-i-preserved c =
    let goes = sym c.ends_at.ensures ∙ c.if-ends_at.false in
    rw add-one record {
      front = passed_until (ends_span c.args.self) c.args.text.now c.loop-i.i c.loop-i-test.true goes c.loop-i.invariant.front;
      left = passed_from (ends_span c.args.self) c.args.text.now c.loop-i.i c.loop-i-test.true goes c.loop-i.invariant.left;
    }

pub returns-clause-front : goal.returns-clause-front
returns-clause-front c = ended_until (ends_span c.args.self) c.args.text.now c.loop-i.i c.loop-i-test.false c.loop-i.invariant.front

pub returns-clause-left : goal.returns-clause-left
returns-clause-left c = ended_from (ends_span c.args.self) c.args.text.now c.loop-i.i c.loop-i-test.false c.loop-i.invariant.left
