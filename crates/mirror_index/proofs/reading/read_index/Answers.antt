-- What was read is before the rest, at each line.
use Rattle.std.proofs.Common.{◌≡◌, ◌∙◌, ◌+◌, List, ℕ, length, ap, subst, sym}
use Rattle.mirror_index.specs.Entries.{Entry}
use Rattle.mirror_index.specs.Indexes.{IsIndex, end_text, index_text, lines}
use Rattle.mirror_index.specs.inner.Steps.{IsRead, Stepped}
use Rattle.mirror_index.specs.declared.reading.Step.{Step}
use Rattle.mirror_index.proofs.ReadLaws.{begun, first_bad, gone_on, not_whole, shorter, whole_back, whole_text}
use Rattle.mirror_index.proofs.reading.read_index.Goals as goal

pub returns-in_default-clause-back : goal.returns-in_default-clause-back
returns-in_default-clause-back c entries index whole = absurd (c.in_default.ensures (lines entries (end_text (length entries))) whole)

pub lines-init : goal.lines-init
lines-init c = subst (λ (es : List Entry). IsRead c.args.bytes.now es c.in-Some.first.now) (sym c.new-index.ensures) (begun c.args.bytes.now c.in-Some.first.now c.in-Some.ensures)

pub lines-preserved : goal.lines-preserved
lines-preserved c =
    gone_on c.args.bytes.now c.lines.index c.next_step.new.index c.lines.rest.now c.in-More.after.now c.lines.invariant
    (subst (λ (s : Step). Stepped c.lines.index c.next_step.new.index c.lines.rest.now s) c.in-More.is c.in_ok-step.ensures)

pub lines-smaller : goal.lines-smaller
lines-smaller c =
    shorter c.lines.index c.next_step.new.index c.lines.rest.now c.in-More.after.now
    (subst (λ (s : Step). Stepped c.lines.index c.next_step.new.index c.lines.rest.now s) c.in-More.is c.in_ok-step.ensures)

pub returns-in-End-clause-is : goal.returns-in-End-clause-is
returns-in-End-clause-is c =
    let ended = subst (λ (s : Step). Stepped c.lines.index c.next_step.new.index c.lines.rest.now s) c.in-End.is c.in_ok-step.ensures in
    (whole_text c.args.bytes.now c.lines.index c.lines.rest.now c.lines.invariant ended.1 ∙ ap index_text (sym ended.0), subst IsIndex (sym ended.0) c.lines.invariant.good)

pub returns-in-End-clause-back : goal.returns-in-End-clause-back
returns-in-End-clause-back c entries index whole =
    let ended = subst (λ (s : Step). Stepped c.lines.index c.next_step.new.index c.lines.rest.now s) c.in-End.is c.in_ok-step.ensures in
    ended.0 ∙ whole_back c.args.bytes.now c.lines.index c.lines.rest.now c.lines.invariant ended.1 entries index whole

pub returns-in-Bad-clause-line : goal.returns-in-Bad-clause-line
returns-in-Bad-clause-line c n is =
    let bad = subst (λ (s : Step). Stepped c.lines.index c.next_step.new.index c.lines.rest.now s) c.in-Bad.is c.in_ok-step.ensures in
    let count : c.len.result ≡ length c.lines.index = c.len.ensures.count ∙ ap (λ (es : List Entry). length es) bad.0 in
    let here : n ≡ c.len.result + 2 = cc in
    first_bad c.args.bytes.now c.lines.index c.lines.rest.now n (here ∙ ap (λ (k : ℕ). k + 2) count) c.lines.invariant bad.1

pub returns-in-Bad-clause-back : goal.returns-in-Bad-clause-back
returns-in-Bad-clause-back c entries index whole =
    let bad = subst (λ (s : Step). Stepped c.lines.index c.next_step.new.index c.lines.rest.now s) c.in-Bad.is c.in_ok-step.ensures in
    absurd (not_whole c.args.bytes.now c.lines.index c.lines.rest.now c.lines.invariant bad.1 entries index whole)
