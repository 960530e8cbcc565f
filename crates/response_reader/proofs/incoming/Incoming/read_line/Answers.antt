use Rattle.std.proofs.Common.{◌≡◌, ◌∙◌, ◌+◌, ◌-◌, ◌<◌, ◌≤◌, List, ℕ, [], false, length, length-append, drop, ap, subst, sym, arith}
use Rattle.std.proofs.lemmas.Grind.{common_steps}
use Rattle.std.proofs.lemmas.Bool.{false≢true}
use Rattle.std.specs.Prelude.{◌==◌}
use Rattle.std.specs.List.{list_any}
use Rattle.std.specs.Io.KnownBytes.{prepend_known}
use Rattle.response_reader.specs.declared.limits.TheConstants.{MAX_HEADS}
use Rattle.response_reader.specs.inner.Fills.{HasNoLineEnd, line_end}
use Rattle.response_reader.specs.inner.Wire.{tally}
use Rattle.response_reader.proofs.CountLemmas.{exit_is, fault_counts_after}
use Rattle.response_reader.proofs.FillsLemmas.{open_more, open_same}
use Rattle.response_reader.proofs.WireLemmas.{ahead_same, consumes_same, consumes_trans, fills_ahead, goes_on_same, goes_on_trans}
use Rattle.response_reader.proofs.incoming.Incoming.read_line.Goals as goal

some_left : (held most : ℕ) → held < most → 0 < most - held
some_left held most more = omega arith

room_left : (len held most : ℕ) → held ≡ len → held ≤ most → most ≤ MAX_HEADS → len + (most - held) ≤ MAX_HEADS
room_left len held most is within few = omega arith

falls_by : (len got held new most : ℕ) → held ≡ len → new ≡ len + got → 0 < got → held < most → most - new < most - held
falls_by len got held new most is grown some more = omega arith

pub fill-requires : goal.fill-requires
fill-requires g c = record {
  some = some_left c.lines.held c.args.most c.lines-test.true;
  room = room_left (length c.lines.self.unread) c.lines.held c.args.most c.lines.invariant.held c.lines.invariant.within c.requires.room;
}

pub lines-smaller : goal.lines-smaller
lines-smaller g c =
    let fills = c.in_ok-fill.ensures.fills in
    let held = c.lines.self.unread in
    let same : length c.unread-held-in-lines.result.now ≡ length c.fill.new.self.unread = ap (λ (l : List ℕ). length l) c.unread-held-in-lines.ensures in
    let len : length c.fill.new.self.unread ≡ length held + length fills.got = ap (λ (l : List ℕ). length l) fills.unread ∙ length-append held fills.got in
    falls_by (length held) (length fills.got) c.lines.held (length c.unread-held-in-lines.result.now) c.args.most c.lines.invariant.held (same ∙ len) (fills.some c.if-not-branch.false) c.lines-test.true

pub lines-init : goal.lines-init
lines-init g c =
    let first = c.args.self.now.unread in
    let same : length c.unread-held.result.now ≡ length first = ap (λ (l : List ℕ). length l) c.unread-held.ensures in
    record {
      held = same;
      within = omega (arith, same, c.requires.some);
      grows = omega (arith, same);
      bytes = consumes_same (prepend_known first (g.W.Wire.incoming c.args.wire.now));
      lineless = open_same first;
      counts = goes_on_same (tally (g.W.Wire.failed c.args.wire.now) (g.W.Wire.reads_never_fail c.args.wire.now) (g.W.Wire.never_errs c.args.wire.now) (g.W.Wire.outgoing c.args.wire.now) (g.W.Wire.lost c.args.wire.now) c.args.self.now.interrupted);
    }

pub returns-then-not-branch : goal.returns-then-not-branch
returns-then-not-branch g c =
    let before = c.lines.invariant in
    let fills = c.in_ok-fill.ensures.fills in
    let first = c.args.self.now.unread in
    let held = c.lines.self.unread in
    let new = c.fill.new.self.unread in
    let ended = c.if-not-branch.true in
    let len : length new ≡ length held + length fills.got = ap (λ (l : List ℕ). length l) fills.unread ∙ length-append held fills.got in
    let none : length fills.got ≡ 0 = ap (λ (l : List ℕ). length l) (fills.none ended) in
    record {
      held = omega (arith, len, fills.bound, before.held, before.within);
      grows = omega (arith, len, before.held, before.grows);
      more = λ is. absurd (false≢true is);
      short = λ is. omega (arith, len, none, before.held, c.lines-test.true);
      end = λ is. fills.end ended;
      bytes = consumes_trans (prepend_known first (g.W.Wire.incoming c.args.wire.now)) (prepend_known held (g.W.Wire.incoming c.lines.wire)) (prepend_known new (g.W.Wire.incoming c.fill.new.wire)) [] [] before.bytes
          (fills_ahead held new (g.W.Wire.incoming c.lines.wire) (g.W.Wire.incoming c.fill.new.wire) _ _ fills);
      counts = goes_on_trans
          (tally (g.W.Wire.failed c.args.wire.now) (g.W.Wire.reads_never_fail c.args.wire.now) (g.W.Wire.never_errs c.args.wire.now) (g.W.Wire.outgoing c.args.wire.now) (g.W.Wire.lost c.args.wire.now) c.args.self.now.interrupted)
          (tally (g.W.Wire.failed c.lines.wire) (g.W.Wire.reads_never_fail c.lines.wire) (g.W.Wire.never_errs c.lines.wire) (g.W.Wire.outgoing c.lines.wire) (g.W.Wire.lost c.lines.wire) c.lines.self.interrupted)
          (tally (g.W.Wire.failed c.fill.new.wire) (g.W.Wire.reads_never_fail c.fill.new.wire) (g.W.Wire.never_errs c.fill.new.wire) (g.W.Wire.outgoing c.fill.new.wire) (g.W.Wire.lost c.fill.new.wire) c.fill.new.self.interrupted)
          before.counts c.in_ok-fill.ensures.counts;
      device = tt;
      stops = tt;
    }

pub returns-then-contains : goal.returns-then-contains
returns-then-contains g c =
    let before = c.lines.invariant in
    let fills = c.in_ok-fill.ensures.fills in
    let first = c.args.self.now.unread in
    let held = c.lines.self.unread in
    let new = c.fill.new.self.unread in
    let some : 0 < length fills.got = fills.some c.if-not-branch.false in
    let len : length new ≡ length held + length fills.got = ap (λ (l : List ℕ). length l) fills.unread ∙ length-append held fills.got in
    record {
      held = omega (arith, len, fills.bound, before.held, before.within);
      grows = omega (arith, len, before.held, before.grows);
      more = λ is. omega (arith, len, some, before.held, before.grows);
      short = λ is. absurd (false≢true (sym is));
      end = λ is. absurd (false≢true (sym is));
      bytes = consumes_trans (prepend_known first (g.W.Wire.incoming c.args.wire.now)) (prepend_known held (g.W.Wire.incoming c.lines.wire)) (prepend_known new (g.W.Wire.incoming c.fill.new.wire)) [] [] before.bytes
          (fills_ahead held new (g.W.Wire.incoming c.lines.wire) (g.W.Wire.incoming c.fill.new.wire) _ _ fills);
      counts = goes_on_trans
          (tally (g.W.Wire.failed c.args.wire.now) (g.W.Wire.reads_never_fail c.args.wire.now) (g.W.Wire.never_errs c.args.wire.now) (g.W.Wire.outgoing c.args.wire.now) (g.W.Wire.lost c.args.wire.now) c.args.self.now.interrupted)
          (tally (g.W.Wire.failed c.lines.wire) (g.W.Wire.reads_never_fail c.lines.wire) (g.W.Wire.never_errs c.lines.wire) (g.W.Wire.outgoing c.lines.wire) (g.W.Wire.lost c.lines.wire) c.lines.self.interrupted)
          (tally (g.W.Wire.failed c.fill.new.wire) (g.W.Wire.reads_never_fail c.fill.new.wire) (g.W.Wire.never_errs c.fill.new.wire) (g.W.Wire.outgoing c.fill.new.wire) (g.W.Wire.lost c.fill.new.wire) c.fill.new.self.interrupted)
          before.counts c.in_ok-fill.ensures.counts;
      device = tt;
      stops = tt;
    }

pub returns : goal.returns
returns g c =
    let before = c.lines.invariant in
    record {
      held = omega (arith, before.held, before.within);
      grows = omega (arith, before.held, before.grows);
      more = λ is. omega (arith, before.held, c.lines-test.false, c.requires.some);
      short = λ is. absurd (false≢true (sym is));
      end = λ is. absurd (false≢true (sym is));
      bytes = before.bytes;
      counts = before.counts;
      device = tt;
      stops = tt;
    }

pub returns-in_err-fill : goal.returns-in_err-fill
returns-in_err-fill g c =
    let fault = c.in_err-fill.ensures in
    let first = c.args.self.now.unread in
    rw (exit_is c.in_err-fill.field-0.0 c.from_residual.result c.from_residual.ensures.1) record {
      held = tt;
      grows = tt;
      more = tt;
      short = tt;
      end = tt;
      bytes = ahead_same (prepend_known first (g.W.Wire.incoming c.args.wire.now)) c.lines.self.unread c.fill.new.self.unread (g.W.Wire.incoming c.lines.wire)
          (g.W.Wire.incoming c.fill.new.wire) c.lines.invariant.bytes fault.kept fault.same;
      counts = fault_counts_after c.in_err-fill.field-0.0
          (tally (g.W.Wire.failed c.args.wire.now) (g.W.Wire.reads_never_fail c.args.wire.now) (g.W.Wire.never_errs c.args.wire.now) (g.W.Wire.outgoing c.args.wire.now) (g.W.Wire.lost c.args.wire.now) c.args.self.now.interrupted)
          (tally (g.W.Wire.failed c.lines.wire) (g.W.Wire.reads_never_fail c.lines.wire) (g.W.Wire.never_errs c.lines.wire) (g.W.Wire.outgoing c.lines.wire) (g.W.Wire.lost c.lines.wire) c.lines.self.interrupted)
          (tally (g.W.Wire.failed c.fill.new.wire) (g.W.Wire.reads_never_fail c.fill.new.wire) (g.W.Wire.never_errs c.fill.new.wire) (g.W.Wire.outgoing c.fill.new.wire) (g.W.Wire.lost c.fill.new.wire) c.fill.new.self.interrupted)
          c.lines.invariant.counts fault.counts;
      device = fault.device;
      stops = subst (λ (l : List ℕ). HasNoLineEnd first l) (sym fault.kept) c.lines.invariant.lineless;
    }

pub lines-preserved : goal.lines-preserved
lines-preserved g c =
    let before = c.lines.invariant in
    let fills = c.in_ok-fill.ensures.fills in
    let first = c.args.self.now.unread in
    let held = c.lines.self.unread in
    let new = c.fill.new.self.unread in
    let same : length c.unread-held-in-lines.result.now ≡ length new = ap (λ (l : List ℕ). length l) c.unread-held-in-lines.ensures in
    let len : length new ≡ length held + length fills.got = ap (λ (l : List ℕ). length l) fills.unread ∙ length-append held fills.got in
    let lineless : list_any (λ (b : ℕ). b == line_end) (drop c.lines.held new) ≡ false = grind (arith, common_steps) in
    record {
      held = same;
      within = omega (arith, same, len, fills.bound, before.held, before.within);
      grows = omega (arith, same, len, before.held, before.grows);
      bytes = consumes_trans (prepend_known first (g.W.Wire.incoming c.args.wire.now)) (prepend_known held (g.W.Wire.incoming c.lines.wire)) (prepend_known new (g.W.Wire.incoming c.fill.new.wire)) [] [] before.bytes
          (fills_ahead held new (g.W.Wire.incoming c.lines.wire) (g.W.Wire.incoming c.fill.new.wire) _ _ fills);
      lineless = open_more first held new c.lines.held before.lineless before.held fills.got fills.unread lineless;
      counts = goes_on_trans
          (tally (g.W.Wire.failed c.args.wire.now) (g.W.Wire.reads_never_fail c.args.wire.now) (g.W.Wire.never_errs c.args.wire.now) (g.W.Wire.outgoing c.args.wire.now) (g.W.Wire.lost c.args.wire.now) c.args.self.now.interrupted)
          (tally (g.W.Wire.failed c.lines.wire) (g.W.Wire.reads_never_fail c.lines.wire) (g.W.Wire.never_errs c.lines.wire) (g.W.Wire.outgoing c.lines.wire) (g.W.Wire.lost c.lines.wire) c.lines.self.interrupted)
          (tally (g.W.Wire.failed c.fill.new.wire) (g.W.Wire.reads_never_fail c.fill.new.wire) (g.W.Wire.never_errs c.fill.new.wire) (g.W.Wire.outgoing c.fill.new.wire) (g.W.Wire.lost c.fill.new.wire) c.fill.new.self.interrupted)
          before.counts c.in_ok-fill.ensures.counts;
    }
