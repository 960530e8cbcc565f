use Rattle.std.proofs.Common.{[], ◌∙◌}
use Rattle.std.specs.Io.KnownBytes.{prepend_known}
use Rattle.response_reader.specs.inner.Wire.{tally}
use Rattle.response_reader.proofs.CountLemmas.{exit_is, fault_counts_after}
use Rattle.response_reader.proofs.HeadStageLemmas.{stage_before}
use Rattle.response_reader.proofs.WireLemmas.{consumes_same, consumes_trans, goes_on_same, goes_on_trans}
use Rattle.response_reader.proofs.head.next_head.Goals as goal

pub returns-in_err-head : goal.returns-in_err-head
returns-in_err-head g c =
    let f = c.in_err-head.field-0.0 in
    let e = c.in_err-head.ensures in
    let before = c.reads.invariant in
    let first = prepend_known c.args.incoming.now.unread (g.W.Wire.incoming c.args.wire.now) in
    let ahead = prepend_known c.reads.incoming.unread (g.W.Wire.incoming c.reads.wire) in
    let left = prepend_known c.look_for_head.new.incoming.unread (g.W.Wire.incoming c.look_for_head.new.wire) in
    rw (exit_is f c.from_residual.result c.from_residual.ensures.1) record {
      within = tt;
      whole = tt;
      held = tt;
      bytes = consumes_trans first ahead left [] [] before.bytes e.bytes;
      stops = e.stops;
      fault = stage_before first ahead c.args.most f before.bytes e.fault;
      counts = fault_counts_after f _ _ _ before.counts e.counts;
    }

pub reads-init : goal.reads-init
reads-init g c = record {
  held = c.requires.held;
  fields = c.requires.fields;
  bytes = consumes_same (prepend_known c.args.incoming.now.unread (g.W.Wire.incoming c.args.wire.now));
  counts = goes_on_same (tally (g.W.Wire.failed c.args.wire.now) (g.W.Wire.reads_never_fail c.args.wire.now) (g.W.Wire.never_errs c.args.wire.now) (g.W.Wire.outgoing c.args.wire.now) (g.W.Wire.lost c.args.wire.now) c.args.incoming.now.interrupted);
}

pub returns-in-Some : goal.returns-in-Some
returns-in-Some g c =
    let e = c.in_ok-head.ensures in
    let before = c.reads.invariant in
    record {
      within = rw c.in-Some.is at e.within;
      whole = rw c.in-Some.is at e.whole;
      held = e.held;
      bytes = consumes_trans (prepend_known c.args.incoming.now.unread (g.W.Wire.incoming c.args.wire.now)) (prepend_known c.reads.incoming.unread (g.W.Wire.incoming c.reads.wire)) (prepend_known c.look_for_head.new.incoming.unread (g.W.Wire.incoming c.look_for_head.new.wire)) [] [] before.bytes e.bytes;
      stops = tt;
      fault = tt;
      counts = goes_on_trans
          (tally (g.W.Wire.failed c.args.wire.now) (g.W.Wire.reads_never_fail c.args.wire.now) (g.W.Wire.never_errs c.args.wire.now) (g.W.Wire.outgoing c.args.wire.now) (g.W.Wire.lost c.args.wire.now) c.args.incoming.now.interrupted)
          (tally (g.W.Wire.failed c.reads.wire) (g.W.Wire.reads_never_fail c.reads.wire) (g.W.Wire.never_errs c.reads.wire) (g.W.Wire.outgoing c.reads.wire) (g.W.Wire.lost c.reads.wire) c.reads.incoming.interrupted)
          (tally (g.W.Wire.failed c.look_for_head.new.wire) (g.W.Wire.reads_never_fail c.look_for_head.new.wire) (g.W.Wire.never_errs c.look_for_head.new.wire) (g.W.Wire.outgoing c.look_for_head.new.wire) (g.W.Wire.lost c.look_for_head.new.wire) c.look_for_head.new.incoming.interrupted)
          before.counts e.counts;
    }

pub reads-preserved : goal.reads-preserved
reads-preserved g c =
    let e = c.in_ok-head.ensures in
    let before = c.reads.invariant in
    record {
      held = e.held;
      fields = c.look_for_head.auto.spans ∙ before.fields;
      bytes = consumes_trans (prepend_known c.args.incoming.now.unread (g.W.Wire.incoming c.args.wire.now)) (prepend_known c.reads.incoming.unread (g.W.Wire.incoming c.reads.wire)) (prepend_known c.look_for_head.new.incoming.unread (g.W.Wire.incoming c.look_for_head.new.wire)) [] [] before.bytes e.bytes;
      counts = goes_on_trans
          (tally (g.W.Wire.failed c.args.wire.now) (g.W.Wire.reads_never_fail c.args.wire.now) (g.W.Wire.never_errs c.args.wire.now) (g.W.Wire.outgoing c.args.wire.now) (g.W.Wire.lost c.args.wire.now) c.args.incoming.now.interrupted)
          (tally (g.W.Wire.failed c.reads.wire) (g.W.Wire.reads_never_fail c.reads.wire) (g.W.Wire.never_errs c.reads.wire) (g.W.Wire.outgoing c.reads.wire) (g.W.Wire.lost c.reads.wire) c.reads.incoming.interrupted)
          (tally (g.W.Wire.failed c.look_for_head.new.wire) (g.W.Wire.reads_never_fail c.look_for_head.new.wire) (g.W.Wire.never_errs c.look_for_head.new.wire) (g.W.Wire.outgoing c.look_for_head.new.wire) (g.W.Wire.lost c.look_for_head.new.wire) c.look_for_head.new.incoming.interrupted)
          before.counts e.counts;
    }
