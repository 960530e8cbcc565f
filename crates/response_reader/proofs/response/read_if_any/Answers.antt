use Rattle.std.proofs.Common.{[], Some, None, refl, inl, inr, subst, sym, ◌∙◌}
use Rattle.std.specs.Io.KnownBytes.{prepend_known}
use Rattle.response_reader.specs.Limits.{limited}
use Rattle.response_reader.specs.inner.Wire.{tally}
use Rattle.response_reader.specs.ReadFaults.{IsReadFault}
use Rattle.response_reader.specs.Wire.{OfBytes}
use Rattle.response_reader.specs.declared.fault.ReadFault.{ReadFault}
use Rattle.response_reader.specs.Response.{HandsOn}
use Rattle.response_reader.specs.declared.fault.ReadFault.TheVariants.{Memory}
use Rattle.response_reader.proofs.CountLemmas.{exit_is, fault_counts_after, fault_is, kept_by_fault, memory_is_not_device, ok_is_no_fault}
use Rattle.response_reader.proofs.ReadLemmas.{told_device, told_memory}
use Rattle.response_reader.proofs.ReusableLemmas.{ahead_first, ends_first, told_first, reusable_first, none_counted, risen_of}
use Rattle.response_reader.proofs.WireLemmas.{keeps_same, keeps_none, keeps_trans}
use Rattle.response_reader.proofs.response.read_if_any.Goals as goal

pub returns-in_err-incoming : goal.returns-in_err-incoming
returns-in_err-incoming g c =
    rw (exit_is Memory c.from_residual.result c.from_residual.ensures.1) record {
      silent = tt;
      ends = tt;
      untouched = tt;
      response = tt;
      reusable = tt;
      fault = told_memory (limited c.args.limits) (g.W.Wire.incoming c.args.wire.now);
      device = λ is. absurd (memory_is_not_device is);
      purpose = refl;
      written = keeps_same (g.W.Wire.outgoing c.args.wire.now);
    }

pub returns-in_err-reusable-in-Ok-true : goal.returns-in_err-reusable-in-Ok-true
returns-in_err-reusable-in-Ok-true g c =
    let f = c.in_err-reusable-in-Ok-true.field-0.0 in
    let e = c.in_err-reusable-in-Ok-true.ensures in
    let first = c.in-Ok-true.ensures in
    let old = tally (g.W.Wire.failed c.args.wire.now) (g.W.Wire.reads_never_fail c.args.wire.now) (g.W.Wire.never_errs c.args.wire.now) (g.W.Wire.outgoing c.args.wire.now) (g.W.Wire.lost c.args.wire.now) c.in_ok-incoming.incoming.interrupted in
    let new = tally (g.W.Wire.failed c.read_through.new.wire) (g.W.Wire.reads_never_fail c.read_through.new.wire) (g.W.Wire.never_errs c.read_through.new.wire) (g.W.Wire.outgoing c.read_through.new.wire) (g.W.Wire.lost c.read_through.new.wire) c.read_through.new.incoming.interrupted in
    let counts = fault_counts_after f old (tally (g.W.Wire.failed c.fill.new.wire) (g.W.Wire.reads_never_fail c.fill.new.wire) (g.W.Wire.never_errs c.fill.new.wire) (g.W.Wire.outgoing c.fill.new.wire) (g.W.Wire.lost c.fill.new.wire) c.fill.new.self.interrupted) new first.counts e.counts in
    rw (exit_is f c.from_residual-in_err-reusable-in-Ok-true.result c.from_residual-in_err-reusable-in-Ok-true.ensures.1) record {
      silent = tt;
      ends = tt;
      untouched = tt;
      response = tt;
      reusable = tt;
      fault = told_first (g.W.Wire.incoming c.args.wire.now) (prepend_known c.fill.new.self.unread (g.W.Wire.incoming c.fill.new.wire)) (IsReadFault (limited c.args.limits) f)
          (ahead_first c.in_ok-incoming.incoming.unread c.fill.new.self.unread (g.W.Wire.incoming c.args.wire.now) (g.W.Wire.incoming c.fill.new.wire) _ _ c.in_ok-incoming.ensures.none first.fills) e.fault;
      device = λ is. risen_of (g.W.Wire.failed c.args.wire.now) old new f (none_counted _ _ c.in_ok-incoming.ensures.uninterrupted) counts (fault_is is);
      purpose = e.purpose;
      written = kept_by_fault f old new counts;
    }

pub returns-in_ok-reusable-in-Ok-true : goal.returns-in_ok-reusable-in-Ok-true
returns-in_ok-reusable-in-Ok-true g c =
    let e = c.in_ok-reusable-in-Ok-true.ensures in
    let first = c.in-Ok-true.ensures in
    let known = g.W.Wire.incoming c.args.wire.now in
    let ahead = prepend_known c.fill.new.self.unread (g.W.Wire.incoming c.fill.new.wire) in
    let same = ahead_first c.in_ok-incoming.incoming.unread c.fill.new.self.unread known (g.W.Wire.incoming c.fill.new.wire) _ _ c.in_ok-incoming.ensures.none first.fills in
    record {
      silent = tt;
      ends = tt;
      untouched = tt;
      response = told_first known ahead (HandsOn (limited c.args.limits) (λ r. g.S.Sink.took c.args.sink.now None [] → g.S.Sink.took c.read_through.new.sink (Some r.head) r.body)) same e.response;
      reusable = reusable_first (limited c.args.limits) known ahead (g.W.Wire.incoming c.read_through.new.wire) c.in_ok-reusable-in-Ok-true.reusable same e.reusable;
      fault = tt;
      device = λ is. absurd (ok_is_no_fault is);
      purpose = e.purpose;
      written = keeps_trans (g.W.Wire.outgoing c.args.wire.now) (g.W.Wire.outgoing c.fill.new.wire) (g.W.Wire.outgoing c.read_through.new.wire) first.counts.kept e.counts.kept;
    }

pub returns-in-Ok-false : goal.returns-in-Ok-false
returns-in-Ok-false g c =
    let e = c.in-Ok-false.ensures in
    record {
      silent = keeps_none (g.W.Wire.incoming c.args.wire.now) (g.W.Wire.incoming c.fill.new.wire) e.fills.got e.fills.bytes (e.fills.none c.in-Ok-false.field-0-test);
      ends = inl (ends_first c.in_ok-incoming.incoming.unread c.fill.new.self.unread (g.W.Wire.incoming c.args.wire.now) (g.W.Wire.incoming c.fill.new.wire) _ _ c.in-Ok-false.field-0-test e.fills);
      untouched = refl;
      response = tt;
      reusable = tt;
      fault = tt;
      device = λ is. absurd (ok_is_no_fault is);
      purpose = refl;
      written = e.counts.kept;
    }

pub returns-then-has_timed_out : goal.returns-then-has_timed_out
returns-then-has_timed_out g c =
    let e = c.in-Err.ensures in
    let old = tally (g.W.Wire.failed c.args.wire.now) (g.W.Wire.reads_never_fail c.args.wire.now) (g.W.Wire.never_errs c.args.wire.now) (g.W.Wire.outgoing c.args.wire.now) (g.W.Wire.lost c.args.wire.now) c.in_ok-incoming.incoming.interrupted in
    let new = tally (g.W.Wire.failed c.fill.new.wire) (g.W.Wire.reads_never_fail c.fill.new.wire) (g.W.Wire.never_errs c.fill.new.wire) (g.W.Wire.outgoing c.fill.new.wire) (g.W.Wire.lost c.fill.new.wire) c.fill.new.self.interrupted in
    record {
      silent = tt;
      ends = tt;
      untouched = tt;
      response = tt;
      reusable = tt;
      fault = subst (λ (f : ReadFault). OfBytes (g.W.Wire.incoming c.args.wire.now) (IsReadFault (limited c.args.limits) f)) (sym e.device) (told_device (limited c.args.limits) (g.W.Wire.incoming c.args.wire.now));
      device = λ _. risen_of (g.W.Wire.failed c.args.wire.now) old new c.in-Err.fault (none_counted _ _ c.in_ok-incoming.ensures.uninterrupted) e.counts e.device;
      purpose = refl;
      written = kept_by_fault c.in-Err.fault old new e.counts;
    }

pub returns-else-has_timed_out : goal.returns-else-has_timed_out
returns-else-has_timed_out g c =
    let e = c.in-Err.ensures in
    let old = tally (g.W.Wire.failed c.args.wire.now) (g.W.Wire.reads_never_fail c.args.wire.now) (g.W.Wire.never_errs c.args.wire.now) (g.W.Wire.outgoing c.args.wire.now) (g.W.Wire.lost c.args.wire.now) c.in_ok-incoming.incoming.interrupted in
    let new = tally (g.W.Wire.failed c.fill.new.wire) (g.W.Wire.reads_never_fail c.fill.new.wire) (g.W.Wire.never_errs c.fill.new.wire) (g.W.Wire.outgoing c.fill.new.wire) (g.W.Wire.lost c.fill.new.wire) c.fill.new.self.interrupted in
    record {
      silent = e.same;
      ends = inr (risen_of (g.W.Wire.failed c.args.wire.now) old new c.in-Err.fault (none_counted _ _ c.in_ok-incoming.ensures.uninterrupted) e.counts e.device, sym c.has_timed_out.ensures ∙ c.if-has_timed_out.false);
      untouched = refl;
      response = tt;
      reusable = tt;
      fault = tt;
      device = λ is. absurd (ok_is_no_fault is);
      purpose = refl;
      written = kept_by_fault c.in-Err.fault old new e.counts;
    }
