use Rattle.std.proofs.Common.{◌≡◌, Bool, List, ℕ, Option, Some, None, [], Ok, Err, refl, subst, sym, ap}
use Rattle.response_reader.specs.Limits.{Limited, standard}
use Rattle.std.specs.Io.KnownBytes.{prepend_known}
use Rattle.response_reader.specs.declared.fault.ReadFault.{ReadFault}
use Rattle.response_reader.specs.declared.fault.ReadFault.TheVariants.{Device, Memory}
use Rattle.response_reader.specs.inner.Wire.{tally}
use Rattle.response_reader.specs.Gathered.{HasGathered}
use Rattle.response_reader.specs.ReadFaults.{IsReadFault}
use Rattle.response_reader.specs.Reusable.{Reusable}
use Rattle.response_reader.specs.Wire.{OfBytes}
use Rattle.response_reader.specs.Response.{ResponseParts, IsResponse, HandsOn}
use Rattle.response_reader.proofs.CountLemmas.{exit_is, fault_is, few_of_counts, gave_up, goes_on_unless, kept_by_fault, memory_is_not_device, none_failed, none_interrupted, ok_is_no_fault}
use Rattle.response_reader.proofs.ReadLemmas.{nothing_unread, told_memory}
use Rattle.response_reader.proofs.ReusableLemmas.{none_counted}
use Rattle.response_reader.proofs.WireLemmas.{keeps_same}
use Rattle.response_reader.proofs.response.read_reply.Goals as goal

pub returns-in_err-incoming : goal.returns-in_err-incoming
returns-in_err-incoming g c =
    rw (exit_is Memory c.from_residual.result c.from_residual.ensures.1) record {
      response = tt;
      given = tt;
      reusable = tt;
      fault = told_memory standard (g.W.Wire.incoming c.args.wire.now);
      device = λ is. absurd (memory_is_not_device is);
      interrupted = λ is. absurd (memory_is_not_device is);
      few = λ ne. none_failed (g.W.Wire.failed c.args.wire.now);
      unerring = λ steady is. memory_is_not_device is;
      lost = λ ne. refl;
      written = keeps_same (g.W.Wire.outgoing c.args.wire.now);
    }

pub returns-in_err-reusable : goal.returns-in_err-reusable
returns-in_err-reusable g c =
    let f = c.in_err-reusable.field-0.0 in
    let e = c.in_err-reusable.ensures in
    let before = g.W.Wire.failed c.args.wire.now in
    let old = tally before (g.W.Wire.reads_never_fail c.args.wire.now) (g.W.Wire.never_errs c.args.wire.now) (g.W.Wire.outgoing c.args.wire.now) (g.W.Wire.lost c.args.wire.now) c.in_ok-incoming.incoming.interrupted in
    let new = tally (g.W.Wire.failed c.read_through.new.wire) (g.W.Wire.reads_never_fail c.read_through.new.wire) (g.W.Wire.never_errs c.read_through.new.wire) (g.W.Wire.outgoing c.read_through.new.wire) (g.W.Wire.lost c.read_through.new.wire) c.read_through.new.incoming.interrupted in
    let same = nothing_unread c.in_ok-incoming.incoming.unread (g.W.Wire.incoming c.args.wire.now) c.in_ok-incoming.ensures.none in
    let ahead = prepend_known c.in_ok-incoming.incoming.unread (g.W.Wire.incoming c.args.wire.now) in
    let none = none_counted before _ c.in_ok-incoming.ensures.uninterrupted in
    rw (exit_is f c.from_residual-in_err-reusable.result c.from_residual-in_err-reusable.ensures.1) record {
      response = tt;
      given = tt;
      reusable = tt;
      fault = subst (λ (o : Option (List ℕ)). OfBytes o (IsReadFault standard f)) same (subst (λ (limits : Limited). OfBytes ahead (IsReadFault limits f)) c.standard.ensures e.fault);
      device = λ is.
          let gave = gave_up f old new (fault_is is) e.counts in
          gave.risen before none;
      interrupted = λ is unfailing.
          let gave = gave_up f old new (fault_is is) e.counts in
          gave.only unfailing before none;
      few = λ ne. few_of_counts {T = Bool} (Err f) before old new e.counts none (none_interrupted _ c.in_ok-incoming.ensures.uninterrupted) (λ is. ne (ap (λ (e : ReadFault). Err e) (fault_is is)));
      unerring = λ steady is.
          let gave = gave_up f old new (fault_is is) e.counts in
          gave.erred steady;
      lost = λ ne.
          let on = goes_on_unless f old new (λ (is : f ≡ Device). ne (ap (λ (e : ReadFault). Err e) is)) e.counts in
          on.lost;
      written = kept_by_fault f old new e.counts;
    }

pub returns : goal.returns
returns g c =
    let e = c.in_ok-reusable.ensures in
    let reusable = c.in_ok-reusable.reusable in
    let before = g.W.Wire.failed c.args.wire.now in
    let old = tally before (g.W.Wire.reads_never_fail c.args.wire.now) (g.W.Wire.never_errs c.args.wire.now) (g.W.Wire.outgoing c.args.wire.now) (g.W.Wire.lost c.args.wire.now) c.in_ok-incoming.incoming.interrupted in
    let new = tally (g.W.Wire.failed c.read_through.new.wire) (g.W.Wire.reads_never_fail c.read_through.new.wire) (g.W.Wire.never_errs c.read_through.new.wire) (g.W.Wire.outgoing c.read_through.new.wire) (g.W.Wire.lost c.read_through.new.wire) c.read_through.new.incoming.interrupted in
    let same = nothing_unread c.in_ok-incoming.incoming.unread (g.W.Wire.incoming c.args.wire.now) c.in_ok-incoming.ensures.none in
    let none = none_counted before _ c.in_ok-incoming.ensures.uninterrupted in
    let ahead = prepend_known c.in_ok-incoming.incoming.unread (g.W.Wire.incoming c.args.wire.now) in
    let told = subst (λ (o : Option (List ℕ)). OfBytes o
    (HandsOn standard (λ r. HasGathered c.new-gather.result None [] → HasGathered c.read_through.new.sink (Some r.head) r.body))) same
    (subst (λ (limits : Limited). OfBytes ahead (HandsOn limits (λ r. HasGathered c.new-gather.result None [] → HasGathered c.read_through.new.sink (Some r.head) r.body))) c.standard.ensures e.response) in
    let r = told.2.0 in
    let parts = c.response_of.ensures r.head r.body (told.2.3 c.new-gather.ensures) in
    let is = subst (λ (p : ResponseParts). IsResponse standard told.0 p told.2.1) (sym parts) told.2.2 in
    record {
      response = (told.0, told.1, (told.2.1, is));
      given = (told.0, (told.2.1, is));
      reusable = subst (λ (o : Option (List ℕ)). Reusable standard o (g.W.Wire.incoming c.read_through.new.wire) reusable) same
          (subst (λ (limits : Limited). Reusable limits ahead (g.W.Wire.incoming c.read_through.new.wire) reusable) c.standard.ensures e.reusable);
      fault = tt;
      device = λ is. absurd (ok_is_no_fault is);
      interrupted = λ is. absurd (ok_is_no_fault is);
      few = λ ne. few_of_counts {T = Bool} (Ok reusable) before old new e.counts none (none_interrupted _ c.in_ok-incoming.ensures.uninterrupted) ok_is_no_fault;
      unerring = λ steady is. ok_is_no_fault is;
      lost = λ ne. e.counts.lost;
      written = e.counts.kept;
    }
