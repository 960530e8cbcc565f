use Rattle.response_reader.proofs.CountLemmas.{exit_is}
use Rattle.std.specs.Io.KnownBytes.{prepend_known}
use Rattle.response_reader.specs.inner.Wire.{tally}
use Rattle.response_reader.proofs.FillsLemmas.{end_of_fills}
use Rattle.response_reader.proofs.WireLemmas.{consumes_same, fills_ahead, goes_on_same}
use Rattle.response_reader.proofs.body.refill.Goals as goal

pub returns-in_err-fill : goal.returns-in_err-fill
returns-in_err-fill g c =
    rw (exit_is c.in_err-fill.field-0.0 c.from_residual.result c.from_residual.ensures.1) record { bytes = tt; end = tt; only = c.in_err-fill.ensures.device; counts = c.in_err-fill.ensures.counts }

pub returns : goal.returns
returns g c =
    let e = c.in_ok-fill.ensures in
    let first = c.args.incoming.now.unread in
    let new = c.fill.new.self.unread in
    record {
      bytes = fills_ahead first new (g.W.Wire.incoming c.args.wire.now) (g.W.Wire.incoming c.fill.new.wire) _ _ e.fills;
      end = end_of_fills first new (g.W.Wire.incoming c.args.wire.now) (g.W.Wire.incoming c.fill.new.wire) _ _ e.fills;
      only = tt;
      counts = e.counts;
    }

pub returns-then-not-is_empty-clause-bytes : goal.returns-then-not-is_empty-clause-bytes
returns-then-not-is_empty-clause-bytes g c = consumes_same (prepend_known c.args.incoming.now.unread (g.W.Wire.incoming c.args.wire.now))

pub returns-then-not-is_empty-clause-counts : goal.returns-then-not-is_empty-clause-counts
returns-then-not-is_empty-clause-counts g c = goes_on_same (tally (g.W.Wire.failed c.args.wire.now) (g.W.Wire.reads_never_fail c.args.wire.now) (g.W.Wire.never_errs c.args.wire.now) (g.W.Wire.outgoing c.args.wire.now) (g.W.Wire.lost c.args.wire.now) c.args.incoming.now.interrupted)
