use Rattle.std.proofs.Common.{◌<◌, ◌+◌, ◌-◌, length, IsTrue}
use Rattle.streams.specs.declared.interruption.TheConstants.{MAX_INTERRUPTED}
use Rattle.response_reader.specs.inner.Wire.{tally, GoesOn}
use Rattle.response_reader.proofs.RequestLemmas.{Sent}
use Rattle.requests.proofs.request.write_all.Given as goal

abbrev pub invariant-writes : goal.invariant-writes
invariant-writes g l = record {
  sent : Sent (g.W.Wire.outgoing l.fn.wire) (g.W.Wire.outgoing l.wire) l.bytes l.rest;
  few : l.count < MAX_INTERRUPTED;
  counts : GoesOn
      (tally (g.W.Wire.failed l.fn.wire) (g.W.Wire.writes_never_fail l.fn.wire) (g.W.Wire.never_errs l.fn.wire) (g.W.Wire.incoming l.fn.wire) (g.W.Wire.lost l.fn.wire) l.interrupted)
      (tally (g.W.Wire.failed l.wire) (g.W.Wire.writes_never_fail l.wire) (g.W.Wire.never_errs l.wire) (g.W.Wire.incoming l.wire) (g.W.Wire.lost l.wire) l.count);
}

abbrev pub decreases-writes : goal.decreases-writes
decreases-writes g l = length l.rest + (MAX_INTERRUPTED - l.count)
