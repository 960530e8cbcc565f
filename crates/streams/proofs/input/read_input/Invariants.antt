-- What was read so far is the front of what the reader had; each turn reads a byte or counts an interruption.
use Rattle.std.proofs.Common.{◌<◌, ◌≤◌, length, ◌+◌, ◌-◌}
use Rattle.std.specs.Io.KnownBytes.{Consumes}
use Rattle.streams.specs.declared.interruption.TheConstants.{MAX_INTERRUPTED}
use Rattle.streams.proofs.input.read_input.Given as goal

abbrev pub invariant-pieces : goal.invariant-pieces
invariant-pieces g l = record {
  few : l.interrupted < MAX_INTERRUPTED;
  within : length l.input.items ≤ l.limit;
  read : Consumes (g.R.Read.remaining l.initial.reader) (g.R.Read.remaining l.reader) l.input.items;
}

abbrev pub decreases-pieces : goal.decreases-pieces
decreases-pieces g l = (l.limit - length l.input.items) + (MAX_INTERRUPTED - l.interrupted)
