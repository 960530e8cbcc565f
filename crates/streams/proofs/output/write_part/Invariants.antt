-- What is gone from the rest was appended; each turn writes a byte or counts an interruption.
use Rattle.std.proofs.Common.{◌≡◌, ◌<◌, ◌≤◌, List, ℕ, ◌++◌, length, ◌+◌, ◌-◌}
use Rattle.std.specs.Io.KnownBytes.{Appends}
use Rattle.streams.specs.declared.interruption.TheConstants.{MAX_INTERRUPTED}
use Rattle.streams.proofs.output.write_part.Given as goal

abbrev pub invariant-pieces : goal.invariant-pieces
invariant-pieces g l = record {
  few : l.interrupted < MAX_INTERRUPTED;
  counted : l.initial.interrupted ≤ l.interrupted;
  done : List ℕ;
  split : l.part ≡ done ++ l.rest;
  appended : Appends (g.W.Write.contents l.initial.writer) (g.W.Write.contents l.writer) done;
}

abbrev pub decreases-pieces : goal.decreases-pieces
decreases-pieces g l = length l.rest + (MAX_INTERRUPTED - l.interrupted)
