-- The pieces so far were appended.
use Rattle.std.proofs.Common.{◌<◌, flat_map, take}
use Rattle.std.specs.Io.KnownBytes.{Appends}
use Rattle.streams.specs.Streams.{piece_text}
use Rattle.streams.specs.declared.interruption.TheConstants.{MAX_INTERRUPTED}
use Rattle.streams.proofs.pieces.Pieces.write.Given as goal

abbrev pub invariant-loop-piece : goal.invariant-loop-piece
invariant-loop-piece g l = record {
  few : l.interrupted < MAX_INTERRUPTED;
  appended : Appends (g.W.Write.contents l.initial.writer) (g.W.Write.contents l.writer) (flat_map piece_text (take l.piece-index l.piece-items));
}
