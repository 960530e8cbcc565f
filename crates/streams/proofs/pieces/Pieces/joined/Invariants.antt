-- The pieces so far are joined.
use Rattle.std.proofs.Common.{◌≡◌, flat_map, take}
use Rattle.streams.specs.Streams.{piece_text}
use Rattle.streams.proofs.pieces.Pieces.joined.Given as goal

abbrev pub invariant-loop-piece : goal.invariant-loop-piece
invariant-loop-piece l = l.text.items ≡ flat_map piece_text (take l.piece-index l.piece-items)
