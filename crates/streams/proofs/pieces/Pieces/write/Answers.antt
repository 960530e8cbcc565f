-- A front of a piece, after the pieces before it, is a front of the text.
use Rattle.std.proofs.Common.{◌≡◌, ◌∙◌, ℕ, ◌+◌, ◌<◌, List, ◌∷◌, ◌++◌, Option, flat_map, length, get_or, take, drop, sym, ap, subst, append_assoc, arith}
use Rattle.std.specs.Io.KnownBytes.{Appends}
use Rattle.std.proofs.KnownBytes.{Appends-trans}
use Rattle.std.proofs.lemmas.List.{take-append-drop, drop_more}
use Rattle.std.proofs.lemmas.List.Concat.{flat_map-append}
use Rattle.std.proofs.lemmas.Result.{err_from_is_err_and}
use Rattle.streams.specs.Streams.{AppendsFront, piece_text}
use Rattle.streams.specs.declared.pieces.Piece.{Piece}
use Rattle.streams.proofs.pieces.Pieces.write.Goals as goal

split_at : (pieces : List Piece) (i : ℕ) (piece : Piece) → i < length pieces → piece ≡ get_or pieces i piece
    → flat_map piece_text pieces ≡ flat_map piece_text (take i pieces) ++ (piece_text piece ++ flat_map piece_text (drop (i + 1) pieces))
split_at pieces i piece below is =
    ap (flat_map piece_text) (sym (take-append-drop i pieces))
    ∙ flat_map-append piece_text (take i pieces) (drop i pieces)
    ∙ ap (λ l. flat_map piece_text (take i pieces) ++ flat_map piece_text l) (drop_more pieces i piece below ∙ ap (λ p. p ∷ drop (i + 1) pieces) (sym is))

front_of : (old mid new : Option (List ℕ)) (pieces : List Piece) (i : ℕ) (piece : Piece) → i < length pieces → piece ≡ get_or pieces i piece
    → Appends old mid (flat_map piece_text (take i pieces)) → AppendsFront mid new (piece_text piece) → AppendsFront old new (flat_map piece_text pieces)
front_of old mid new pieces i piece below is before e =
    let done = flat_map piece_text (take i pieces) in
    let left = flat_map piece_text (drop (i + 1) pieces) in
    record {
      front = done ++ e.front;
      rest = e.rest ++ left;
      parts = split_at pieces i piece below is ∙ ap (λ l. done ++ (l ++ left)) e.parts ∙ ap (λ l. done ++ l) (append_assoc e.front e.rest left)
          ∙ sym (append_assoc done e.front (e.rest ++ left));
      appended = Appends-trans old mid new done e.front before e.appended;
    }

pub returns-in_err-interrupted-clause-err : goal.returns-in_err-interrupted-clause-err
returns-in_err-interrupted-clause-err g c =
    let p = err_from_is_err_and c.from_residual.result c.from_residual.ensures.1 in
    let pieces = c.deref-piece-items.result.now in
    let old = g.W.Write.contents c.args.writer.now in
    let mid = g.W.Write.contents c.loop-piece.writer in
    let new = g.W.Write.contents c.write_part.new.writer in
    let e : AppendsFront mid new (piece_text c.piece-item.result) = subst (AppendsFront mid new) c.as_slice.ensures c.in_err-interrupted.ensures.err in
    let whole : AppendsFront old new (flat_map piece_text pieces) =
    front_of old mid new pieces c.loop-piece.piece-index c.piece-item.result (omega arith) c.piece-item.is c.loop-piece.invariant.appended e in
    rw p.1 (subst (AppendsFront old new) (ap (flat_map piece_text) c.deref-piece-items.ensures.value ∙ c.self.view_is) whole)
