-- What one write takes goes from the front of the rest to the end of what was written.
use Rattle.std.proofs.Common.{◌≡◌, ℕ, ◌-◌, List, ◌++◌, length, take, drop, sym, ap, ◌∙◌, append_assoc, take-append-drop}
use Rattle.std.proofs.lemmas.List.{take_rest}
use Rattle.std.proofs.KnownBytes.{Appends-trans}
use Rattle.streams.proofs.output.write_part.Goals as goal

moves_front : (all done rest : List ℕ) (n : ℕ) → all ≡ done ++ rest → all ≡ (done ++ take n rest) ++ take (length rest - n) (drop n rest)
moves_front all done rest n e =
    e ∙ ap (λ l. done ++ l) (sym (take-append-drop n rest)) ∙ sym (append_assoc done (take n rest) (drop n rest)) ∙ ap (λ l. (done ++ take n rest) ++ l) (sym (take_rest rest n))

pub pieces-preserved-in-Ok : goal.pieces-preserved-in-Ok
pieces-preserved-in-Ok g c = record {
  few = c.pieces.invariant.few;
  counted = c.pieces.invariant.counted;
  done = c.pieces.invariant.done ++ take c.in-Ok.n c.pieces.rest.now;
  split = moves_front _ c.pieces.invariant.done c.pieces.rest.now c.in-Ok.n c.pieces.invariant.split;
  appended = Appends-trans _ _ _ _ _ c.pieces.invariant.appended c.in-Ok.ensures.bytes;
}
