use Rattle.std.proofs.Common.{◌≡◌, ◌<◌, ◌≤◌, ◌+◌, ℕ, List, [], ◌∷◌, drop, length, Some, sym, ap, subst, ◌∙◌, inl, inr, arith}
use Rattle.std.proofs.lemmas.List.{drop_more}
use Rattle.frontier_core.specs.Tables.{Text, lookup}
use Rattle.frontier_core.specs.Machine.{State, Slot, Waiting, slot, with_entry, with_starts}
use Rattle.frontier_core.proofs.StartLaws.{held_start, put_one}
use Rattle.frontier_core.proofs.board.Board.hold_others.Goals as goal

pub loop-start-preserved : goal.loop-start-preserved
loop-start-preserved c =
    let i : ℕ = c.loop-start.start-index in
    let s : State = c.loop-start.self in
    let xs : List Text = c.args.others.now in
    let x : Text = c.start-item.result in
    let t : State = c.hold_start.new.self in
    let inv = c.loop-start.invariant in
    let below : i < length xs = c.loop-start-test.true in
    let here : drop i xs ≡ x ∷ drop (i + 1) xs = drop_more xs i x below ∙ ap (λ z. z ∷ drop (i + 1) xs) (sym c.start-item.is) in
    let new : t ≡ with_entry s x (slot 0 Waiting) = c.in_ok-hold_start.ensures in
    let one = put_one s.entries x (slot 0 Waiting) in
    let long : length t.entries ≡ length (with_entry s x (slot 0 Waiting)).entries = ap (λ (z : State). length z.entries) new in
    let few = inv.few in
    record {
      rest = ap (λ (z : State). with_starts z.entries (drop (i + 1) xs)) new ∙ ap (λ z. with_starts s.entries z) (sym here) ∙ inv.rest;
      origins = ap (λ (z : State). z.origins) new ∙ inv.origins;
      cause = ap (λ (z : State). z.cause) new ∙ inv.cause;
      waits = λ u e held. elim (held_start s.entries (x ∷ []) u e (ap (λ (z : State). lookup z.entries u) (sym new) ∙ held)) [
        | inl (among, is) ↦ is
        | inr was ↦ inv.waits u e was
      ];
      few = omega (arith, one, long, few);
    }
