-- A body in memory may be just itself.
use Rattle.std.proofs.Common.{◌≡◌, ◌∙◌, ℕ, List, Option, Some, None, true, false, inr, ap, subst}
use Rattle.std.specs.Prelude.{MatchOption}
use Rattle.kept_bodies.specs.Bodies.{BodyValue}
use Rattle.kept_bodies.specs.declared.body_kind.BodyKind.{BodyKind}
use Rattle.local_tree.proofs.ChangeLaws.{put_answered}
use Rattle.local_tree.proofs.shelf.AnyShelfBody.put_changed_kept.Goals as goal

-- the body of which a change was asked is the kept one
same_body : (kept : BodyValue) (kind : BodyKind) (bytes : List ℕ) → kind ≡ kept.kind → bytes ≡ kept.bytes → record { kind = kind; bytes = bytes } ≡ kept
same_body kept kind bytes is are =
    ap (λ (k : BodyKind). record { kind = k; bytes = bytes }) is ∙ ap (λ (bs : List ℕ). record { kind = kept.kind; bytes = bs }) are

-- what is said of no other body
of_none : {T : Type 0} (o : Option T) (A : Type 0) (B : T → Type 0) → o ≡ None → MatchOption o A B → A
of_none None A B is held = held
of_none (Some t) A B is held = cc

pub returns-in-Ok-None-clause-put : goal.returns-in-Ok-None-clause-put
returns-in-Ok-None-clause-put g c =
    let becomes = g.C.BodyChange.becomes c.args.change.now in
    let bytes = c.as_slice-body.result.now in
    put_answered becomes true c.args.place c.args.kept.now bytes c.args.name.now (g.D.Folder.files c.args.self.now) (g.D.Folder.files c.put_as-in-Ok-None.new.folder) c.put_as-in-Ok-None.result
    (subst (λ (b : BodyValue). becomes c.args.place b bytes) (same_body c.args.kept.now c.kind.result bytes c.kind.ensures c.as_slice-body.ensures)
    (of_none c.in-Ok-None.field-0 _ _ c.in-Ok-None.field-0-is c.in-Ok-None.ensures))
    c.put_as-in-Ok-None.ensures.put

pub returns-in-Err-clause-put : goal.returns-in-Err-clause-put
returns-in-Err-clause-put g c =
    put_answered (g.C.BodyChange.becomes c.args.change.now) false c.args.place c.args.kept.now c.as_slice-body.result.now c.args.name.now (g.D.Folder.files c.args.self.now)
    (g.D.Folder.files c.put_as-in-Err.new.folder) c.put_as-in-Err.result (inr c.as_slice-body.ensures) c.put_as-in-Err.ensures.put
