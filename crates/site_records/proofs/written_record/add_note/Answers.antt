-- The note is added if none before it repeats it.
use Rattle.std.proofs.Common.{refl}
use Rattle.site_records.proofs.DraftLaws.{draft_grows}
use Rattle.site_records.proofs.written_record.add_note.Goals as goal

pub returns-in_ok-push_note : goal.returns-in_ok-push_note
returns-in_ok-push_note c = λ notes draft.
    let (named, is) = c.in_ok-add.ensures notes draft.named_are in
    let yes = c.if-branch.true in
    draft_grows c.in_ok-add.field-0 c.args.text.now c.push_note.new.pieces c.args.named.now c.add.new.self notes c.args.note.now draft named is
    (λ _. (c.in_ok-push_note.ensures.text, c.in_ok-push_note.ensures.note)) (λ no. absurd cc)

pub returns-else-branch : goal.returns-else-branch
returns-else-branch c = λ notes draft.
    let (named, is) = c.in_ok-add.ensures notes draft.named_are in
    let no = c.if-branch.false in
    draft_grows c.in_ok-add.field-0 c.args.text.now c.args.text.now c.args.named.now c.add.new.self notes c.args.note.now draft named is (λ yes. absurd cc) (λ _. refl)
