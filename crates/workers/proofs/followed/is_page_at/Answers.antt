-- What is at the place is the only note of its name.
use Rattle.std.proofs.Common.{◌≡◌, ◌<◌, ◌∙◌, true, length, sym, ap, arith, rules}
use Rattle.std.specs.Str.{bytes_eq}
use Rattle.std.proofs.lemmas.List.{get_or_default}
use Rattle.frontier_core.proofs.TableLaws.{same_text}
use Rattle.workers.specs.declared.note.PageNote.{PageNote}
use Rattle.workers.proofs.FollowedLaws.{by_place}
use Rattle.workers.proofs.followed.is_page_at.Goals as goal

pub returns : goal.returns
returns g c so once =
    let key : PageNote g.row.B.Denot → _ = λ note. note.address in
    let worker : PageNote g.row.B.Denot → _ = λ note. note.worker in
    let notes = c.args.notes.now in
    let first = c.index-notes-place in
    let second = c.index-notes-place-2 in
    let within : c.args.place < length notes = omega arith in
    let by : first.result.worker ≡ c.args.worker = search rules in
    let alike : bytes_eq second.result.address c.args.address.now ≡ true = search rules in
    by_place key worker notes c.args.address.now c.args.place c.args.worker once within
    (λ d. sym (ap key (second.is ∙ get_or_default notes c.args.place second.result d within)) ∙ same_text _ _ alike)
    (λ d. sym (ap worker (first.is ∙ get_or_default notes c.args.place first.result d within)) ∙ by)
