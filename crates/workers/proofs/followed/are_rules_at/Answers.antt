-- What is at the place is the only note of its name.
use Rattle.std.proofs.Common.{◌≡◌, ◌<◌, ◌∙◌, true, length, sym, ap, arith, rules}
use Rattle.std.specs.Str.{bytes_eq}
use Rattle.std.proofs.lemmas.List.{get_or_default}
use Rattle.frontier_core.proofs.TableLaws.{same_text}
use Rattle.workers.specs.declared.note.RulesNote.{RulesNote}
use Rattle.workers.proofs.FollowedLaws.{by_place}
use Rattle.workers.proofs.followed.are_rules_at.Goals as goal

pub returns : goal.returns
returns c so once =
    let key : RulesNote → _ = λ note. note.origin in
    let worker : RulesNote → _ = λ note. note.worker in
    let notes = c.args.notes.now in
    let first = c.index-notes-place in
    let second = c.index-notes-place-2 in
    let within : c.args.place < length notes = omega arith in
    let by : first.result.worker ≡ c.args.worker = search rules in
    let alike : bytes_eq second.result.origin c.args.origin.now ≡ true = search rules in
    by_place key worker notes c.args.origin.now c.args.place c.args.worker once within
    (λ d. sym (ap key (second.is ∙ get_or_default notes c.args.place second.result d within)) ∙ same_text _ _ alike)
    (λ d. sym (ap worker (first.is ∙ get_or_default notes c.args.place first.result d within)) ∙ by)
