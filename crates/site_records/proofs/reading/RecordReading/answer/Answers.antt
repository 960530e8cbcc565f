-- The answer goes after the others.
use Rattle.std.proofs.Common.{◌++◌, ◌∷◌, ◌∙◌, [], ap}
use Rattle.std.specs.Map.{lookup}
use Rattle.std.specs.Str.{bytes_eq}
use Rattle.indexmap.proofs.CallerLemmas.{insert_entry-new}
use Rattle.site_records.proofs.NoteLaws.{answer_is}
use Rattle.site_records.proofs.reading.RecordReading.answer.Goals as goal

pub returns-clause-answers : goal.returns-clause-answers
returns-clause-answers c =
    let was = c.args.self.now.answers in
    let same = c.in_ok-try_clone.ensures in
    let is = answer_is c.args.self.now.links c.args.at.now c.args.received.now c.in_ok-answer.answer c.in_ok-answer.ensures.outcome c.in_ok-answer.ensures.body in
    c.in_ok-insert.ensures.entries
    ∙ insert_entry-new bytes_eq was c.in_ok-try_clone.field-0 c.in_ok-answer.answer (ap (λ k. lookup (bytes_eq k) was.entries) same ∙ c.requires)
    ∙ (λ i. was.entries ++ (same i, is i) ∷ [])
