-- The rules go after the others, and the chain's note, and its origin after those that were lost, if it is one.
use Rattle.std.proofs.Common.{◌≡◌, ◌++◌, ◌∷◌, ◌∙◌, [], refl, sym, ap}
use Rattle.std.specs.Map.{lookup}
use Rattle.std.specs.Str.{bytes_eq}
use Rattle.std.proofs.lemmas.Result.{on_ok_weaker}
use Rattle.indexmap.proofs.CallerLemmas.{insert_entry-new}
use Rattle.site_records.specs.declared.reading.RecordReading.{RecordReading}
use Rattle.site_records.proofs.NoteLaws.{keeps_chain}
use Rattle.site_records.proofs.reading.RecordReading.keep_chain.Goals as goal

pub returns : goal.returns
returns c =
    let was = c.args.self.now.rules in
    let moved = c.lose.ensures.kept in
    let kept = c.note.ensures.kept in
    let same : c.lose.new.self.rules ≡ was = ap (λ (r : RecordReading). r.rules) moved in
    let put = insert_entry-new bytes_eq c.lose.new.self.rules c.args.origin c.in_ok-rules.rules (rw same c.requires.vacant) in
    on_ok_weaker c.note.result
    (λ items. keeps_chain c.args.self.now c.note.new.self c.args.hops (ap (λ k. lookup (bytes_eq k) was.entries) c.requires.of ∙ c.requires.vacant)
    (ap (λ (r : RecordReading). r.rules.entries) kept ∙ rw c.new.ensures at c.in_ok-insert.ensures.entries ∙ put ∙ (λ i. (same i).entries ++ (sym c.requires.of i, c.in_ok-rules.ensures i) ∷ []))
    (ap (λ (r : RecordReading). r.lost.keys) kept ∙ c.in_ok-lose.ensures.lost)
    (ap (λ (r : RecordReading). r.answers.entries) kept ∙ ap (λ (r : RecordReading). r.answers.entries) moved)
    (ap (λ (r : RecordReading). r.links) kept ∙ ap (λ (r : RecordReading). r.links) moved)
    (ap (λ (r : RecordReading). r.version) kept ∙ ap (λ (r : RecordReading). r.version) moved)
    (ap (λ (r : RecordReading). r.keeps_notes) kept ∙ ap (λ (r : RecordReading). r.keeps_notes) moved)
    (items ∙ rw moved refl))
    c.note.ensures.notes
