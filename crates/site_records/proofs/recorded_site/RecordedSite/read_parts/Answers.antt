-- The loop keeps the entries so far, and ends at the first bad one or after the last.
use Rattle.std.proofs.Common.{◌≡◌, ◌++◌, ◌∙◌, refl, sym, ap, subst, inl, inr, arith, rules}
use Rattle.std.proofs.lemmas.Result.{err_from_is_err_and}
use Rattle.site_records.specs.RecordSites.{RecordValue}
use Rattle.site_records.specs.RecordNotes.{HasNotes}
use Rattle.site_records.specs.Records.{version_line}
use Rattle.site_records.specs.Received.{taken_of}
use Rattle.site_records.proofs.ReceivedLaws.{answers_taken, rules_taken, notes_taken}
use Rattle.site_records.proofs.ReadLaws.{starts, goes_on, first_bad, line_within, all_read, not_empty, is_empty}
use Rattle.site_records.proofs.recorded_site.RecordedSite.read_parts.Goals as goal

pub entries-init : goal.entries-init
entries-init c =
    let h = c.in-Some.ensures in
    let a = c.in-Some.version-is in
    let b = c.in-Some.rest-is in
    let is : c.args.bytes.now ≡ version_line c.in-Some.version ++ c.in-Some.rest.now = first_of (assumption h, search (rules, h), grind (arith, h, a, b)) in
    record {
      read = starts c.args.links c.args.bytes.now c.new-reading.result c.in-Some.rest.now
          (subst (λ v. c.args.bytes.now ≡ version_line v ++ c.in-Some.rest.now) (sym c.new-reading.ensures.version) is)
          c.new-reading.ensures.answers c.new-reading.ensures.rules c.new-reading.ensures.lost c.new-reading.ensures.links c.new-reading.ensures.notes;
      keeps = c.new-reading.ensures.keeps_notes;
    }

pub entries-preserved : goal.entries-preserved
entries-preserved c = record {
  read = goes_on _ _ _ _ _ _ _ _ c.entries.invariant.read c.in-Ok.ensures.read c.in-Ok.ensures.shorter;
  keeps = c.in-Ok.ensures.read.keeps.keeps_notes ∙ c.entries.invariant.keeps;
}

pub overflow_add-number : goal.overflow_add-number
overflow_add-number c = omega (arith, c.entries.invariant.read.within, c.in-Ok.ensures.shorter)

pub overflow_add-line : goal.overflow_add-line
overflow_add-line c =
    let fits = line_within _ _ _ _ _ _ c.entries.invariant.read c.in-Err.ensures.shorter in
    omega (arith, fits)

pub at-requires : goal.at-requires
at-requires c =
    let fits = line_within _ _ _ _ _ _ c.entries.invariant.read c.in-Err.ensures.shorter in
    omega (arith, fits)

pub returns-in_default-clause-fault : goal.returns-in_default-clause-fault
returns-in_default-clause-fault c = inl (refl, c.in_default.ensures)

pub returns-in-Err-clause-fault : goal.returns-in-Err-clause-fault
returns-in-Err-clause-fault c = rw c.at.ensures (first_bad _ _ _ _ _ c.in-Err.fault c.entries.invariant.read (not_empty c.entries.rest.now (sym c.is_empty.ensures ∙ c.entries-test.true)) c.in-Err.ensures.read)

pub returns-in_err-of-clause-fault : goal.returns-in_err-of-clause-fault
returns-in_err-of-clause-fault c =
    let p = err_from_is_err_and c.from_residual.result c.from_residual.ensures.1 in
    rw (p.1, p.2) (inr (c.entries.invariant.read.above, all_read _ _ _ _ _ c.entries.invariant.read (is_empty c.entries.rest.now (sym c.is_empty.ensures ∙ c.entries-test.false))))

pub returns-clause-record : goal.returns-clause-record
returns-clause-record c =
    let read = c.entries.invariant.read in
    let above = read.above in
    let failed = c.args.parts.failed in
    let answers = answers_taken failed above c.entries.reading.answers.entries c.leave.new.self.answers.entries read.answers c.leave.ensures.answers in
    let rules = rules_taken failed c.entries.reading.version c.args.links read.text above c.entries.rest.now c.entries.reading.lost.keys c.entries.reading.rules.entries c.leave.new.self.rules.entries
    read.front read.lost read.rules c.leave.ensures.rules in
    let is = c.in_ok-of.ensures in
    let notes = ap (λ (m : RecordValue). m.notes) is in
    let all = subst (λ b. HasNotes b c.args.links c.entries.reading.notes.items above) c.entries.invariant.keeps read.noted in
    let kept = notes_taken failed c.args.parts.notes c.args.links above c.entries.reading.notes.items c.leave.new.self.notes.items all c.leave.ensures.notes in (
      above,
      all_read _ _ _ _ _ c.entries.invariant.read (is_empty c.entries.rest.now (sym c.is_empty.ensures ∙ c.entries-test.false)),
      cc,
      subst (λ l. HasNotes c.args.parts.notes c.args.links l (taken_of failed above)) (sym notes) kept,
    )
