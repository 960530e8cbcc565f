-- The loop keeps the entries so far, and ends at the first bad one, or within the one in which the bytes end.
use Rattle.std.proofs.Common.{◌≡◌, ◌++◌, ◌∙◌, [], sym, subst, inl, inr, arith, rules}
use Rattle.std.proofs.lemmas.Result.{err_from_is_err_and}
use Rattle.site_records.specs.Records.{version_line}
use Rattle.site_records.specs.RecordNotes.{HasNotes}
use Rattle.site_records.specs.Fronts.{IsTornEntry}
use Rattle.site_records.proofs.ReadLaws.{starts, goes_on}
use Rattle.site_records.proofs.FrontLaws.{first_bad_whole, front_read, not_so}
use Rattle.site_records.proofs.front.read_front.Goals as goal

pub entries-init : goal.entries-init
entries-init c =
    let h = c.in-Some.ensures in
    let a = c.in-Some.version-is in
    let b = c.in-Some.rest-is in
    let is : c.args.bytes.now ≡ version_line c.in-Some.version ++ c.in-Some.rest.now = first_of (assumption h, search (rules, h), grind (arith, h, a, b)) in
    record {
      read = starts c.args.links c.args.bytes.now c.new-reading.result c.in-Some.rest.now
          (subst (λ v. c.args.bytes.now ≡ version_line v ++ c.in-Some.rest.now) (sym c.new-reading.ensures.version) is)
          c.new-reading.ensures.answers c.new-reading.ensures.rules c.new-reading.ensures.lost c.new-reading.ensures.links c.new-reading.ensures.notes;
      keeps = c.new-reading.ensures.keeps_notes;
    }

pub entries-preserved : goal.entries-preserved
entries-preserved c = record {
  read = goes_on _ _ _ _ _ _ _ _ c.entries.invariant.read c.in-Ok.ensures.read c.in-Ok.ensures.shorter;
  keeps = c.in-Ok.ensures.read.keeps.keeps_notes ∙ c.entries.invariant.keeps;
}

pub returns-in-Err-clause-fault : goal.returns-in-Err-clause-fault
returns-in-Err-clause-fault c =
    rw c.at.ensures (first_bad_whole _ _ _ _ _ c.in-Err.fault c.entries.invariant.read
    (not_so c.is_torn.result (IsTornEntry c.entries.reading.version c.entries.rest.now) (λ torn. c.is_torn.ensures.1 torn) c.entries-test.true) c.in-Err.ensures.read)

pub returns-in_err-site-clause-fault : goal.returns-in_err-site-clause-fault
returns-in_err-site-clause-fault c =
    let p = err_from_is_err_and c.from_residual.result c.from_residual.ensures.1 in
    let s = c.entries.invariant.read in
    rw (p.1, p.2) (inr (inl (s.above, c.entries.rest.now, front_read _ _ _ _ _ s (c.is_torn.ensures.0 c.entries-test.false))))

pub returns-clause-front : goal.returns-clause-front
returns-clause-front c =
    let s = c.entries.invariant.read in
    let within = s.within in
    let none : c.entries.reading.notes.items ≡ [] = subst (λ b. HasNotes b c.args.links c.entries.reading.notes.items s.above) c.entries.invariant.keeps s.noted in
    let answers = s.answers in
    let rules = s.rules in
    let is = c.in_ok-site.ensures in
    inl (s.above, c.entries.rest.now, front_read _ _ _ _ _ s (c.is_torn.ensures.0 c.entries-test.false), omega (arith, within), cc)
