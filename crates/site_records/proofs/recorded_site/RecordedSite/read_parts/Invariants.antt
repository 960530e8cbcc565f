-- The entries so far are kept, and each makes the rest shorter.
use Rattle.std.proofs.Common.{◌≡◌, length}
use Rattle.site_records.proofs.ReadLaws.{IsReadTo}
use Rattle.site_records.proofs.recorded_site.RecordedSite.read_parts.Given as goal

abbrev pub invariant-entries : goal.invariant-entries
invariant-entries l = record {
  read : IsReadTo l.fn.links l.bytes l.reading l.number l.rest;
  keeps : l.reading.keeps_notes ≡ l.parts.notes;
}

abbrev pub decreases-entries : goal.decreases-entries
decreases-entries l = length l.rest
