use Rattle.site_records.proofs.ResumptionLaws.{resumed_is_steady}
use Rattle.site_records.proofs.resumed.Resumed.new.Goals as goal

-- src/resumed.rt:36:5
pub returns-clause-steady : goal.returns-clause-steady
returns-clause-steady g c answers steady are = resumed_is_steady _ _ _ answers steady are
