-- The fates of a report, without where their outcomes lie in memory.
use Rattle.report.specs.Report.{Fate as SaidFate, Asked, Refused}
use Rattle.report.specs.declared.rows.Fate.{Fate}
use Rattle.report.specs.declared.rows.Fate.TheVariants as fate

-- what became of an address
abbrev pub fate_of : Fate → SaidFate
fate_of (fate.Asked outcome) = Asked outcome.now
fate_of fate.Refused = Refused
