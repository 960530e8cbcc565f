-- A text without a first line that is UTF-8 begins with no hop.
use Rattle.std.proofs.Common.{inl}
use Rattle.site_records.proofs.ChainLaws.{no_hop_line}
use Rattle.site_records.proofs.hop_row.read_hop.Goals as goal

pub returns-in_default : goal.returns-in_default
returns-in_default c = inl (no_hop_line c.args.text.now c.in_default.ensures)
