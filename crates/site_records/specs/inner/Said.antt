-- A line's statement in the code, as `EntryLines` sees it.
use Rattle.site_records.specs.declared.entry_line.EntryLine.{EntryLine}
use Rattle.site_records.specs.declared.entry_line.EntryLine.TheVariants as line
use Rattle.site_records.specs.declared.hop_line.HopLine.{HopLine}
use Rattle.site_records.specs.declared.hop_line.HopLine.TheVariants as hop_line
use Rattle.site_records.specs.EntryLines.{Statement, page, fault, file, free, closed, chain, HopStatement, hop, hopfault}

-- what the code's statement says
abbrev pub said : EntryLine → Statement
said (line.Page text n) = page text.now n
said (line.Fault kind text) = fault kind text.now
said (line.Robots text n) = file text.now n
said (line.Free text) = free text.now
said (line.Closed text) = closed text.now
said (line.Chain text n) = chain text.now n

-- what the code's statement of a hop says
abbrev pub said_hop : HopLine → HopStatement
said_hop (hop_line.Whole text n) = hop text.now n
said_hop (hop_line.Failed kind text) = hopfault kind text.now
