-- A line's statement in the code, as `Lines` sees it.
use Rattle.site_maps.specs.declared.map_line.MapLine.{MapLine}
use Rattle.site_maps.specs.declared.map_line.MapLine.TheVariants as line
use Rattle.site_maps.specs.Lines.{Statement, skipped, page, edge, moved, leaf, fault, robots, closed, rule}

-- what the code's statement says
abbrev pub said : MapLine → Statement
said line.Skipped = skipped
said (line.Page status text) = page status text.now
said (line.Edge kind text) = edge kind text.now
said (line.Moved status text target) = moved status text.now target.now
said (line.Leaf status text) = leaf status text.now
said (line.Fault kind text) = fault kind text.now
said (line.Robots text) = robots text.now
said (line.Closed text) = closed text.now
said (line.Rule kind rest) = rule kind rest.now
