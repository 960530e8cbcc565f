-- What is left has the row that the whole has.
use Rattle.std.proofs.Common.{◌≡◌, length, true}
use Rattle.html_links.specs.References.{value_in}
use Rattle.html_links.proofs.character_names.value_in.Given as goal

abbrev pub invariant-loop-first : goal.invariant-loop-first
invariant-loop-first l = value_in l.name l.begins l.rest ≡ value_in l.name true l.rows

abbrev pub decreases-loop-first : goal.decreases-loop-first
decreases-loop-first l = length l.rest
