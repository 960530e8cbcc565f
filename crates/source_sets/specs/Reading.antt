-- What the code's parts represent.
use Rattle.source_sets.specs.Sets.{Front}
use Rattle.source_sets.specs.Rewriting.{Rewrite}
use Rattle.source_sets.specs.declared.machine.SetMachine.{SetMachine}
use Rattle.source_sets.specs.declared.rewriter.SetRewriter.{SetRewriter}

-- how far a machine has come
abbrev pub front_of : SetMachine → Front
front_of m = record { place = m.place; raw = m.raw.items; commas = m.commas.items; found = m.found.items }

-- how far a rewriter has come
abbrev pub rewrite_of : SetRewriter → Rewrite
rewrite_of r = record { front = front_of r.machine; out = r.out.items }
