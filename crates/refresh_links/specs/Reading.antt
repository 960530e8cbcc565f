-- What the code's parts represent.
use Rattle.std.specs.Prelude.{option_map, string_bytes}
use Rattle.refresh_links.specs.Refresh.{Front}
use Rattle.refresh_links.specs.Rewriting.{Rewrite}
use Rattle.refresh_links.specs.declared.machine.ContentMachine.{ContentMachine}
use Rattle.refresh_links.specs.declared.rewriter.ContentRewriter.{ContentRewriter}

-- how far a machine has come
abbrev pub front_of : ContentMachine → Front
front_of m = record { place = m.place; raw = m.raw.items; found = option_map string_bytes m.found }

-- how far a rewriter has come
abbrev pub rewrite_of : ContentRewriter → Rewrite
rewrite_of r = record { front = front_of r.machine; out = r.out.items }
