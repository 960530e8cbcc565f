use Rattle.std.proofs.Common.{sym, ◌∙◌}
use Rattle.frontier_core.proofs.HoldLaws.{length-entries}
use Rattle.frontier_core.proofs.table.AddressTable.len.Goals as goal

pub returns-clause-value : goal.returns-clause-value
returns-clause-value c = rw (← c.self.view_is) (c.len.ensures ∙ sym (length-entries c.self.inside.labels.depths c.self.inside.progresses.items c.self.invariant.0))
