use Rattle.std.proofs.Common.{ap, sym, ◌∙◌}
use Rattle.std.specs.Prelude.{position}
use Rattle.std.specs.Str.{bytes_eq}
use Rattle.frontier_core.proofs.HoldLaws.{keys-entries}
use Rattle.frontier_core.proofs.table.AddressTable.find.Goals as goal

pub returns-in-Some : goal.returns-in-Some
returns-in-Some c = rw (← c.self.view_is) (sym c.in-Some.is ∙ c.find.ensures ∙ ap (λ z. position (bytes_eq c.args.address.now) z) (sym (keys-entries c.self.inside.labels.depths c.self.inside.progresses.items c.self.invariant.0)))

pub returns-in-None : goal.returns-in-None
returns-in-None c = rw (← c.self.view_is) (sym c.in-None.is ∙ c.find.ensures ∙ ap (λ z. position (bytes_eq c.args.address.now) z) (sym (keys-entries c.self.inside.labels.depths c.self.inside.progresses.items c.self.invariant.0)))
