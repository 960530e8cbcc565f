use Rattle.std.proofs.Common.{◌≡◌, ◌<◌, ◌^◌, [], ◌∷◌, ◌++◌, None, length, length-append, sym, ap, subst, ◌∙◌, arith}
use Rattle.frontier_core.specs.inner.Holdings.{entries_of}
use Rattle.frontier_core.specs.Machine.{slot}
use Rattle.frontier_core.specs.Tables.{lookup, put}
use Rattle.frontier_core.proofs.TableLaws.{put_absent}
use Rattle.frontier_core.proofs.HoldLaws.{length-entries, no_label, add_there}
use Rattle.frontier_core.proofs.table.AddressTable.add.Goals as goal

pub add-requires-clause-new : goal.add-requires-clause-new
add-requires-clause-new c = no_label c.self.inside.labels.depths c.self.inside.progresses.items c.args.address c.self.invariant.0 (rw (← c.self.view_is) at c.requires.new)

-- what it holds then
placed : (c : goal.After-push_reserved) → entries_of c.add.new.self.depths c.push_reserved.new.self.items ≡ put (entries_of c.self.inside.labels.depths c.self.inside.progresses.items) c.args.address (slot c.args.depth c.args.progress)
placed c =
    let none : lookup (entries_of c.self.inside.labels.depths c.self.inside.progresses.items) c.args.address ≡ None = rw (← c.self.view_is) at c.requires.new in
    ap (λ z. entries_of z c.push_reserved.new.self.items) c.add.ensures.depths
    ∙ ap (λ z. entries_of (c.self.inside.labels.depths ++ (c.args.address, c.args.depth) ∷ []) z) c.push_reserved.ensures.items
    ∙ add_there c.self.inside.labels.depths c.self.inside.progresses.items c.args.address c.args.depth c.args.progress c.self.invariant.0
    ∙ sym (put_absent (entries_of c.self.inside.labels.depths c.self.inside.progresses.items) c.args.address (slot c.args.depth c.args.progress) none)

pub returns-clause-entries : goal.returns-clause-entries
returns-clause-entries c = rw (← c.self.view_is) (placed c)

even : (c : goal.After-push_reserved) → length c.add.new.self.depths ≡ length c.push_reserved.new.self.items
even c =
    let labels = ap length c.add.ensures.depths ∙ length-append c.self.inside.labels.depths ((c.args.address, c.args.depth) ∷ []) in
    let progresses = ap length c.push_reserved.ensures.items ∙ length-append c.self.inside.progresses.items (c.args.progress ∷ []) in
    let before = c.self.invariant.0 in
    omega (arith, labels, progresses, before)

pub invariant_of-self : goal.invariant_of-self
invariant_of-self c = (even c, c.add.ensures.small)

pub returns-clause-small : goal.returns-clause-small
returns-clause-small c = subst (λ n. n < 2 ^ 32) (sym (length-entries c.add.new.self.depths c.push_reserved.new.self.items (even c))) c.add.ensures.small
