use Rattle.std.proofs.Common.{◌≡◌, ◌<◌, [], ◌∷◌, None, length, length-append, ap, ◌∙◌, arith}
use Rattle.depth_labels.specs.Depths.{depth_at}
use Rattle.depth_labels.proofs.labels.Labels.add.Goals as goal
use Rattle.depth_labels.proofs.LabelLemmas.{appended}

pub returns-clause-depths : goal.returns-clause-depths
returns-clause-depths c =
    let none : depth_at c.self.inside.table.entries c.args.address ≡ None = rw (← c.self.view_is) at c.requires.new in
    rw (← c.self.view_is) (c.in-Ok.ensures.entries ∙ appended c.self.inside.table.entries c.args.address c.args.depth none)

pub returns-clause-small : goal.returns-clause-small
returns-clause-small c =
    let none : depth_at c.self.inside.table.entries c.args.address ≡ None = rw (← c.self.view_is) at c.requires.new in
    let few : length c.self.inside.table.entries < c.self.inside.max = rw (← c.self.view_is) at c.requires.few in
    let long = ap length (c.in-Ok.ensures.entries ∙ appended c.self.inside.table.entries c.args.address c.args.depth none) ∙ length-append c.self.inside.table.entries ((c.args.address, c.args.depth) ∷ []) in
    let small = c.self.invariant.1 in
    omega (arith, few, long, small)
