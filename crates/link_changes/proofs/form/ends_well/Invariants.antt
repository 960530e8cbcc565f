-- What is left ends as the whole does.
use Rattle.std.proofs.Common.{◌≡◌, length}
use Rattle.source_sets.specs.Rewriting.{ends_well}
use Rattle.link_changes.proofs.form.ends_well.Given as goal

abbrev pub invariant-loop-left : goal.invariant-loop-left
invariant-loop-left l = ends_well l.last l.left ≡ ends_well l.first l.others

abbrev pub decreases-loop-left : goal.decreases-loop-left
decreases-loop-left l = length l.left
