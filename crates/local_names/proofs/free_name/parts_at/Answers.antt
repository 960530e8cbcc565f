use Rattle.std.proofs.Common.{arith}
use Rattle.local_names.proofs.OrderLaws.{none_between}
use Rattle.local_names.proofs.free_name.parts_at.Goals as goal

pub returns-then-ends_before : goal.returns-then-ends_before
returns-then-ends_before c =
    λ ends.
    none_between c.args.sorted.now c.args.directory.now c.args.place c.requires (omega arith)
    (λ d some. c.ends_before.ensures c.if-ends_before.true some d)
    (λ d more. c.begins_behind.ensures ends more d)
