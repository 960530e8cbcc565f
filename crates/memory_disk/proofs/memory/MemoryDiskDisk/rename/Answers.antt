use Rattle.std.proofs.Common.{◌≡◌, rules, ◌∙◌, ap}
use Rattle.memory_disk.specs.Acts.{file_at}
use Rattle.memory_disk.specs.declared.memory.Act.TheVariants.{Moved}
use Rattle.memory_disk.proofs.ActLaws.{elapses_push, moved_there}
use Rattle.memory_disk.proofs.memory.MemoryDiskDisk.rename.Goals as goal

pub returns-in_err-insert-clause-others_named : goal.returns-in_err-insert-clause-others_named
returns-in_err-insert-clause-others_named c n not_from not_to stands =
    let same : c.insert.new.self.items ≡ c.args.self.now.acts.items = search rules in
    (stands.0, ap (λ l. file_at l n) same ∙ stands.1)

pub returns-clause-others_named : goal.returns-clause-others_named
returns-clause-others_named c n not_from not_to stands =
    (stands.0, ap (λ l. file_at l n) c.in_ok-insert.ensures.items ∙ moved_there c.in_ok-left.left c.in_ok-at.at c.in_ok-bytes.bytes c.args.self.now.acts.items c.args.to.now c.args.from.now n c.in_ok-at.ensures.ok c.in_ok-left.ensures.ok not_from not_to ∙ stands.1)

pub returns-clause-time : goal.returns-clause-time
returns-clause-time c = elapses_push (Moved c.in_ok-left.left c.in_ok-at.at c.in_ok-bytes.bytes) c.args.self.now.acts.items c.insert.new.self.items c.in_ok-insert.ensures.items
