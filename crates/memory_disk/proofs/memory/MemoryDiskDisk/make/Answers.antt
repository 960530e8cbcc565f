use Rattle.memory_disk.specs.declared.memory.Act.TheVariants.{Put}
use Rattle.memory_disk.proofs.ActLaws.{elapses_push}
use Rattle.memory_disk.proofs.memory.MemoryDiskDisk.make.Goals as goal

pub returns-clause-time : goal.returns-clause-time
returns-clause-time c = elapses_push (Put c.in_ok-at.at c.new.result) c.args.self.now.acts.items c.insert.new.self.items c.in_ok-insert.ensures.items
