use Rattle.memory_disk.specs.declared.memory.Act.TheVariants.{Gone}
use Rattle.memory_disk.proofs.ActLaws.{elapses_push}
use Rattle.memory_disk.proofs.memory.MemoryDiskDisk.remove.Goals as goal

pub returns-clause-time : goal.returns-clause-time
returns-clause-time c = elapses_push (Gone c.in_ok-at.at) c.args.self.now.acts.items c.insert.new.self.items c.in_ok-insert.ensures.items
