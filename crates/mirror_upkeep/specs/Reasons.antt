-- What is said of a text that isn't the journal of a run.
use Rattle.std.specs.Prelude.{◌++◌, Option, Some, None, codes}
use Rattle.std.specs.Fmt.{decimal}
use Rattle.mirror_index.specs.Entries.{Text}
use Rattle.mirror_upkeep.specs.declared.reading.JournalFault.{JournalFault}
use Rattle.mirror_upkeep.specs.declared.reading.JournalFault.TheVariants.{Entry, Line, Memory, Starts, Version}

-- nothing is said if memory ran out
abbrev pub reason_of : JournalFault → Option Text
reason_of Version = Some (codes "is of another version")
reason_of Starts = Some (codes "is of other STARTs")
reason_of (Line line) = Some (codes "line " ++ decimal line ++ codes " is damaged")
reason_of Entry = Some (codes "has an entry that isn't written")
reason_of Memory = None
