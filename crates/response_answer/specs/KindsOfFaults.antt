-- Faults of responses that weren't read, as answers name them (RFC 9112, section 8).
use Rattle.std.specs.Prelude.{◌+◌, Option, slice_get}
use Rattle.response_reader.specs.declared.fault.ReadFault.{ReadFault}
use Rattle.response_reader.specs.Words.{place_of}
use Rattle.fetcher.specs.declared.fault_kind.FaultKind.{FaultKind}
use Rattle.fetcher.specs.FaultWords.{kinds}

-- the fault of an answer whose response wasn't read. Answers have the reader's faults in its order, after Connect, which no
-- reader has; none if memory ran out, which is its last
abbrev pub kind_of_fault : ReadFault → Option FaultKind
kind_of_fault fault = slice_get kinds (place_of fault + 1)
