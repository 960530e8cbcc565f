-- What proofs alone need beside `Memory`.
use Rattle.std.specs.Prelude.{◌+◌, ◌-◌, ◌^◌, min, Option, Some, None}
use Rattle.response_reader.specs.declared.wire.WireFault.{WireFault}
use Rattle.response_reader.specs.Wire.{counted, lost_by}
use Rattle.response_reader.specs.Memory.{Conversation}

-- one more error
abbrev pub erred : Conversation → WireFault → Conversation
erred c f = record c { failed = counted c.failed 1; lost = lost_by c.lost f }

-- one more call, which has this planned fault, if any
abbrev pub called : Conversation → Option WireFault → Conversation
called c None = record c { calls = min (c.calls + 1) (2 ^ 64 - 1) }
called c (Some f) = record c { calls = min (c.calls + 1) (2 ^ 64 - 1); failed = counted c.failed 1; lost = lost_by c.lost f }
