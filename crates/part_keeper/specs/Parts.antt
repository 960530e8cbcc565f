-- What a part says of the body that was kept in it.
use Rattle.std.specs.Prelude.{◌≡◌, ℕ, Bool, true, false, length}
use Rattle.kept_bodies.specs.Bodies.{BodyValue}
use Rattle.part_keeper.specs.declared.part.KeptPart.{KeptPart}

-- it may be this body's: it is of this kind, and has as many bytes
abbrev pub holds_part : KeptPart → BodyValue → Type 0
holds_part part body = (body.kind ≡ part.kind) × (length body.bytes ≡ part.len)

-- it may be this body's, which this run received
abbrev pub holds_received : KeptPart → BodyValue → Type 0
holds_received part body = holds_part part body × (part.is_received ≡ true)

-- so many bytes, if they were received
abbrev pub len_if : Bool → ℕ → ℕ
len_if true len = len
len_if false len = 0

-- how many bytes of a part's body this run received
abbrev pub received_len : KeptPart → ℕ
received_len part = len_if part.is_received part.len
