-- What became of an offer.
use Rattle.std.specs.Prelude.{ℕ, nat_lt, Option, Some, None, if◌then◌else◌}
use Rattle.depth_labels.specs.declared.labels.Offer.{Offer}
use Rattle.depth_labels.specs.declared.labels.Offer.TheVariants.{New, Lowered, Kept}

-- an address that wasn't held is new, a lesser depth lowers, any other is passed over
abbrev pub offer_of : Option ℕ → ℕ → Offer
offer_of None depth = New
offer_of (Some held) depth = if nat_lt depth held then Lowered else Kept
