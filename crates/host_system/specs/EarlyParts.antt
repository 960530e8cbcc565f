-- Parts that get their names while a run goes on.
use Rattle.std.specs.Prelude.{◌≡◌, ◌⊎◌}
use Rattle.part_keeper.specs.declared.part.KeptPart.{KeptPart}
use Rattle.part_keeper.specs.declared.part.Standing.TheVariants.{Whole, Named}

-- a name is given to a body that is whole
abbrev pub HasWhole : KeptPart → Type 0
HasWhole part = part.standing ≡ Whole

-- the part, which has its name
abbrev pub with_name : KeptPart → KeptPart
with_name part = record part { standing = Named }

-- the part is as it was, or it was whole and has its name
abbrev pub NamedIfWhole : KeptPart → KeptPart → Type 0
NamedIfWhole part after = (after ≡ part) ⊎ (HasWhole part × (after ≡ with_name part))
