-- What reads as an address is named by it.
use Rattle.std.proofs.Common.{◌≡◌, ℕ, List, Ok, refl}
use Rattle.address.specs.Address.{read_address, read_either}
use Rattle.site_inputs.specs.Names.{named, IsNamed, recorded, IsRecorded}

-- what reads as an address is named by it
pub names : (text address : List ℕ) → read_address text ≡ Ok address → IsNamed text × (named text ≡ address)
names text address e = (rw e refl, rw e refl)

-- and what a record names
pub records : (text address : List ℕ) → read_either text ≡ Ok address → IsRecorded text × (recorded text ≡ address)
records text address e = (rw e refl, rw e refl)
