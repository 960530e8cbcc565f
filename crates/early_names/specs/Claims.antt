-- Which names are claimed.
use Rattle.std.specs.Prelude.{◌≡◌, ℕ, Bool, false, List, [], Option, Some, None, bytes_eq}
use Rattle.std.specs.Map.{lookup}
use Rattle.local_names.specs.Names.{IsDirectoryOf}

-- of each claimed name true, and of each directory of one false; and whether memory ran out at a claim, after which none is claimed any more
pub record ClaimsValue : Type 0 where
  pub table : List (List ℕ × Bool)
  pub is_closed : Bool

-- no name is claimed
abbrev pub no_claims : ClaimsValue
no_claims = record { table = []; is_closed = false }

-- the entry is that of a claimed name
abbrev pub is_name : Option Bool → Bool
is_name None = false
is_name (Some is) = is

-- the name is claimed
abbrev pub is_claimed : ClaimsValue → List ℕ → Bool
is_claimed claims name = is_name (lookup (bytes_eq name) claims.table)

-- the name isn't claimed, no directory of it is, and no name of which it is a directory
pub record IsClear (claims : ClaimsValue) (name : List ℕ) : Type 0 where
  pub new : is_claimed claims name ≡ false
  pub above : (directory : List ℕ) → IsDirectoryOf name directory → is_claimed claims directory ≡ false
  pub below : (other : List ℕ) → IsDirectoryOf other name → is_claimed claims other ≡ false
