-- Starts without credentials.
use Rattle.std.proofs.Common.{◌≡◌, Bool, true, false, List, [], ◌∷◌, Option, Some, None, ◌||◌, is_some, refl, if◌then◌else◌}
use Rattle.std.specs.List.{list_any}
use Rattle.std.specs.Prelude.{bytes_eq}
use Rattle.address.specs.Address.{AddressText, origin_of}
use Rattle.requests.specs.Lines.{Text}
use Rattle.requests.specs.Requests.{Home, has_login, login_at}

neither : (a b : Bool) → (a || b) ≡ false → (a ≡ false) × (b ≡ false)
neither true b e = cc
neither false b e = (refl, e)

if_none : (b : Bool) (login : Option Text) → is_some login ≡ false → (if b then login else None) ≡ None
if_none true None e = refl
if_none false None e = refl
if_none b (Some login) e = cc

-- no start has any
pub no_login : (homes : List Home) (at : AddressText) → list_any has_login homes ≡ false → login_at homes at ≡ None
no_login [] at e = refl
no_login (home ∷ homes) at e =
    let both = neither (has_login home) (list_any has_login homes) e in
    rw (if_none (bytes_eq home.origin (origin_of at)) home.login both.0) (no_login homes at both.1)
