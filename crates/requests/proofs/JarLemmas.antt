-- Which cookies of a file a request has: those that go there.
use Rattle.std.proofs.Common.{◌≡◌, ◌<◌, ℕ, Bool, true, false, List, [], ◌∷◌, Option, Some, None, zero, suc, refl, subst, arith, length, if◌then◌else◌}
use Rattle.std.specs.Prelude.{Contains}
use Rattle.std.specs.List.{filter}
use Rattle.address.specs.Address.{AddressText}
use Rattle.cookie_files.specs.Lines.{Cookie}
use Rattle.cookie_files.specs.Matches.{asked_of, goes}
use Rattle.cookie_files.proofs.Meaning.{goes-Decides}
use Rattle.requests.specs.Requests.{GoWhereNamed, IsThere, Jar, Sending, cookies_in}

tail : {X : Type 0} (x y : X) (xs : List X) → Contains xs y → Contains (x ∷ xs) y
tail x y xs (k, lt, e) = (suc k, omega arith, e)

-- an element that was kept is among all, and passes the test
from_kept : {X : Type 0} (test : X → Bool) (xs : List X) (x : X) → Contains (filter test xs) x → Contains xs x × (test x ≡ true)
from_kept test [] x (k, lt, e) = absurd (omega arith)
from_kept {X} test (y ∷ xs) x among = go (from_kept test xs x) (test y) refl among
  where
    go : (Contains (filter test xs) x → Contains xs x × (test x ≡ true)) → (b : Bool) → test y ≡ b
        → Contains (if b then y ∷ filter test xs else filter test xs) x → Contains (y ∷ xs) x × (test x ≡ true)
    go rest true e (zero, lt, is) = ((zero, omega arith, is), subst (λ z. test z ≡ true) is e)
    go rest true e (suc k, lt, is) = let found = rest (k, omega arith, is) in (tail y x xs found.0, found.1)
    go rest false e there = let found = rest there in (tail y x xs found.0, found.1)

pub go_where_named : (sending : Sending) (at : AddressText) → GoWhereNamed sending at
go_where_named sending at cookie among = go sending.sent.has_cookie sending.jar refl among
  where
    go : (has : Bool) (jar : Option Jar) → sending.jar ≡ jar → Contains (if has then [] else cookies_in jar at) cookie
        → (named : Jar) × (sending.jar ≡ Some named) × IsThere named at cookie
    go true jar e (k, lt, is) = absurd (omega arith)
    go false None e (k, lt, is) = absurd (omega arith)
    go false (Some jar) e there =
        let kept = from_kept (goes (asked_of at) jar.time) jar.cookies cookie there in
        (jar, e, (kept.0, (goes-Decides (asked_of at) jar.time cookie).0 kept.1))
