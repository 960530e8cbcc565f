-- What contracts see of a keeper that computes digests.
use Rattle.std.specs.Prelude.{◌≡◌, ℕ, Bool, true, false, List, Option, Some, None, IfSome}
use Rattle.kept_bodies.specs.Bodies.{BodyValue}
use Rattle.sha2.specs.Hashers.{Holds256}
use Rattle.sha2.specs.Sha256.{sha256}
use Rattle.sha2.specs.declared.Sha256.{Sha256}
use Rattle.body_digests.specs.declared.digesting.Digested.{Digested}

-- a keeper, whether digests are computed, and what holds the message of the body that was begun
pub record DigestState (K : Type 0) : Type 0 where
  pub inner : K
  pub is_digesting : Bool
  pub hasher : Sha256

-- these bytes were added since the body was begun, and are the message whose digest is computed
abbrev pub IsDigested : {K : Type 0} → (K → List ℕ → Type 0) → DigestState K → List ℕ → Type 0
IsDigested begun keeper bytes = begun keeper.inner bytes × (keeper.is_digesting ≡ true → Holds256 keeper.hasher bytes)

-- the digest that is known of a body of these bytes, if digests are computed
abbrev pub known_digest : Bool → List ℕ → Option (List ℕ)
known_digest false bytes = None
known_digest true bytes = Some (sha256 bytes)

-- a kept body may be this one, and its digest, if there is one, is that of its bytes
abbrev pub HoldsDigested : {B : Type 0} → (B → BodyValue → Type 0) → Digested B → BodyValue → Type 0
HoldsDigested holds kept body = holds kept.kept body × IfSome kept.digest (λ digest. digest ≡ sha256 body.bytes)
