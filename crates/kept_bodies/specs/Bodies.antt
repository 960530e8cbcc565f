-- Bodies as contracts see them: what each is, and its bytes (RFC 9110, sections 6.4 and 8.3).
use Rattle.std.specs.Prelude.{ℕ, List, [], map}
use Rattle.kept_bodies.specs.declared.body_kind.BodyKind.{BodyKind}
use Rattle.kept_bodies.specs.declared.body_kind.BodyKind.TheVariants.{Other}

-- what a body is, and its bytes
pub record BodyValue : Type 0 where
  pub kind : BodyKind
  pub bytes : List ℕ

-- no body: no bytes, of which nothing is known
abbrev pub no_body : BodyValue
no_body = record { kind = Other; bytes = [] }

-- the bytes of each body
abbrev pub bytes_of : List BodyValue → List (List ℕ)
bytes_of bodies = map (λ body. body.bytes) bodies
