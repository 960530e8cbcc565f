-- How a run sees kept bodies.
use Rattle.std.specs.Prelude.{◌≡◌, ℕ, List, length, map}
use Rattle.kept_bodies.specs.Bodies.{BodyValue}
use Rattle.kept_bodies.specs.declared.body_kind.BodyKind.{BodyKind}

-- what each kept body is, how many bytes it has, and which body it may be
pub record Keeping (B : Type 0) : Type 1 where
  pub kind_of : B → BodyKind
  pub len_of : B → ℕ
  pub holds : B → BodyValue → Type 0

-- kept in this way
abbrev pub kept_as : {B : Type 0} → (B → BodyKind) → (B → ℕ) → (B → BodyValue → Type 0) → Keeping B
kept_as kind_of len_of holds = record { kind_of = kind_of; len_of = len_of; holds = holds }

-- what a body in memory is
abbrev pub kind_in : BodyValue → BodyKind
kind_in = λ body. body.kind

-- how many bytes it has
abbrev pub len_in : BodyValue → ℕ
len_in = λ body. length body.bytes

-- in memory each body is itself
abbrev pub in_memory : Keeping BodyValue
in_memory = record { kind_of = kind_in; len_of = len_in; holds = λ kept body. body ≡ kept }

-- the kinds of kept bodies
abbrev pub kinds_of : {B : Type 0} → (B → BodyKind) → List B → List BodyKind
kinds_of kind_of kept = map kind_of kept
