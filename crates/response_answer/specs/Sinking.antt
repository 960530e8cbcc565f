-- What a sink has taken so far that digests responses whose bodies go to a keeper.
use Rattle.std.specs.Prelude.{◌≡◌, ℕ, Bool, false, List, [], Option, Some, None}
use Rattle.response_reader.specs.Fields.{HeadParts}
use Rattle.response_answer.specs.declared.stage.Stage.{Stage}
use Rattle.response_answer.specs.Digesting.{IsStageOf}
use Rattle.response_answer.specs.Digests.{kept_body, kind_of}
use Rattle.kept_bodies.specs.declared.body_kind.BodyKind.{BodyKind}

-- what the head says and what the body is by it, its media type, how long the server wants to be left alone, when the page changed and
-- the tag of its version, what keeps the body, and whether memory ran out
pub record Sinking (K : Type 0) : Type 0 where
  pub stage : Stage
  pub kind : BodyKind
  pub content_type : Option (List ℕ)
  pub retry_after : Option (List ℕ)
  pub last_modified : Option (List ℕ)
  pub etag : Option (List ℕ)
  pub keeper : K
  pub failed : Bool

-- it works, and has taken this head, if any, and these bytes, of which those that are to be kept went to the keeper
abbrev pub HasSunk : {K : Type 0} → (K → List ℕ → Type 0) → Sinking K → Option HeadParts → List ℕ → Type 0
HasSunk begun s None body = (s.failed ≡ false) × begun s.keeper [] × (body ≡ []) × (s.retry_after ≡ None) × (s.last_modified ≡ None)
    × (s.etag ≡ None) × (s.content_type ≡ None)
HasSunk begun s (Some head) body =
    (s.failed ≡ false) × IsStageOf head body s.stage × begun s.keeper (kept_body head.status body) × (s.kind ≡ kind_of head)
    × (s.retry_after ≡ head.retry_after) × (s.last_modified ≡ head.last_modified) × (s.etag ≡ head.etag)
    × (s.content_type ≡ head.content_type)
