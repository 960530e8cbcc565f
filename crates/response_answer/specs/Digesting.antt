-- What a sink that digests a response has taken so far.
use Rattle.std.specs.Prelude.{◌≡◌, ℕ, ◌-◌, length, Bool, true, false, List, [], Option, Some, None}
use Rattle.address.specs.Address.{AddressText}
use Rattle.html_links.specs.Scanning.{StandsFor}
use Rattle.html_links.specs.declared.rules.LinkRules.{LinkRules}
use Rattle.css_links.specs.Scanning.{StandsFor as StandsForSheet}
use Rattle.response_reader.specs.Fields.{HeadParts}
use Rattle.response_answer.specs.declared.stage.Stage.{Stage}
use Rattle.response_answer.specs.declared.stage.Stage.TheVariants.{Fresh, Redirect, Page, Sheet, Leaf}
use Rattle.response_answer.specs.declared.stage.TheConstants.{MAX_SCANNED}
use Rattle.response_answer.specs.Digests.{scanned_front, target_of, named_from, syntax_of, is_document, is_sheet, kept_body, kind_of}
use Rattle.kept_bodies.specs.declared.body_kind.BodyKind.{BodyKind}
use Rattle.fetcher.specs.Statuses.{is_successful}

-- the address that was asked and which links are taken, what the head says and what the body is by it, the bytes that
-- are kept, and whether memory ran out
pub record Digesting : Type 0 where
  pub at : AddressText
  pub rules : LinkRules
  pub stage : Stage
  pub kind : BodyKind
  pub kept : List ℕ
  pub failed : Bool

-- what a response is digested for: the address that was asked, and which links are taken
pub record Purpose : Type 0 where
  pub at : AddressText
  pub rules : LinkRules

-- what this one is for
abbrev pub purpose_of : Digesting → Purpose
purpose_of d = record { at = d.at; rules = d.rules }

-- whatever was requested, the head redirects nowhere
abbrev pub RedirectsNowhere : HeadParts → Type 0
RedirectsNowhere head = (at : AddressText) → target_of at head ≡ None

-- the stage is that of a response with this head and this front of a body
abbrev pub IsStageOf : HeadParts → List ℕ → Stage → Type 0
IsStageOf head front Fresh = ⊥
IsStageOf head front (Redirect status location) =
    (status ≡ head.status) × (is_successful head.status ≡ false) × (is_document head ≡ false) × (is_sheet head ≡ false)
    × ((at : AddressText) → target_of at head ≡ named_from at location.items)
IsStageOf head front (Page status scanner left) =
    (status ≡ head.status) × (is_successful head.status ≡ true) × (is_document head ≡ true) × RedirectsNowhere head
    × StandsFor (syntax_of head) scanner (scanned_front front) × (left ≡ MAX_SCANNED - length front)
IsStageOf head front (Sheet status scanner left) =
    (status ≡ head.status) × (is_successful head.status ≡ true) × (is_document head ≡ false) × (is_sheet head ≡ true) × RedirectsNowhere head
    × StandsForSheet scanner (scanned_front front) × (left ≡ MAX_SCANNED - length front)
IsStageOf head front (Leaf status) = (status ≡ head.status) × (is_document head ≡ false) × (is_sheet head ≡ false) × RedirectsNowhere head

-- it works, and has taken this head, if any, and these bytes
abbrev pub HasTaken : Digesting → Option HeadParts → List ℕ → Type 0
HasTaken d None body = (d.failed ≡ false) × (d.kept ≡ []) × (body ≡ [])
HasTaken d (Some head) body =
    (d.failed ≡ false) × IsStageOf head body d.stage × (d.kept ≡ kept_body head.status body) × (d.kind ≡ kind_of head)

-- it has taken a head
abbrev pub has_head : Stage → Bool
has_head Fresh = false
has_head other = true
