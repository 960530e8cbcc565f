-- What is kept of a body that comes in pieces.
use Rattle.std.proofs.Common.{◌≡◌, ◌⊎◌, inl, inr, Vec, Global, ℕ, zero, suc, ◌-◌, length, length-append, take, ◌∷◌, ◌++◌, Bool, true, false, List, [], refl, sym, ap, ◌∙◌, subst, arith, if◌then◌else◌, Result, Ok, Err, IfOk, None}
use Rattle.std.proofs.lemmas.Bool.Decides.{nat_tests}
use Rattle.address.specs.Address.{AddressText}
use Rattle.response_reader.specs.Fields.{HeadParts}
use Rattle.response_answer.specs.declared.stage.Stage.{Stage}
use Rattle.response_answer.specs.declared.stage.Stage.TheVariants.{Fresh, Redirect, Page, Sheet, Leaf}
use Rattle.fetcher.specs.Statuses.{is_successful, is_redirect}
use Rattle.fetcher.specs.declared.edge.Edge.{Edge}
use Rattle.fetcher.specs.declared.outcome.Outcome.TheVariants as outcome
use Rattle.html_links.specs.Links.{links_of_body}
use Rattle.html_links.specs.declared.rules.LinkRules.{LinkRules}
use Rattle.response_answer.specs.declared.stage.TheConstants.{MAX_SCANNED}
use Rattle.response_answer.specs.Digests.{digest_of, is_document, is_sheet, kept_body, page_edges, scanned_front, syntax_of, target_of}
use Rattle.response_answer.specs.Digesting.{IsStageOf, has_head}

nothing_kept : (b : Bool) (xs : List ℕ) → xs ≡ [] → (if b then xs else []) ≡ []
nothing_kept true xs none = none
nothing_kept false xs none = refl

-- nothing is kept of nothing
pub kept_nil : (status : ℕ) → kept_body status [] ≡ []
kept_nil status = nothing_kept (is_successful status) [] refl

-- all is kept of a body of success
pub kept_more : (status : ℕ) (body piece : List ℕ) → is_successful status ≡ true → kept_body status (body ++ piece) ≡ kept_body status body ++ piece
kept_more status body piece succeeds = rw succeeds refl

-- nothing is kept of any other body
pub kept_none : (status : ℕ) (body piece : List ℕ) → is_successful status ≡ false → kept_body status (body ++ piece) ≡ kept_body status body
kept_none status body piece fails = rw fails refl

-- a redirect isn't a success
pub redirect_is_none : (status : ℕ) → is_redirect status ≡ true → is_successful status ≡ false
redirect_is_none status h = grind (arith, nat_tests)

-- a redirect is no document
pub redirect_is_no_document : (head : HeadParts) → is_redirect head.status ≡ true → is_document head ≡ false
redirect_is_no_document head h = rw (redirect_is_none head.status h) refl

-- nor a style sheet
pub redirect_is_no_sheet : (head : HeadParts) → is_redirect head.status ≡ true → is_sheet head ≡ false
redirect_is_no_sheet head h = rw (redirect_is_none head.status h) refl

-- if a stage is that of a response, there was a head
pub stage_has_head : (head : HeadParts) (front : List ℕ) (stage : Stage) → IsStageOf head front stage → has_head stage ≡ true
stage_has_head head front Fresh h = absurd h
stage_has_head head front (Redirect status location) h = refl
stage_has_head head front (Page status scanner left) h = refl
stage_has_head head front (Sheet status scanner left) h = refl
stage_has_head head front (Leaf status) h = refl

-- what holds of a result holds in another form too
pub if_ok_map : {A E : Type 0} (r : Result A E) (P Q : A → Type 0) → IfOk r P → ((a : A) → P a → Q a) → IfOk r Q
if_ok_map (Ok a) P Q p f = f a p
if_ok_map (Err e) P Q p f = tt

none_left : (k : ℕ) → zero - k ≡ zero
none_left k = omega arith

all_left : (n : ℕ) → suc n - zero ≡ suc n
all_left n = omega arith

one_less : (n k : ℕ) → suc n - suc k ≡ n - k
one_less n k = omega arith

front_more : (n : ℕ) (front piece : List ℕ) → take n front ++ take (n - length front) piece ≡ take n (front ++ piece)
front_more zero front piece = ap (λ (k : ℕ). take k piece) (none_left (length front))
front_more (suc n) [] piece = ap (λ (k : ℕ). take k piece) (all_left n)
front_more (suc n) (b ∷ front) piece =
    ap (λ (k : ℕ). b ∷ (take n front ++ take k piece)) (one_less n (length front)) ∙ ap (λ (l : List ℕ). b ∷ l) (front_more n front piece)

-- what is looked through of a piece comes after what was before it
pub scanned_more : (front piece fed : List ℕ) (left : ℕ) → left ≡ MAX_SCANNED - length front → fed ≡ take left piece
    → scanned_front front ++ fed ≡ scanned_front (front ++ piece)
scanned_more front piece fed left is here =
    ap (λ (l : List ℕ). scanned_front front ++ l) (here ∙ ap (λ (k : ℕ). take k piece) is) ∙ front_more MAX_SCANNED front piece

-- and so many bytes are looked through after it
pub left_more : (front piece : List ℕ) (left : ℕ) → left ≡ MAX_SCANNED - length front → left - length piece ≡ MAX_SCANNED - length (front ++ piece)
left_more front piece left is = omega (arith, is, length-append front piece)

-- what isn't looked through takes any piece
pub unscanned_more : (head : HeadParts) (front piece : List ℕ) (stage : Stage)
    → (stage ≡ Fresh) ⊎ ((status : ℕ) × (location : Vec ℕ Global) × (stage ≡ Redirect status location)) ⊎ ((status : ℕ) × (stage ≡ Leaf status))
    → IsStageOf head front stage → IsStageOf head (front ++ piece) stage
unscanned_more head front piece stage (inl is) = subst (λ (s : Stage). IsStageOf head front s → IsStageOf head (front ++ piece) s) (sym is) (λ x. x)
unscanned_more head front piece stage (inr (inl (status, location, is))) =
    subst (λ (s : Stage). IsStageOf head front s → IsStageOf head (front ++ piece) s) (sym is) (λ x. x)
unscanned_more head front piece stage (inr (inr (status, is))) =
    subst (λ (s : Stage). IsStageOf head front s → IsStageOf head (front ++ piece) s) (sym is) (λ x. x)

-- a page of HTML answers the links of the front that is looked through
pub page_digest : (rules : LinkRules) (at : AddressText) (head : HeadParts) (body : List ℕ) (status : ℕ) (edges : List Edge)
    → status ≡ head.status → is_document head ≡ true → target_of at head ≡ None
    → edges ≡ page_edges rules at (links_of_body (syntax_of head) (scanned_front body))
    → outcome.Page status edges ≡ digest_of rules at (record { head = head; body = body })
page_digest rules at head body status edges is document nowhere found = rw (nowhere, document, is, found) refl
