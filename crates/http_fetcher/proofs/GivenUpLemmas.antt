-- Which responses are those of a server that had given up waiting for the request.
use Rattle.std.proofs.Common.{◌≡◌, ◌==◌, Bool, true, false, Option, Some, None, refl, sym}
use Rattle.std.proofs.lemmas.Bool.{eqb-true}
use Rattle.address.specs.Address.{AddressText}
use Rattle.response_reader.specs.Response.{ResponseParts}
use Rattle.response_answer.specs.Digests.{digest_of, is_document, is_sheet, target_of}
use Rattle.http_fetcher.specs.Fetching.{is_given_up}
use Rattle.html_links.specs.declared.rules.LinkRules.{LinkRules}

-- a response says so by its status, whatever else it is
pub given_up_by_status : (links : LinkRules) (at : AddressText) (r : ResponseParts) → is_given_up (digest_of links at r) ≡ (r.head.status == 408)
given_up_by_status links at r = by (r.head.status == 408) refl
  where
    other : (t : Option AddressText) (d s : Bool) → target_of at r.head ≡ t → is_document r.head ≡ d → is_sheet r.head ≡ s → (r.head.status == 408) ≡ false
        → is_given_up (digest_of links at r) ≡ (r.head.status == 408)
    other (Some target) d s moved document sheet is = rw moved (sym is)
    other None true s moved document sheet is = rw (moved, document) (sym is)
    other None false true moved document sheet is = rw (moved, document, sheet) (sym is)
    other None false false moved document sheet is = rw (moved, document, sheet) refl

    by : (b : Bool) → (r.head.status == 408) ≡ b → is_given_up (digest_of links at r) ≡ (r.head.status == 408)
    by true is = rw (eqb-true r.head.status 408 is) refl
    by false is = other (target_of at r.head) (is_document r.head) (is_sheet r.head) refl refl refl is
