-- What a response answers that comes without a request.
use Rattle.std.specs.Prelude.{◌≡◌, ℕ, List, Option, Result, Ok, Err, IfOk}
use Rattle.address.specs.Address.{AddressText}
use Rattle.html_links.specs.declared.rules.LinkRules.{LinkRules}
use Rattle.fetcher.specs.declared.answer.Answer.{Answer}
use Rattle.kept_bodies.specs.Bodies.{BodyValue}
use Rattle.response_reader.specs.Limits.{Limited}
use Rattle.response_reader.specs.Wire.{OfBytes}
use Rattle.http_fetcher.specs.Fetching.{StandsForOne}
use Rattle.http_fetcher.specs.Meanings.{IsSaidBy, MayAnswerWithin}
use Rattle.std.proofs.Common.{inl, inr}

-- what holds of both holds
pub if_ok_both : {A E : Type 0} (r : Result A E) (P Q R : A → Type 0) → IfOk r P → IfOk r Q → ((a : A) → P a → Q a → R a) → IfOk r R
if_ok_both (Ok a) P Q R p q step = step a p q
if_ok_both (Err e) P Q R p q step = tt

-- what some bytes say may be answered
pub may_said : (limits : Limited) (links : LinkRules) (at : AddressText) (answer : Answer BodyValue) (bytes : List ℕ)
    → IsSaidBy limits links at answer bytes → MayAnswerWithin limits links at answer.outcome answer.body
may_said limits links at answer bytes (inl digest) = inl (bytes, digest)
may_said limits links at answer bytes (inr unread) = inr (inl (bytes, unread))

-- the same of an answer that represents one
pub may_of_told : {B : Type 0} (holds : B → BodyValue → Type 0) (limits : Limited) (links : LinkRules) (at : AddressText) (known : Option (List ℕ)) (a : Answer B)
    → StandsForOne holds a (λ real. OfBytes known (IsSaidBy limits links at real))
    → StandsForOne holds a (λ real. MayAnswerWithin limits links at real.outcome real.body)
may_of_told holds limits links at known a (real, kept, (bytes, tells, says)) = (real, kept, may_said limits links at real bytes says)
