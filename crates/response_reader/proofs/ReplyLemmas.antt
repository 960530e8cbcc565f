-- What a sink has gathered is a response.
use Rattle.std.proofs.Common.{◌≡◌, ℕ, List, Option, Some, None, IfSome, IfNone, sym, ap, ◌∙◌, subst}
use Rattle.std.specs.Prelude.{option_map}
use Rattle.response_reader.specs.declared.sink.Head.{Head}
use Rattle.response_reader.specs.Fields.{HeadParts}
use Rattle.response_reader.specs.Passes.{head_parts}
use Rattle.response_reader.specs.Response.{ResponseParts}

some_same : (a b : HeadParts) → ◌≡◌ {A = Option HeadParts} (Some a) (Some b) → a ≡ b
some_same a b e = cc

same_parts : (r : ResponseParts) (head : HeadParts) (body : List ℕ) → head ≡ r.head → body ≡ r.body
    → ◌≡◌ {A = ResponseParts} (record { head = head; body = body }) r
same_parts r head body h b = λ i. record { head = h i; body = b i }

-- what the gathering sink took is what came out of it
pub parts_of_gathered : (r : ResponseParts) (found : Option Head) (head : Head) (body : List ℕ)
    → (option_map head_parts found ≡ Some r.head) × (body ≡ r.body) → found ≡ Some head
    → ◌≡◌ {A = ResponseParts} (record { head = head_parts head; body = body }) r
parts_of_gathered r found head body kept is =
    same_parts r (head_parts head) body (some_same _ _ (sym (ap (λ (o : Option Head). option_map head_parts o) is) ∙ kept.0)) kept.1

-- what a clause says of the value in a Some that was found
pub at_some : {X : Type 0} (o : Option X) (x : X) (P : X → Type 0) → o ≡ Some x → IfSome o P → P x
at_some o x P is p = subst (λ (q : Option _). IfSome q P) is p

-- and what it says if there is none
pub at_none : {X : Type 0} (o : Option X) (P : Type 0) → o ≡ None → IfNone o P → P
at_none o P is p = subst (λ (q : Option _). IfNone q P) is p
