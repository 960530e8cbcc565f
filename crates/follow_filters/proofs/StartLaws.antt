-- Starts that are looked up.
use Rattle.std.proofs.Common.{◌≡◌, ◌∙◌, ◌++◌, ◌∷◌, [], ℕ, Bool, true, false, ◌&&◌, ◌||◌, List, bytes_eq, cond, filter, refl, sym, ap, ⊎_elim}
use Rattle.std.specs.List.{list_any}
use Rattle.std.specs.Cmp.Lexicographic.{nat_list_eq_equiv}
use Rattle.std.proofs.lemmas.Bool.{cases_Bool}
use Rattle.std.proofs.lemmas.List.Folds.{list_any-append}

-- what passes a test is looked for among what passes it
pub any_same : (p : List ℕ → Bool) (xs : List (List ℕ)) → list_any p (filter p xs) ≡ list_any p xs
any_same p [] = refl
any_same p (x ∷ xs) = ⊎_elim (λ h. rw h (ap (λ (b : Bool). b || list_any p (filter p xs)) h)) (λ h. rw h (any_same p xs)) (cases_Bool (p x))

-- and so is what passes another test, too
pub any_filtered : (p q : List ℕ → Bool) (xs : List (List ℕ)) → list_any (λ x. p x && q x) (filter p xs) ≡ list_any (λ x. p x && q x) xs
any_filtered p q [] = refl
any_filtered p q (x ∷ xs) = ⊎_elim (λ h. rw h (ap (λ (b : Bool). (b && q x) || list_any (λ y. p y && q y) (filter p xs)) h ∙ ap (λ (b : Bool). q x || b) (any_filtered p q xs))) (λ h. rw h (any_filtered p q xs)) (cases_Bool (p x))

last_or : (b x : Bool) → cond b true x ≡ (x || (b || false))
last_or true true = refl
last_or true false = refl
last_or false true = refl
last_or false false = refl

-- one start more is found
pub found_push : (start address : List ℕ) (before after : Bool) (xs more : List (List ℕ)) → more ≡ xs ++ start ∷ [] → before ≡ list_any (λ one. bytes_eq address one) xs
    → after ≡ cond (bytes_eq start address) true before → after ≡ list_any (λ one. bytes_eq address one) more
found_push start address before after xs more is so step =
    let test : List ℕ → Bool = λ one. bytes_eq address one in
    step
    ∙ ap (λ (b : Bool). cond b true before) (nat_list_eq_equiv.symm start address)
    ∙ last_or (test start) before
    ∙ ap (λ (b : Bool). b || (test start || false)) so
    ∙ sym (list_any-append test xs (start ∷ []))
    ∙ ap (λ (ys : List (List ℕ)). list_any test ys) (sym is)
