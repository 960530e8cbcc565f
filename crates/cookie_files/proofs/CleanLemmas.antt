-- Names and values have no control byte.
use Rattle.std.proofs.Common.{◌≡◌, ◌∙◌, Bool, true, false, cond, not, ℕ, [], ◌∷◌, ◌++◌, Option, Some, None, codes, refl, sym, ap, subst, append_assoc}
use Rattle.std.proofs.lemmas.Bool.{and_parts, or_parts, or_from}
use Rattle.std.proofs.lemmas.List.Folds.{list_any-append}
use Rattle.std.specs.List.{list_any}
use Rattle.cookie_files.specs.Lines.{Fields, Text, fault_of, is_bad, is_bad_in_name, is_value, is_control, is_domain, is_expiry, is_flag, is_name, is_path}
use Rattle.cookie_files.specs.Matches.{IsClean}
use Rattle.cookie_files.specs.declared.fault.CookieLineFault.{CookieLineFault}
use Rattle.cookie_files.specs.declared.fault.CookieLineFault.TheVariants as fault

covered : (p q : ℕ → Bool) → ((x : ℕ) → p x ≡ false → q x ≡ false) → (xs : Text) → list_any p xs ≡ false → list_any q xs ≡ false
covered p q covers [] none = refl
covered p q covers (x ∷ xs) none = let both = or_parts (p x) (list_any p xs) none in or_from (q x) (list_any q xs) (covers x both.0) (covered p q covers xs both.1)

pub clean-append : (a b : Text) → IsClean a → IsClean b → IsClean (a ++ b)
clean-append a b is_a is_b = list_any-append is_control a b ∙ or_from _ _ is_a is_b

pub pair_clean : (name value : Text) → list_any is_bad_in_name name ≡ false → list_any is_bad value ≡ false → IsClean (name ++ (codes "=" ++ value))
pair_clean name value good fine =
    let in_content : IsClean value = covered is_bad is_control (λ x none. (or_parts (is_control x) _ none).0) value fine in
    let in_name : IsClean name = covered is_bad_in_name is_control (λ x none. (or_parts (is_control x) _ (or_parts (is_bad x) _ none).0).0) name good in
    clean-append name (codes "=" ++ value) in_name (clean-append (codes "=") value refl in_content)

passed : (b : Bool) (why : CookieLineFault) (others : Option CookieLineFault) → cond (not b) (Some why) others ≡ None → (b ≡ true) × (others ≡ None)
passed true why others is = (refl, is)
passed false why others is = cc

not_false : (b : Bool) → not b ≡ true → b ≡ false
not_false true is = cc
not_false false is = refl

-- fields without a fault have a name and a value that may be
pub good_fields : (fields : Fields) → fault_of fields ≡ None → (list_any is_bad_in_name fields.name ≡ false) × (list_any is_bad fields.value ≡ false)
unfolding fault_of
good_fields fields is =
    let a = passed (is_domain fields.domain) fault.Domain _ is in
    let b = passed (is_flag fields.subdomains) fault.Subdomains _ a.1 in
    let c = passed (is_path fields.path) fault.Path _ b.1 in
    let d = passed (is_flag fields.secure) fault.Secure _ c.1 in
    let e = passed (is_expiry fields.expiry) fault.Expiry _ d.1 in
    let f = passed (is_name fields.name) fault.Name _ e.1 in
    let g = passed (is_value fields.value) fault.Value None f.1 in
    let name = and_parts _ (not (list_any is_bad_in_name fields.name)) f.0 in
    (not_false (list_any is_bad_in_name fields.name) name.1, not_false (list_any is_bad fields.value) g.0)

-- a text to which a pair is added
pub pushed_clean : (old name value a b all : Text) → IsClean old → IsClean (name ++ (codes "=" ++ value)) → a ≡ old ++ name → b ≡ a ++ 61 ∷ [] → all ≡ b ++ value → IsClean all
pushed_clean old name value a b all clean pair is_a is_b is_all =
    let is : all ≡ old ++ (name ++ (codes "=" ++ value)) =
    is_all ∙ ap (λ t. t ++ value) (is_b ∙ ap (λ t. t ++ 61 ∷ []) is_a)
    ∙ append_assoc (old ++ name) (codes "=") value
    ∙ append_assoc old name (codes "=" ++ value) in
    subst IsClean (sym is) (clean-append old (name ++ (codes "=" ++ value)) clean pair)
