-- Digits, as `parse` reads them, and what is before the last byte of a text.
use Rattle.std.proofs.Common.{◌≡◌, ◌≢◌, ◌∙◌, ℕ, suc, ◌-◌, ◌<◌, ◌≤◌, ◌^◌, Bool, true, false, refl, sym, ap, subst, List, [], ◌∷◌, ◌++◌, length, length-append, get_or, take, Some, None, Ok, Err, nat_lt, ltb-true, lt-ltb, leb-true, leb, arith, eq-eqb, ne_eqb}
use Rattle.std.specs.Prelude.{Result}
use Rattle.std.specs.Result.{result_ok}
use Rattle.std.specs.List.{list_all}
use Rattle.std.specs.Char.{is_ascii_digit}
use Rattle.std.specs.Str.Parse.{AllDigits, ParsesUnsigned, digits_value, without_leading_plus}
use Rattle.std.proofs.lemmas.Bool.{and_parts}
use Rattle.std.proofs.lemmas.List.{take-append-drop}
use Rattle.std.proofs.Math.Seq.{drop-cons, get_or-append_seam, take-append_seam}
use Rattle.std.proofs.Math.ListN.{drop, drop_of_length-le}
use Rattle.std.proofs.lemmas.Str.{digit_value_digit}
use Rattle.std.proofs.lemmas.Str.Parse.{without_leading_plus_none}
use Rattle.pacing.specs.Spans.{cut_by, digits_in}

digit_bounds : (b : ℕ) → is_ascii_digit b ≡ true → (48 ≤ b) × (b ≤ 57)
digit_bounds b is = let m = and_parts (leb 48 b) (leb b 57) is in (leb-true 48 b m.0, leb-true b 57 m.1)

all_digits : (text : List ℕ) → list_all is_ascii_digit text ≡ true → AllDigits 10 text
all_digits [] is = tt
all_digits (b ∷ bs) is =
    let parts = and_parts _ _ is in
    let bounds = digit_bounds b parts.0 in
    (omega (arith, digit_value_digit b bounds), all_digits bs parts.1)

no_plus : (text : List ℕ) → list_all is_ascii_digit text ≡ true → get_or text 0 0 ≢ 43
no_plus [] is e = absurd (omega (arith, e))
no_plus (b ∷ bs) is e = let parts = and_parts _ _ is in let bounds = digit_bounds b parts.0 in omega (arith, bounds, e)

pub digits_read : {E : Type 0} (text : List ℕ) (r : Result ℕ E) → 0 < length text → list_all is_ascii_digit text ≡ true → ParsesUnsigned 64 10 text r → result_ok r ≡ digits_in text
digits_read text (Ok n) some all h =
    let plain = without_leading_plus_none text (no_plus text all) in
    rw (all, lt-ltb (digits_value 10 text) (2 ^ 64) (rw plain at h.0.1)) (ap Some (h.1 ∙ ap (digits_value 10) plain))
digits_read text (Err e) some all h = go (nat_lt (digits_value 10 text) (2 ^ 64)) refl
  where
    plain : without_leading_plus text ≡ text
    plain = without_leading_plus_none text (no_plus text all)

    go : (b : Bool) → nat_lt (digits_value 10 text) (2 ^ 64) ≡ b → None ≡ digits_in text
    go false t = rw (all, t) refl
    go true t = absurd (h (subst (λ ds. ((0 < length ds) × AllDigits 10 ds) × (digits_value 10 ds < 2 ^ 64)) (sym plain) ((some, all_digits text all), ltb-true _ _ t)))

pub cut_at : (unit : ℕ) (text front : List ℕ) → text ≡ front ++ (unit ∷ []) → cut_by unit text ≡ Some front
cut_at unit text front is =
    let n : length text - 1 ≡ length front = omega (arith, ap length is, length-append front (unit ∷ [])) in
    let last : get_or text (length text - 1) 0 ≡ unit = ap (λ i. get_or text i 0) n ∙ ap (λ l. get_or l (length front) 0) is ∙ get_or-append_seam front unit [] 0 in
    let before : take (length text - 1) text ≡ front = ap (λ i. take i text) n ∙ ap (take (length front)) is ∙ take-append_seam front (unit ∷ []) in
    rw (eq-eqb _ unit last) (ap Some before)

ends_with_last : (unit : ℕ) (text : List ℕ) → 0 < unit → get_or text (length text - 1) 0 ≡ unit → text ≡ take (length text - 1) text ++ (unit ∷ [])
ends_with_last unit [] some last = absurd (omega (arith, some, last))
ends_with_last unit (b ∷ bs) some last =
    let text = b ∷ bs in
    let at : drop (length bs) text ≡ get_or text (length bs) 0 ∷ drop (suc (length bs)) text = drop-cons text (length bs) 0 (omega arith) in
    let end : drop (suc (length bs)) text ≡ [] = drop_of_length-le text {i = suc (length bs)} (omega arith) in
    let same : length bs ≡ length text - 1 = omega arith in
    subst (λ n. text ≡ take n text ++ (unit ∷ [])) same
    (sym (take-append-drop (length bs) text) ∙ ap (λ l. take (length bs) text ++ l) (at ∙ ap (λ c. c ∷ drop (suc (length bs)) text) (ap (λ n. get_or text n 0) same ∙ last) ∙ ap (λ l. unit ∷ l) end))

pub cut_none : (unit : ℕ) (text : List ℕ) → 0 < unit → ((front : List ℕ) → text ≢ front ++ (unit ∷ [])) → cut_by unit text ≡ None
cut_none unit text some free = rw (ne_eqb _ unit (λ last. free (take (length text - 1) text) (ends_with_last unit text some last))) refl
