-- The pairs of cookies, one after another.
use Rattle.std.proofs.Common.{◌≡◌, ◌≢◌, ◌∙◌, ℕ, ◌+◌, ◌==◌, false, cond, List, [], ◌∷◌, ◌++◌, length, Some, None, codes, refl, sym, ap, subst, arith, append_assoc, append-nil, length-append, ⊎_elim}
use Rattle.std.proofs.lemmas.Bool.{cases_Bool}
use Rattle.std.proofs.lemmas.Bool.Decides.{nat_tests}
use Rattle.std.proofs.lemmas.List.Elements.{filter-append}
use Rattle.cookie_files.specs.Lines.{Cookie, Text}
use Rattle.cookie_files.specs.Matches.{Asked, goes, marked, pair_of, sent, some_value, value_of, with_sent}

no_zero : (n : ℕ) → n ≢ 0 → (n == 0) ≡ false
no_zero n some = grind (arith, nat_tests)

-- a pair isn't empty
pair_full : (cookie : Cookie) (rest : Text) → length (pair_of cookie ++ rest) ≢ 0
unfolding pair_of
pair_full cookie rest none =
    let size : length (pair_of cookie ++ rest) ≡ length cookie.name + (1 + length cookie.value) + length rest = simp length-append (omega arith) in
    omega (arith, size, none)

pub value_full : (cookie : Cookie) (others : List Cookie) → length (value_of (cookie ∷ others)) ≢ 0
value_full cookie [] = let full = pair_full cookie [] in subst (λ text. length text ≢ 0) (append-nil (pair_of cookie)) full
value_full cookie (next ∷ others) = pair_full cookie (codes "; " ++ value_of (next ∷ others))

marked_full : (text : Text) → length text ≢ 0 → marked text ≡ text ++ codes "; "
marked_full text full = ap (λ b. cond b text (text ++ codes "; ")) (no_zero (length text) full)

-- a pair after others
value_more : (cookies : List Cookie) (cookie : Cookie) → value_of (cookies ++ cookie ∷ []) ≡ marked (value_of cookies) ++ pair_of cookie
value_more [] cookie = refl
value_more (first ∷ []) cookie =
    sym (append_assoc (pair_of first) (codes "; ") (pair_of cookie))
    ∙ ap (λ text. text ++ pair_of cookie) (sym (marked_full (pair_of first) (value_full first [])))
value_more (first ∷ next ∷ others) cookie =
    let later = value_of (next ∷ others) in
    let front = pair_of first in
    ap (λ text. front ++ (codes "; " ++ text)) (value_more (next ∷ others) cookie)
    ∙ ap (λ text. front ++ (codes "; " ++ (text ++ pair_of cookie))) (marked_full later (value_full next others))
    ∙ ap (λ text. front ++ text) (sym (append_assoc (codes "; ") (later ++ codes "; ") (pair_of cookie)))
    ∙ sym (append_assoc front (codes "; " ++ (later ++ codes "; ")) (pair_of cookie))
    ∙ ap (λ text. (front ++ text) ++ pair_of cookie) (sym (append_assoc (codes "; ") later (codes "; ")))
    ∙ ap (λ text. text ++ pair_of cookie) (sym (append_assoc front (codes "; " ++ later) (codes "; ")))
    ∙ ap (λ text. text ++ pair_of cookie) (sym (marked_full (front ++ (codes "; " ++ later)) (value_full first (next ∷ others))))

-- one more cookie is looked at
pub sent_more : (asked : Asked) (now : ℕ) (front : List Cookie) (cookie : Cookie) (text : Text) → text ≡ value_of (sent asked now front) → with_sent asked now text cookie ≡ value_of (sent asked now (front ++ cookie ∷ []))
sent_more asked now front cookie text is =
    let before = sent asked now front in
    ⊎_elim
    (λ yes.
    ap (λ b. cond b (marked text ++ pair_of cookie) text) yes
    ∙ ap (λ t. marked t ++ pair_of cookie) is
    ∙ sym (value_more before cookie)
    ∙ sym (ap value_of (filter-append (goes asked now) front (cookie ∷ []) ∙ ap (λ b. before ++ cond b (cookie ∷ []) []) yes)))
    (λ no.
    ap (λ b. cond b (marked text ++ pair_of cookie) text) no
    ∙ is
    ∙ sym (ap value_of (filter-append (goes asked now) front (cookie ∷ []) ∙ ap (λ b. before ++ cond b (cookie ∷ []) []) no ∙ append-nil before)))
    (cases_Bool (goes asked now cookie))

-- ---- whether there is a value

pub no_value : (cookies : List Cookie) (text : Text) → text ≡ value_of cookies → length text ≡ 0 → None ≡ some_value cookies
no_value [] text is none = refl
no_value (cookie ∷ others) text is none = absurd (value_full cookie others (ap length (sym is) ∙ none))

pub a_value : (cookies : List Cookie) (text : Text) → text ≡ value_of cookies → length text ≢ 0 → Some text ≡ some_value cookies
a_value [] text is some = absurd (some (ap length is))
a_value (cookie ∷ others) text is some = ap Some is
