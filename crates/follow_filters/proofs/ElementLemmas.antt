-- What is taken off the text of an element.
use Rattle.std.proofs.Common.{◌≡◌, ◌≢◌, ◌∙◌, ℕ, ◌+◌, ◌-◌, ◌==◌, Bool, true, false, List, [], ◌∷◌, ◌++◌, take, length, get_or, Some, None, if◌then◌else◌, refl, sym, ap, ⊎_elim, arith, length-append}
use Rattle.std.proofs.lemmas.Bool.{cases_Bool}
use Rattle.std.proofs.lemmas.Bool.Decides.{Decides-eqb}
use Rattle.std.proofs.lemmas.List.{take-append-le, take_more, reverse-append}
use Rattle.std.proofs.lemmas.List.Sums.{suffix_len-take_no}
use Rattle.std.proofs.Math.Seq.{take-length}
use Rattle.std.specs.List.{suffix_len, prefix_len}
use Rattle.follow_filters.specs.Domains.{without_dot, is_domain, read_domain}
use Rattle.follow_filters.specs.Directories.{without_closing_slashes}

-- a text that begins with a dot
pub without_dot-dotted : (text rest : List ℕ) → text ≡ 46 ∷ rest → without_dot text ≡ rest
without_dot-dotted text rest dotted = ap without_dot dotted

-- a text that doesn't
pub without_dot-bare : (text : List ℕ) → ((rest : List ℕ) → text ≢ 46 ∷ rest) → without_dot text ≡ text
without_dot-bare [] bare = refl
without_dot-bare (first ∷ text) bare =
    ⊎_elim (λ yes. absurd (bare text (ap (λ b. b ∷ text) ((Decides-eqb first 46).0 yes)))) (λ no. rw no refl) (cases_Bool (first == 46))

-- a text that ends in a slash
pub closing-more : (front : List ℕ) → without_closing_slashes (front ++ 47 ∷ []) ≡ without_closing_slashes front
unfolding without_closing_slashes
closing-more front =
    let p : ℕ → Bool = λ b. b == 47 in
    let more : suffix_len p (front ++ 47 ∷ []) ≡ 1 + suffix_len p front = ap (prefix_len p) (reverse-append front (47 ∷ [])) in
    let size : length (front ++ 47 ∷ []) - suffix_len p (front ++ 47 ∷ []) ≡ length front - suffix_len p front =
    simp length-append (omega (arith, more)) in
    ap (λ n. take n (front ++ 47 ∷ [])) size ∙ take-append-le (length front - suffix_len p front) front (47 ∷ []) (omega arith)

-- a text that doesn't
pub closing-none : (text : List ℕ) → ((front : List ℕ) → text ≢ front ++ 47 ∷ []) → without_closing_slashes text ≡ text
unfolding without_closing_slashes
closing-none [] bare = refl
closing-none (b ∷ bs) bare =
    let text = b ∷ bs in
    let p : ℕ → Bool = λ b. b == 47 in
    let last : ℕ = get_or text (length bs) 0 in
    let ends : text ≡ take (length bs) text ++ last ∷ [] =
    sym (take-length text) ∙ ap (λ n. take n text) (let one : length text ≡ length bs + 1 = omega arith in one) ∙ take_more text (length bs) 0 (omega arith) in
    let differs : p last ≡ false =
    ⊎_elim (λ yes. absurd (bare (take (length bs) text) (ends ∙ ap (λ l. take (length bs) text ++ l ∷ []) ((Decides-eqb last 47).0 yes)))) (λ no. no) (cases_Bool (p last)) in
    let none : suffix_len p text ≡ 0 =
    ap (suffix_len p) (sym (take-length text)) ∙ suffix_len-take_no p text (length text) 0 (omega arith) (omega arith) (ap (λ n. p (get_or text n 0)) (let one : length text - 1 ≡ length bs = omega arith in one) ∙ differs) in
    let whole : length text - suffix_len p text ≡ length text = omega (arith, none) in
    ap (λ n. take n text) whole ∙ take-length text

-- ---- what is read

pub read_domain-good : (text : List ℕ) → is_domain (without_dot text) ≡ true → read_domain text ≡ Some (without_dot text)
unfolding read_domain
read_domain-good text good = ap (λ b. if b then Some (without_dot text) else None) good

pub read_domain-bad : (text : List ℕ) → is_domain (without_dot text) ≡ false → read_domain text ≡ None
unfolding read_domain
read_domain-bad text bad = ap (λ b. if b then Some (without_dot text) else None) bad
