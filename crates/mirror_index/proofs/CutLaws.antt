-- Where a text is cut, and that it is cut in one way.
use Rattle.std.proofs.Common.{◌≡◌, ◌≢◌, ◌∙◌, ◌<◌, ◌-◌, ◌&&◌, ℕ, zero, suc, Bool, true, false, not, List, [], ◌∷◌, ◌++◌, length, take, drop, refl, sym, ap, eqb, arith}
use Rattle.std.specs.List.{list_all}
use Rattle.std.proofs.lemmas.Bool.{eq-eqb, eqb-true}
use Rattle.std.proofs.lemmas.List.{take_rest}
use Rattle.memchr.specs.Find.{Nowhere, Passes, is_byte}
use Rattle.mirror_index.specs.Cuts.{Lacks}

pub lacks-append : (b : ℕ) (xs ys : List ℕ) → Lacks b xs → Lacks b ys → Lacks b (xs ++ ys)
lacks-append b [] ys none other = other
lacks-append b (x ∷ xs) ys none other = (none.0, lacks-append b xs ys none.1 other)

pub lacks-take : (b : ℕ) (n : ℕ) (xs : List ℕ) → Lacks b xs → Lacks b (take n xs)
lacks-take b zero xs none = tt
lacks-take b (suc n) [] none = tt
lacks-take b (suc n) (x ∷ xs) none = (none.0, lacks-take b n xs none.1)

-- the first such byte is there
pub found_at : (b : ℕ) (xs : List ℕ) (k : ℕ) → k < length xs → Nowhere (Passes (is_byte b) xs) 0 k → Passes (is_byte b) xs k → Lacks b (take k xs) × (xs ≡ take k xs ++ b ∷ drop (suc k) xs)
found_at b [] k within before at = absurd (omega arith)
found_at b (x ∷ xs) zero within before at = (tt, ap (λ (y : ℕ). y ∷ xs) (eqb-true x b at))
found_at b (x ∷ xs) (suc k) within before at =
    let later = found_at b xs k (omega arith) (λ j low high. before (suc j) (omega arith) (omega arith)) at in
    ((λ same. before 0 (omega arith) (omega arith) (eq-eqb x b same), later.0), ap (λ (ys : List ℕ). x ∷ ys) later.1)

-- it is nowhere
pub found_nowhere : (b : ℕ) (xs : List ℕ) → Nowhere (Passes (is_byte b) xs) 0 (length xs) → Lacks b xs
found_nowhere b [] none = tt
found_nowhere b (x ∷ xs) none =
    (λ same. none 0 (omega arith) (omega arith) (eq-eqb x b same), found_nowhere b xs (λ j low high. none (suc j) (omega arith) (omega arith)))

-- a text without the byte isn't cut at it
pub not_cut : (b : ℕ) (xs front later : List ℕ) → Lacks b xs → xs ≢ front ++ b ∷ later
not_cut b [] [] later none same = cc
not_cut b [] (y ∷ front) later none same = cc
not_cut b (x ∷ xs) [] later none same = let first : x ≡ b = cc in none.0 first
not_cut b (x ∷ xs) (y ∷ front) later none same = let rest : xs ≡ front ++ b ∷ later = cc in not_cut b xs front later none.1 rest

-- there is one first such byte
pub cut_once : (b : ℕ) (one other l m : List ℕ) → Lacks b one → Lacks b other → one ++ b ∷ l ≡ other ++ b ∷ m → (one ≡ other) × (l ≡ m)
cut_once b [] [] l m none free same = let rest : l ≡ m = cc in (refl, rest)
cut_once b [] (y ∷ other) l m none free same = let first : y ≡ b = cc in absurd (free.0 first)
cut_once b (x ∷ one) [] l m none free same = let first : x ≡ b = cc in absurd (none.0 first)
cut_once b (x ∷ one) (y ∷ other) l m none free same =
    let first : x ≡ y = cc in
    let rest : one ++ b ∷ l ≡ other ++ b ∷ m = cc in
    let later = cut_once b one other l m none.1 free.1 rest in
    let both : one ≡ other = later.0 in
    let whole : x ∷ one ≡ y ∷ other = cc in
    (whole, later.1)

-- seen by a test
pub lacks_by : (b : ℕ) (xs : List ℕ) → list_all (λ x. not (eqb x b)) xs ≡ true → Lacks b xs
lacks_by b [] all = tt
lacks_by b (x ∷ xs) all = go (eqb x b) refl all (λ rest. lacks_by b xs rest)
  where
    go : (e : Bool) → eqb x b ≡ e → (not e && list_all (λ x. not (eqb x b)) xs) ≡ true → (list_all (λ x. not (eqb x b)) xs ≡ true → Lacks b xs) → Lacks b (x ∷ xs)
    go true e all later = cc
    go false e all later = (λ same. let is : eqb x b ≡ true = eq-eqb x b same in cc, later all)

-- the same, as a range of the text is written
pub found_range : (b : ℕ) (xs : List ℕ) (k n : ℕ) → n ≡ suc k → k < length xs → Nowhere (Passes (is_byte b) xs) 0 k → Passes (is_byte b) xs k
    → Lacks b (take k xs) × (xs ≡ take k xs ++ b ∷ take (length xs - n) (drop n xs))
found_range b xs k n next within before at =
    let found = found_at b xs k within before at in
    (found.0, found.1 ∙ ap (λ (m : ℕ). take k xs ++ b ∷ drop m xs) (sym next) ∙ ap (λ (ys : List ℕ). take k xs ++ b ∷ ys) (sym (take_rest xs n)))
