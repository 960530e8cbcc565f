-- Lists of elements, from the left.
use Rattle.std.proofs.Common.{zero, suc, ◌≡◌, ◌∙◌, ℕ, ◌+◌, ◌<◌, ◌==◌, Bool, true, false, not, List, [], ◌∷◌, ◌++◌, cond, take, drop, length, filter, Option, Some, None, option_map, refl, sym, ap, subst, ⊎_elim, arith, append-nil, Bor, MatchOption}
use Rattle.std.proofs.lemmas.Bool.{cases_Bool}
use Rattle.std.specs.List.{slice_split, onto_first, position_or_len}
use Rattle.std.specs.Option.{option_and_then}
use Rattle.follow_filters.specs.Lists.{is_comma, elements_in, read_all, read_list}
use Rattle.follow_filters.proofs.ClassLemmas.{behind, behind-more}

-- a list with a mark at its place n
pub split-at : (mark : ℕ → Bool) (xs : List ℕ) (n : ℕ) → position_or_len mark xs ≡ n → n < length xs → slice_split mark xs ≡ take n xs ∷ slice_split mark (drop (suc n) xs)
split-at mark [] n at below = absurd (omega arith)
split-at mark (x ∷ xs) zero at below =
    ⊎_elim
    (λ yes. ap (λ b. cond b ([] ∷ slice_split mark xs) (onto_first x (slice_split mark xs))) yes)
    (λ no.
    let bad : 1 + position_or_len mark xs ≡ 0 = subst (λ b. cond (not b) (1 + position_or_len mark xs) 0 ≡ 0) no at in
    absurd (omega arith))
    (cases_Bool (mark x))
split-at mark (x ∷ xs) (suc m) at below =
    ⊎_elim
    (λ yes.
    let bad : 0 ≡ suc m = subst (λ b. cond (not b) (1 + position_or_len mark xs) 0 ≡ suc m) yes at in
    absurd (omega arith))
    (λ no.
    let later : 1 + position_or_len mark xs ≡ suc m = subst (λ b. cond (not b) (1 + position_or_len mark xs) 0 ≡ suc m) no at in
    ap (λ b. cond b ([] ∷ slice_split mark xs) (onto_first x (slice_split mark xs))) no
    ∙ ap (onto_first x) (split-at mark xs m (omega arith) (omega arith)))
    (cases_Bool (mark x))

-- a list without a mark
pub split-whole : (mark : ℕ → Bool) (xs : List ℕ) → position_or_len mark xs ≡ length xs → slice_split mark xs ≡ xs ∷ []
split-whole mark [] none = refl
split-whole mark (x ∷ xs) none =
    ⊎_elim
    (λ yes.
    let bad : 0 ≡ suc (length xs) = subst (λ b. cond (not b) (1 + position_or_len mark xs) 0 ≡ suc (length xs)) yes none in
    absurd (omega arith))
    (λ no.
    let later : 1 + position_or_len mark xs ≡ suc (length xs) = subst (λ b. cond (not b) (1 + position_or_len mark xs) 0 ≡ suc (length xs)) no none in
    ap (λ b. cond b ([] ∷ slice_split mark xs) (onto_first x (slice_split mark xs))) no
    ∙ ap (onto_first x) (split-whole mark xs (omega arith)))
    (cases_Bool (mark x))

-- an element is read, or is empty, and the elements after it
pub elements_in-more : {X : Type 0} (read : List ℕ → Option X) (front : List X) (list first rest : List ℕ) (x : X) → slice_split is_comma list ≡ first ∷ slice_split is_comma rest → (length first == 0) ≡ false → read first ≡ Some x → behind (front ++ x ∷ []) (read_list read rest) ≡ behind front (read_list read list)
unfolding read_list
elements_in-more read front list first rest x cut full is =
    behind-more front x (read_all read (elements_in rest))
    ∙ ap (λ r. behind front (option_and_then (λ y. option_map (λ ys. y ∷ ys) (read_all read (elements_in rest))) r)) (sym is)
    ∙ ap (λ b. behind front (read_all read (cond (not b) (first ∷ elements_in rest) (elements_in rest)))) (sym full)
    ∙ ap (λ parts. behind front (read_all read (filter (λ e. not (length e == 0)) parts))) (sym cut)

pub elements_in-empty : {X : Type 0} (read : List ℕ → Option X) (list first rest : List ℕ) → slice_split is_comma list ≡ first ∷ slice_split is_comma rest → (length first == 0) ≡ true → read_list read rest ≡ read_list read list
unfolding read_list
elements_in-empty read list first rest cut empty =
    ap (λ b. read_all read (cond (not b) (first ∷ elements_in rest) (elements_in rest))) (sym empty)
    ∙ ap (λ parts. read_all read (filter (λ e. not (length e == 0)) parts)) (sym cut)

-- an element that is bad
pub elements_in-bad : {X : Type 0} (read : List ℕ → Option X) (list first : List ℕ) (others : List (List ℕ)) → slice_split is_comma list ≡ first ∷ others → (length first == 0) ≡ false → read first ≡ None → read_list read list ≡ None
unfolding read_list
elements_in-bad read list first others cut full bad =
    ap (λ parts. read_all read (filter (λ e. not (length e == 0)) parts)) cut
    ∙ ap (λ b. read_all read (cond (not b) (first ∷ filter (λ e. not (length e == 0)) others) (filter (λ e. not (length e == 0)) others))) full
    ∙ ap (λ r. option_and_then (λ y. option_map (λ ys. y ∷ ys) (read_all read (filter (λ e. not (length e == 0)) others))) r) bad

-- the last element
pub elements_in-last : {X : Type 0} (read : List ℕ → Option X) (front : List X) (list first : List ℕ) (x : X) → slice_split is_comma list ≡ first ∷ [] → (length first == 0) ≡ false → read first ≡ Some x → behind front (read_list read list) ≡ Some (front ++ x ∷ [])
unfolding read_list
elements_in-last read front list first x cut full is =
    ap (λ parts. behind front (read_all read (filter (λ e. not (length e == 0)) parts))) cut
    ∙ ap (λ b. behind front (read_all read (cond (not b) (first ∷ []) []))) full
    ∙ ap (λ r. behind front (option_and_then (λ y. option_map (λ ys. y ∷ ys) (Some [])) r)) is

pub elements_in-end : {X : Type 0} (read : List ℕ → Option X) (front : List X) (list first : List ℕ) → slice_split is_comma list ≡ first ∷ [] → (length first == 0) ≡ true → behind front (read_list read list) ≡ Some front
unfolding read_list
elements_in-end read front list first cut empty =
    ap (λ parts. behind front (read_all read (filter (λ e. not (length e == 0)) parts))) cut
    ∙ ap (λ b. behind front (read_all read (cond (not b) (first ∷ []) []))) empty
    ∙ ap Some (append-nil front)

-- a list begins with its first element, whatever follows
pub some_cut : (parts : List (List ℕ)) (first : List ℕ) (short : List ℕ → Type 0) (o : Option (Bor (List ℕ))) → MatchOption o (parts ≡ first ∷ []) (λ r. (parts ≡ first ∷ slice_split is_comma r.now) × short r.now) → (others : List (List ℕ)) × (parts ≡ first ∷ others)
some_cut parts first short None cut = ([], cut)
some_cut parts first short (Some r) cut = (slice_split is_comma r.now, cut.0)
