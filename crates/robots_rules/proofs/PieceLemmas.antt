-- Octets between two runs: where they match, and that their leftmost place is enough.
use Rattle.std.proofs.Common.{◌≡◌, ◌≢◌, ◌↔◌, ℕ, zero, suc, ◌+◌, ◌-◌, ◌≤◌, ◌<◌, ◌⊎◌, Bool, true, false, ◌&&◌, Option, Some, None, List, [], ◌∷◌, ◌++◌, length, take, drop, get_or, IsTrue, sym, refl, ap, ◌∙◌, inl, inr, arith, append_assoc, append-nil, append_assoc, length-append, drop-drop}
use Rattle.std.proofs.Math.Seq.{drop-append_seam}
use Rattle.std.proofs.lemmas.List.{drop_all}
use Rattle.std.proofs.lemmas.Bool.{and_parts, eq-eqb, eqb-true, false_from_ne_true}
use Rattle.std.specs.List.{list_all}
use Rattle.std.specs.Prelude.{IfSome}
use Rattle.part_match.specs.Cuts.{is_match, some_end, first_and}
use Rattle.part_match.proofs.Decided.{is_match-run, is_match-one, is_match-end, some_end-here, some_end-drop, some_end_cut}
use Rattle.std.specs.Str.Pattern.{HasTextAt, LacksTextAt}
use Rattle.robots_rules.specs.Patterns.{is_run, takes}

-- whether the parts match the whole text
abbrev pub matched : List ℕ → List ℕ → Bool
matched = is_match is_run takes

-- the octets have no `*` among them
abbrev pub IsPiece : List ℕ → Type 0
IsPiece [] = Unit {0}
IsPiece (x ∷ xs) = (is_run x ≡ false) × IsPiece xs

-- what is true of the same is the same
same_bool : (a b : Bool) → (a ≡ true → b ≡ true) → (b ≡ true → a ≡ true) → a ≡ b
same_bool true b f g = sym (f refl)
same_bool false true f g = g refl
same_bool false false f g = refl

-- what is before the first `*` is a piece
pub IsPiece-take : (xs : List ℕ) (n : ℕ) → n ≤ length xs → ((k : ℕ) → k < n → is_run (get_or xs k 0) ≡ true → ⊥) → IsPiece (take n xs)
IsPiece-take xs zero within none = tt
IsPiece-take [] (suc n) within none = absurd (omega arith)
IsPiece-take (x ∷ xs) (suc n) within none =
    (false_from_ne_true _ (none 0 (omega arith)), IsPiece-take xs n (omega arith) (λ k below. none (suc k) (omega arith)))

-- octets among which no `*` is found are a piece
pub IsPiece-free : (xs : List ℕ) → ((k : ℕ) → k < length xs → get_or xs k 0 ≢ 42) → IsPiece xs
IsPiece-free [] free = tt
IsPiece-free (x ∷ xs) free = (false_from_ne_true _ (λ h. free 0 (omega arith) (eqb-true x 42 h)), IsPiece-free xs (λ k below. free (suc k) (omega arith)))

-- ---- a piece at the front

pub matched-behind : (piece ps rest : List ℕ) → IsPiece piece → matched (piece ++ ps) (piece ++ rest) ≡ matched ps rest
unfolding first_and
matched-behind [] ps rest plain = refl
matched-behind (x ∷ piece) ps rest plain =
    is_match-one is_run takes x (piece ++ ps) (x ∷ (piece ++ rest)) plain.0
    ∙ ap (λ b. b && matched (piece ++ ps) (piece ++ rest)) (eq-eqb x x refl)
    ∙ matched-behind piece ps rest plain.1

pub matched-front : (piece ps text : List ℕ) → IsPiece piece → matched (piece ++ ps) text ≡ true → (rest : List ℕ) × (text ≡ piece ++ rest)
unfolding first_and
matched-front [] ps text plain h = (text, refl)
matched-front (x ∷ piece) ps [] plain h = let stuck = sym (is_match-one is_run takes x (piece ++ ps) [] plain.0) ∙ h in cc
matched-front (x ∷ piece) ps (y ∷ text) plain h =
    let both = and_parts _ _ (sym (is_match-one is_run takes x (piece ++ ps) (y ∷ text) plain.0) ∙ h) in
    let later = matched-front piece ps text plain.1 both.1 in
    (later.0, ap (λ z. z ∷ text) (eqb-true y x both.0) ∙ ap (λ xs. x ∷ xs) later.1)

-- ---- a piece in the middle

-- if some end of the text matches, the piece is at a place of it after which some end matches the rest
pub place_of : (piece ps text : List ℕ) → IsPiece piece → some_end (matched (piece ++ 42 ∷ ps)) text ≡ true
    → (j : ℕ) × (rest : List ℕ) × (j ≤ length text) × (drop j text ≡ piece ++ rest) × (some_end (matched ps) rest ≡ true)
place_of piece ps text plain h =
    let cut = some_end_cut (matched (piece ++ 42 ∷ ps)) text h in
    let behind = matched-front piece (42 ∷ ps) cut.1 plain cut.3 in
    let at : drop (length (cut.0)) text ≡ piece ++ behind.0 = ap (drop (length (cut.0))) (sym cut.2) ∙ drop-append_seam cut.0 cut.1 ∙ behind.1 in
    let later : some_end (matched ps) behind.0 ≡ true =
    sym (matched-behind piece (42 ∷ ps) behind.0 plain ∙ is_match-run is_run takes 42 ps behind.0 refl) ∙ ap (matched (piece ++ 42 ∷ ps)) (sym behind.1) ∙ cut.3 in
    (length (cut.0), behind.0, omega (arith, ap length cut.2, length-append cut.0 cut.1), at, later)

-- a piece that is at no place matches no end
pub some_end-nowhere : (piece ps text : List ℕ) → IsPiece piece → ((i : ℕ) → i ≤ length text → LacksTextAt piece text i) → some_end (matched (piece ++ 42 ∷ ps)) text ≡ false
some_end-nowhere piece ps text plain none =
    false_from_ne_true _ (λ h. let place = place_of piece ps text plain h in none place.0 place.2 place.1 place.3)

-- a piece may as well be at its leftmost place: an end after any other place of it is an end after this one
pub some_end-leftmost : (piece ps text : List ℕ) (i k : ℕ) → IsPiece piece → ((j : ℕ) → j < i → LacksTextAt piece text j) → HasTextAt piece text i k
    → some_end (matched (piece ++ 42 ∷ ps)) text ≡ some_end (matched ps) (drop k text)
some_end-leftmost piece ps text i k plain before here =
    same_bool _ _
    (λ h.
    let place = place_of piece ps text plain h in
    let j = place.0 in
    let ordered : i ≤ j = order i j (λ less. before j less place.1 place.3) in
    let farther : drop (j - i) (drop k text) ≡ place.1 =
    drop-drop (j - i) k text ∙ ap (λ n. drop n text) (let e : k + (j - i) ≡ j + length piece = omega (arith, here.ends) in e)
    ∙ sym (drop-drop (length piece) j text) ∙ ap (drop (length piece)) place.3 ∙ drop-append_seam piece place.1 in
    some_end-drop (matched ps) (j - i) (drop k text) (ap (some_end (matched ps)) farther ∙ place.4))
    (λ h.
    some_end-drop (matched (piece ++ 42 ∷ ps)) i text
    (some_end-here (matched (piece ++ 42 ∷ ps)) (drop i text)
    (ap (matched (piece ++ 42 ∷ ps)) here.split ∙ matched-behind piece (42 ∷ ps) (drop k text) plain ∙ is_match-run is_run takes 42 ps (drop k text) refl ∙ h)))
  where
    order : (i j : ℕ) → (j < i → ⊥) → i ≤ j
    order i j never = omega arith

-- ---- a piece alone

matched-nil : (text : List ℕ) → matched [] text ≡ true → text ≡ []
unfolding is_match
matched-nil [] h = refl
matched-nil (x ∷ text) h = cc

nil-matched : matched [] [] ≡ true
unfolding is_match
nil-matched = refl

-- a piece matches itself alone
pub matched-alone : (piece text : List ℕ) → IsPiece piece → IsTrue (matched piece text) ↔ (piece ≡ text)
matched-alone piece text plain = (
  λ h.
      let open_end : matched (piece ++ []) text ≡ true = ap (λ ps. matched ps text) (append-nil piece) ∙ h in
      let behind = matched-front piece [] text plain open_end in
      let none : behind.0 ≡ [] = matched-nil behind.0 (sym (matched-behind piece [] behind.0 plain) ∙ ap (matched (piece ++ [])) (sym behind.1) ∙ open_end) in
      sym (behind.1 ∙ ap (λ xs. piece ++ xs) none ∙ append-nil piece),
  λ is.
      ap (matched piece) (sym is) ∙ ap (λ ps. matched ps piece) (sym (append-nil piece)) ∙ ap (matched (piece ++ [])) (sym (append-nil piece)) ∙ matched-behind piece [] [] plain ∙ nil-matched,
)

pub same_alone : (piece text : List ℕ) (b : Bool) → IsPiece piece → IsTrue b ↔ (piece ≡ text) → b ≡ matched piece text
same_alone piece text b plain means = same_bool _ _ (λ e. (matched-alone piece text plain).1 (means.0 e)) (λ e. means.1 ((matched-alone piece text plain).0 e))

-- a last piece matches some end if it is the end
pub same_end : (piece text : List ℕ) (b : Bool) → IsPiece piece → (b ≡ true → text ≡ take (length text - length piece) text ++ piece) → ((front : List ℕ) → text ≡ front ++ piece → b ≡ true) → b ≡ some_end (matched piece) text
same_end piece text b plain is from =
    same_bool _ _
    (λ e.
    let front = take (length text - length piece) text in
    let back : drop (length front) text ≡ piece = ap (drop (length front)) (is e) ∙ drop-append_seam front piece in
    some_end-drop (matched piece) (length front) text
    (some_end-here (matched piece) (drop (length front) text) (ap (matched piece) back ∙ (matched-alone piece piece plain).1 refl)))
    (λ h.
    let cut = some_end_cut (matched piece) text h in
    from cut.0 (sym (ap (λ xs. cut.0 ++ xs) ((matched-alone piece cut.1 plain).0 cut.3) ∙ cut.2)))

-- ---- a front of a path, and what follows it

-- parts match the text exactly if those after a first piece match what follows it there
pub piece_behind : (piece others text rest : List ℕ) → IsPiece piece → text ≡ piece ++ rest → matched (piece ++ others) text ≡ matched others rest
piece_behind piece others text rest plain is = ap (matched (piece ++ others)) is ∙ matched-behind piece others rest plain

-- parts match no text at whose front their first piece is missing
pub piece_absent : (piece others text : List ℕ) → IsPiece piece → ((rest : List ℕ) → text ≡ piece ++ rest → ⊥) → matched (piece ++ others) text ≡ false
piece_absent piece others text plain never = false_from_ne_true _ (λ h. let found = matched-front piece others text plain h in never found.0 found.1)

-- a piece and a front of which neither begins the other: nothing with this front begins with the piece
pub piece_missing : (piece others front rest : List ℕ) → IsPiece piece → ((more : List ℕ) → front ≡ piece ++ more → ⊥) → ((more : List ℕ) → piece ≡ front ++ more → ⊥)
    → matched (piece ++ others) (front ++ rest) ≡ false
piece_missing piece others front rest plain longer shorter =
    false_from_ne_true _ (λ h.
    let found = matched-front piece others (front ++ rest) plain h in
    let both = fronts_agree front piece rest found.0 found.1 in
    elim both [ inl more ↦ longer more.0 more.1 | inr more ↦ shorter more.0 more.1 ])
  where
    fronts_agree : (xs ys us vs : List ℕ) → xs ++ us ≡ ys ++ vs → ((more : List ℕ) × (xs ≡ ys ++ more)) ⊎ ((more : List ℕ) × (ys ≡ xs ++ more))
    fronts_agree [] ys us vs e = inr (ys, refl)
    fronts_agree (x ∷ xs) [] us vs e = inl (x ∷ xs, refl)
    fronts_agree (x ∷ xs) (y ∷ ys) us vs e =
        let first : x ≡ y = cc in
        let others : xs ++ us ≡ ys ++ vs = cc in
        elim (fronts_agree xs ys us vs others) [
          | inl more ↦ inl (more.0, ap (λ z. z ∷ xs) first ∙ ap (λ zs. y ∷ zs) more.1)
          | inr more ↦ inr (more.0, ap (λ z. z ∷ ys) (sym first) ∙ ap (λ zs. x ∷ zs) more.1)
        ]

-- no parts match no text that has octets
pub none_left : (front rest : List ℕ) → (length front ≡ 0 → ⊥) → matched [] (front ++ rest) ≡ false
none_left front rest some =
    false_from_ne_true _ (λ h. some (omega (arith, ap length (matched-nil (front ++ rest) h), length-append front rest)))

-- runs match every text
pub runs_take : (parts text : List ℕ) → (length parts ≡ 0 → ⊥) → list_all is_run parts ≡ true → matched parts text ≡ true
runs_take [] text some runs = absurd (some refl)
runs_take (run ∷ parts) text some runs =
    let both = and_parts _ _ runs in
    is_match-run is_run takes run parts text both.0
    ∙ some_end-drop (matched parts) (length text) text
    (some_end-here (matched parts) (drop (length text) text) (ap (matched parts) (drop_all (length text) text (omega arith)) ∙ is_match-end is_run takes parts ∙ both.1))

-- what matches after a first piece matches the whole
pub behind_if : (answer : Option Bool) (parts piece others front behind : List ℕ) → IsPiece piece → parts ≡ piece ++ others → front ≡ piece ++ behind
    → IfSome answer (λ b. (rest : List ℕ) → b ≡ matched others (behind ++ rest)) → IfSome answer (λ b. (rest : List ℕ) → b ≡ matched parts (front ++ rest))
behind_if None parts piece others front behind plain whole is h = tt
behind_if (Some b) parts piece others front behind plain whole is h =
    λ rest. h rest
    ∙ sym
    (ap (λ ps. matched ps (front ++ rest)) whole
    ∙ piece_behind piece others (front ++ rest) (behind ++ rest) plain (ap (λ xs. xs ++ rest) is ∙ append_assoc piece behind rest))

pub nil_is : (xs : List ℕ) → length xs ≡ 0 → xs ≡ []
nil_is [] none = refl
nil_is (x ∷ xs) none = absurd (omega arith)
