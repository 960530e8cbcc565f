-- Lines with a NUL between them, from the left.
use Rattle.std.proofs.Common.{zero, suc, ◌≡◌, ◌∙◌, ℕ, ◌+◌, ◌<◌, ◌==◌, Bool, true, false, not, List, [], ◌∷◌, ◌++◌, cond, take, drop, length, Option, Some, None, option_map, refl, sym, ap, subst, ⊎_elim, arith, append-nil, append_assoc, Bor, MatchOption, if◌then◌else◌}
use Rattle.std.proofs.lemmas.Bool.{cases_Bool}
use Rattle.std.specs.List.{find, slice_split, onto_first, position_or_len}
use Rattle.std.specs.Option.{option_and_then}
use Rattle.requests.specs.Fields.{bad_line, is_bad_line, is_nul, read_all, read_before, read_lines}
use Rattle.requests.specs.Lines.{Field, Text, read_line}

-- what was read, and then the rest
abbrev pub behind : List Field → Option (List Field) → Option (List Field)
behind front rest = option_map (λ xs. front ++ xs) rest

behind-more : (front : List Field) (x : Field) (rest : Option (List Field)) → behind (front ++ x ∷ []) rest ≡ behind front (option_map (λ xs. x ∷ xs) rest)
behind-more front x None = refl
behind-more front x (Some xs) = ap Some (append_assoc front (x ∷ []) xs)

-- a list without a mark
pub split-whole : (mark : ℕ → Bool) (xs : List ℕ) → position_or_len mark xs ≡ length xs → slice_split mark xs ≡ xs ∷ []
split-whole mark [] none = refl
split-whole mark (x ∷ xs) none =
    ⊎_elim
    (λ yes.
    let bad : 0 ≡ suc (length xs) = subst (λ b. cond (not b) (1 + position_or_len mark xs) 0 ≡ suc (length xs)) yes none in
    absurd (omega arith))
    (λ no.
    let later : 1 + position_or_len mark xs ≡ suc (length xs) = subst (λ b. cond (not b) (1 + position_or_len mark xs) 0 ≡ suc (length xs)) no none in
    ap (λ b. cond b ([] ∷ slice_split mark xs) (onto_first x (slice_split mark xs))) no
    ∙ ap (onto_first x) (split-whole mark xs (omega arith)))
    (cases_Bool (mark x))

-- a line that says a field, before others
before-said : (first : Text) (x : Field) (others : Option (List Field)) → (length first == 0) ≡ false → read_line first ≡ Some x → read_before first others ≡ option_map (λ xs. x ∷ xs) others
before-said first x others full is = rw (full, is) refl

before-bad : (first : Text) (others : Option (List Field)) → (length first == 0) ≡ false → read_line first ≡ None → read_before first others ≡ None
before-bad first others full bad = rw (full, bad) refl

before-empty : (first : Text) (others : Option (List Field)) → (length first == 0) ≡ true → read_before first others ≡ others
before-empty first others empty = rw empty refl

pub lines-more : (front : List Field) (lines first later : Text) (x : Field) → slice_split is_nul lines ≡ first ∷ slice_split is_nul later → (length first == 0) ≡ false → read_line first ≡ Some x
    → behind (front ++ x ∷ []) (read_lines later) ≡ behind front (read_lines lines)
unfolding read_lines
lines-more front lines first later x cut full is =
    behind-more front x (read_all (slice_split is_nul later))
    ∙ ap (behind front) (sym (ap read_all cut ∙ before-said first x (read_all (slice_split is_nul later)) full is))

pub lines-empty : (lines first later : Text) → slice_split is_nul lines ≡ first ∷ slice_split is_nul later → (length first == 0) ≡ true → read_lines later ≡ read_lines lines
unfolding read_lines
lines-empty lines first later cut empty = sym (ap read_all cut ∙ before-empty first (read_all (slice_split is_nul later)) empty)

pub lines-bad : (lines first : Text) (others : List Text) → slice_split is_nul lines ≡ first ∷ others → (length first == 0) ≡ false → read_line first ≡ None → read_lines lines ≡ None
unfolding read_lines
lines-bad lines first others cut full bad = ap read_all cut ∙ before-bad first (read_all others) full bad

pub lines-last : (front : List Field) (lines first : Text) (x : Field) → slice_split is_nul lines ≡ first ∷ [] → (length first == 0) ≡ false → read_line first ≡ Some x → behind front (read_lines lines) ≡ Some (front ++ x ∷ [])
unfolding read_lines
lines-last front lines first x cut full is = ap (behind front) (ap read_all cut ∙ before-said first x (Some []) full is)

pub lines-end : (front : List Field) (lines first : Text) → slice_split is_nul lines ≡ first ∷ [] → (length first == 0) ≡ true → behind front (read_lines lines) ≡ Some front
unfolding read_lines
lines-end front lines first cut empty = ap (behind front) (ap read_all cut ∙ before-empty first (Some []) empty) ∙ ap Some (append-nil front)

-- the first line is bad, or isn't
pub bad-first : (lines first : Text) (others : List Text) → slice_split is_nul lines ≡ first ∷ others → is_bad_line first ≡ true → bad_line lines ≡ Some first
unfolding bad_line
bad-first lines first others cut bad = ap (find is_bad_line) cut ∙ rw bad refl

pub bad-later : (lines first later : Text) → slice_split is_nul lines ≡ first ∷ slice_split is_nul later → is_bad_line first ≡ false → bad_line later ≡ bad_line lines
unfolding bad_line
bad-later lines first later cut good = sym (ap (find is_bad_line) cut ∙ rw good refl)

pub bad-none : (lines first : Text) → slice_split is_nul lines ≡ first ∷ [] → is_bad_line first ≡ false → bad_line lines ≡ None
unfolding bad_line
bad-none lines first cut good = ap (find is_bad_line) cut ∙ rw good refl

-- lines begin with the first, whatever follows
pub some_cut : (parts : List Text) (first : Text) (short : Text → Type 0) (o : Option (Bor (List ℕ))) → MatchOption o (parts ≡ first ∷ []) (λ r. (parts ≡ first ∷ slice_split is_nul r.now) × short r.now) → (others : List Text) × (parts ≡ first ∷ others)
some_cut parts first short None cut = ([], cut)
some_cut parts first short (Some r) cut = (slice_split is_nul r.now, cut.0)

pub behind-nothing : (rest : Option (List Field)) → behind [] rest ≡ rest
behind-nothing None = refl
behind-nothing (Some xs) = refl
