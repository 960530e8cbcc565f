-- Cuts of a text, decided from the front.
use Rattle.std.proofs.Common.{zero, suc, ◌≡◌, ◌↔◌, ℕ, ◌+◌, ◌-◌, ◌*◌, ◌≤◌, ◌<◌, Bool, true, false, cond, ◌&&◌, ◌||◌, List, [], ◌∷◌, ◌++◌, take, drop, length, IsTrue, sym, refl, ap, ◌∙◌, subst, inl, inr, arith, length-drop, get_or, not, Option, Some, None}
use Rattle.std.proofs.Math.Nat.{mul-le-mul_right}
use Rattle.std.proofs.lemmas.Bool.{and_parts, and_from, or_left, or_right, or_cases, cases_Bool, both_ways, false_from_ne_true}
use Rattle.std.proofs.lemmas.List.{drop-drop, drop_more, drop_all, take_more, get_or-drop, take-append-drop, length-take-le}
use Rattle.std.proofs.lemmas.List.Sums.{sum_by-cons}
use Rattle.std.specs.List.{AllZip, concat, list_all}
use Rattle.part_match.specs.Cuts.{MatchesPiece, Matches, some_end, first_and, is_match}
use Rattle.part_match.specs.inner.Cuts.{least_octets}

-- ---- tests of the ends of a text

-- what follows from the left side adds nothing to it
or_absorbs : (a b : Bool) → (b ≡ true → a ≡ true) → (a || b) ≡ a
or_absorbs true b h = refl
or_absorbs false true h = sym (h refl)
or_absorbs false false h = refl

pub some_end-here : (f : List ℕ → Bool) (xs : List ℕ) → f xs ≡ true → some_end f xs ≡ true
unfolding some_end
some_end-here f [] h = h
some_end-here f (x ∷ xs) h = or_left _ _ h

pub some_end-next : (f : List ℕ → Bool) (xs : List ℕ) → some_end f xs ≡ (f xs || some_end f (drop 1 xs))
unfolding some_end
some_end-next f [] = sym (or_absorbs (f []) (f []) (λ h. h))
some_end-next f (x ∷ xs) = refl

-- an end of an end is an end
pub some_end-drop : (f : List ℕ → Bool) (k : ℕ) (xs : List ℕ) → some_end f (drop k xs) ≡ true → some_end f xs ≡ true
unfolding some_end
some_end-drop f zero xs h = h
some_end-drop f (suc k) [] h = h
some_end-drop f (suc k) (x ∷ xs) h = or_right _ _ (some_end-drop f k xs h)

pub some_end-twice : (f : List ℕ → Bool) (xs : List ℕ) → some_end (some_end f) xs ≡ true → some_end f xs ≡ true
unfolding some_end
some_end-twice f [] h = h
some_end-twice f (x ∷ xs) h = elim (or_cases _ _ h) [ inl here ↦ here | inr later ↦ or_right _ _ (some_end-twice f xs later) ]

pub some_end-once : (f : List ℕ → Bool) (xs : List ℕ) → some_end (some_end f) xs ≡ some_end f xs
unfolding some_end
some_end-once f [] = refl
some_end-once f (x ∷ xs) = or_absorbs (some_end f (x ∷ xs)) (some_end (some_end f) xs) (λ h. or_right _ _ (some_end-twice f xs h))

-- ---- the parts from the front

pub is_match-run : {P : Type 0} (r : P → Bool) (t : P → ℕ → Bool) (p : P) (ps : List P) (text : List ℕ) → r p ≡ true → is_match r t (p ∷ ps) text ≡ some_end (is_match r t ps) text
unfolding is_match
is_match-run r t p ps text h = rw h refl

pub is_match-one : {P : Type 0} (r : P → Bool) (t : P → ℕ → Bool) (p : P) (ps : List P) (text : List ℕ) → r p ≡ false → is_match r t (p ∷ ps) text ≡ first_and (t p) (is_match r t ps) text
unfolding is_match
is_match-one r t p ps text h = rw h refl

pub is_match-end : {P : Type 0} (r : P → Bool) (t : P → ℕ → Bool) (ps : List P) → is_match r t ps [] ≡ list_all r ps
unfolding is_match some_end first_and
is_match-end r t [] = refl
is_match-end r t (p ∷ ps) = let P : Bool → Type 0 = λ b. cond b (is_match r t ps []) false ≡ (b && list_all r ps) in
    let both : (b : Bool) → P b = elim [ true ↦ is_match-end r t ps | false ↦ refl ] in both (r p)

-- ---- cuts

some_end-front : (f : List ℕ → Bool) (front back : List ℕ) → some_end f back ≡ true → some_end f (front ++ back) ≡ true
unfolding some_end
some_end-front f [] back h = h
some_end-front f (x ∷ front) back h = or_right _ _ (some_end-front f front back h)

pub some_end_cut : (f : List ℕ → Bool) (xs : List ℕ) → some_end f xs ≡ true → (front : List ℕ) × (back : List ℕ) × (front ++ back ≡ xs) × (f back ≡ true)
unfolding some_end
some_end_cut f [] h = ([], [], refl, h)
some_end_cut f (x ∷ xs) h =
    elim (or_cases _ _ h) [
      | inl here ↦ ([], x ∷ xs, refl, here)
      | inr later ↦ (let c = some_end_cut f xs later in (x ∷ c.0, c.1, ap (λ t. x ∷ t) c.2, c.3))
    ]

is_match_from_cut : {P : Type 0} (r : P → Bool) (t : P → ℕ → Bool) (ps : List P) (pieces : List (List ℕ)) → AllZip (MatchesPiece r t) ps pieces → is_match r t ps (concat pieces) ≡ true
unfolding is_match first_and
is_match_from_cut r t [] [] h = refl
is_match_from_cut r t [] (y ∷ ys) h = absurd h
is_match_from_cut r t (p ∷ ps) [] h = absurd h
is_match_from_cut r t (p ∷ ps) (y ∷ ys) (here, later) =
    let rest = is_match_from_cut r t ps ys later in
    elim (cases_Bool (r p)) [
      | inl run ↦ is_match-run r t p ps (y ++ concat ys) run ∙ some_end-front (is_match r t ps) y (concat ys) (some_end-here (is_match r t ps) (concat ys) rest)
      | inr one ↦
          is_match-one r t p ps (y ++ concat ys) one
          ∙ elim here [
            | inl run ↦ absurd (both_ways (r p) one run)
            | inr o ↦ ap (λ piece. first_and (t p) (is_match r t ps) (piece ++ concat ys)) o.1 ∙ and_from _ _ o.2 rest
          ]
    ]

cut_from_is_match : {P : Type 0} (r : P → Bool) (t : P → ℕ → Bool) (ps : List P) (text : List ℕ) → is_match r t ps text ≡ true → Matches r t ps text
unfolding is_match first_and
cut_from_is_match r t [] [] h = ([], refl, tt)
cut_from_is_match r t [] (x ∷ xs) h = cc
cut_from_is_match r t (p ∷ ps) text h =
    elim (cases_Bool (r p)) [
      | inl run ↦
          (let c = some_end_cut (is_match r t ps) text (sym (is_match-run r t p ps text run) ∙ h) in
          let rest = cut_from_is_match r t ps c.1 c.3 in
          (c.0 ∷ rest.0, ap (λ back. c.0 ++ back) rest.1 ∙ c.2, (inl run, rest.2)))
      | inr one ↦ first_cut r t p ps text (cut_from_is_match r t ps) (sym (is_match-one r t p ps text one) ∙ h)
    ]
  where
    first_cut : {P : Type 0} (r : P → Bool) (t : P → ℕ → Bool) (p : P) (ps : List P) (text : List ℕ) → ((rest : List ℕ) → is_match r t ps rest ≡ true → Matches r t ps rest) → first_and (t p) (is_match r t ps) text ≡ true → Matches r t (p ∷ ps) text
    first_cut r t p ps [] cut h = cc
    first_cut r t p ps (x ∷ xs) cut h =
        let both = and_parts _ _ h in
        let rest = cut xs both.1 in
        ((x ∷ []) ∷ rest.0, ap (λ back. x ∷ back) rest.1, (inr (x, refl, both.0), rest.2))

-- the value is true exactly of the texts that can be cut so
pub is_match-cuts : {P : Type 0} (r : P → Bool) (t : P → ℕ → Bool) (ps : List P) (text : List ℕ) → IsTrue (is_match r t ps text) ↔ Matches r t ps text
is_match-cuts r t ps text =
    (cut_from_is_match r t ps text, λ (pieces, joined, each). subst (λ xs. is_match r t ps xs ≡ true) joined (is_match_from_cut r t ps pieces each))

pub cuts_by_value : {P : Type 0} (r : P → Bool) (t : P → ℕ → Bool) (parts : List P) (text : List ℕ) (b : Bool) → b ≡ is_match r t parts text → IsTrue b ↔ Matches r t parts text
cuts_by_value r t parts text b h = (λ e. (is_match-cuts r t parts text).0 (sym h ∙ e), λ m. h ∙ (is_match-cuts r t parts text).1 m)

-- ---- going back to the last run

-- parts that take one octet each
abbrev pub Singles : {P : Type 0} → (P → Bool) → List P → Type 0
Singles r [] = Unit {0}
Singles r (p ∷ ps) = (r p ≡ false) × Singles r ps

Singles-push : {P : Type 0} (r : P → Bool) (ps : List P) (p : P) → Singles r ps → r p ≡ false → Singles r (ps ++ p ∷ [])
Singles-push r [] p s one = (one, tt)
Singles-push r (q ∷ ps) p s one = (s.0, Singles-push r ps p s.1 one)

is_match_singles : {P : Type 0} (r : P → Bool) (t : P → ℕ → Bool) (seg ps : List P) (text : List ℕ) → Singles r seg → is_match r t (seg ++ ps) text ≡ true → is_match r t ps (drop (length seg) text) ≡ true
unfolding first_and
is_match_singles r t [] ps text s h = h
is_match_singles r t (q ∷ seg) ps [] s h = let stuck = sym (is_match-one r t q (seg ++ ps) [] s.0) ∙ h in cc
is_match_singles r t (q ∷ seg) ps (x ∷ text) s h =
    is_match_singles r t seg ps text s.1 (and_parts _ _ (sym (is_match-one r t q (seg ++ ps) (x ∷ text) s.0) ∙ h)).1

drop_behind : {A : Type 0} (n : ℕ) (x : A) (xs : List A) → drop 1 (drop n (x ∷ xs)) ≡ drop n xs
drop_behind n x xs = drop-drop 1 n (x ∷ xs) ∙ ap (λ k. drop k (x ∷ xs)) (let e : n + 1 ≡ suc n = omega arith in e)

-- if the parts up to the next run match later, what follows them matches later still
absorb : {P : Type 0} (r : P → Bool) (t : P → ℕ → Bool) (seg ps : List P) (text : List ℕ) → Singles r seg → some_end (is_match r t (seg ++ ps)) text ≡ true → some_end (is_match r t ps) (drop (length seg) text) ≡ true
unfolding some_end
absorb r t seg ps [] s h = some_end-here (is_match r t ps) (drop (length seg) []) (is_match_singles r t seg ps [] s h)
absorb r t seg ps (x ∷ text) s h =
    elim (or_cases _ _ h) [
      | inl here ↦ some_end-here (is_match r t ps) (drop (length seg) (x ∷ text)) (is_match_singles r t seg ps (x ∷ text) s here)
      | inr later ↦
          some_end-drop (is_match r t ps) 1 (drop (length seg) (x ∷ text))
          (subst (λ xs. some_end (is_match r t ps) xs ≡ true) (sym (drop_behind (length seg) x text)) (absorb r t seg ps text s later))
    ]

-- ---- the state of the walk

-- whether the rest can match from a later place after the last run; `octets` says what is left there
abbrev pub retry : {P T : Type 0} → (P → Bool) → (P → ℕ → Bool) → List P → (T → List ℕ) → Option (ℕ × T) → Bool
retry r t parts octets None = false
retry r t parts octets (Some back) = some_end (is_match r t (drop back.0 parts)) (drop 1 (octets back.1))

-- since the last run, `n` parts have taken one octet each
abbrev pub Since : {P T : Type 0} → (P → Bool) → List P → (T → List ℕ) → ℕ → List ℕ → Option (ℕ × T) → Type 0
Since r parts octets at rest None = Unit {0}
Since r parts octets at rest (Some back) =
    (n : ℕ) × (at ≡ back.0 + n) × Singles r (take n (drop back.0 parts)) × (rest ≡ drop n (octets back.1))

-- a later place after the last run is one after the parts reached
later : {P T : Type 0} (r : P → Bool) (t : P → ℕ → Bool) (parts : List P) (octets : T → List ℕ) (at : ℕ) (rest : List ℕ) (back : Option (ℕ × T)) → at ≤ length parts → Since r parts octets at rest back → retry r t parts octets back ≡ true → some_end (is_match r t (drop at parts)) (drop 1 rest) ≡ true
later r t parts octets at rest None within since h = cc
later {P} r t parts octets at rest (Some back) within (n, reached, singles, left) h =
    let start = back.0 in
    let tried = octets back.1 in
    let seg = take n (drop start parts) in
    let long : length seg ≡ n = length-take-le n (drop start parts) (simp length-drop (omega arith)) in
    let whole : seg ++ drop at parts ≡ drop start parts = ap (λ ps. seg ++ ps) (ap (λ k. drop k parts) reached ∙ sym (drop-drop n start parts)) ∙ take-append-drop n (drop start parts) in
    let there = absorb r t seg (drop at parts) (drop 1 tried) singles (subst (λ ps. some_end (is_match r t ps) (drop 1 tried) ≡ true) (sym whole) h) in
    let same : drop (length seg) (drop 1 tried) ≡ drop 1 rest =
    ap (λ k. drop k (drop 1 tried)) long ∙ drop-drop n 1 tried ∙ ap (λ k. drop k tried) (let e : 1 + n ≡ n + 1 = omega arith in e) ∙ sym (drop-drop 1 n tried) ∙ ap (drop 1) (sym left) in
    subst (λ xs. some_end (is_match r t (drop at parts)) xs ≡ true) same there

drop_here : {X : Type 0} (xs : List X) (i : ℕ) (x : X) → i < length xs → x ≡ get_or xs i x → drop i xs ≡ x ∷ drop (i + 1) xs
drop_here xs i x below here = drop_more xs i x below ∙ ap (λ y. y ∷ drop (i + 1) xs) (sym here)

pub some_end-same : (f g : List ℕ → Bool) → ((xs : List ℕ) → f xs ≡ g xs) → (xs : List ℕ) → some_end f xs ≡ some_end g xs
unfolding some_end
some_end-same f g same [] = same []
some_end-same f g same (x ∷ xs) = rw (same (x ∷ xs), some_end-same f g same xs) refl

-- at a run, the older places after a run are given up
pub at_run : {P T : Type 0} (r : P → Bool) (t : P → ℕ → Bool) (parts : List P) (octets : T → List ℕ) (at : ℕ) (p : P) (rest : List ℕ) (back : Option (ℕ × T)) → at < length parts → p ≡ get_or parts at p → r p ≡ true → Since r parts octets at rest back → (is_match r t (drop at parts) rest || retry r t parts octets back) ≡ (is_match r t (drop (at + 1) parts) rest || some_end (is_match r t (drop (at + 1) parts)) (drop 1 rest))
at_run r t parts octets at p rest back inside here run since =
    let f = is_match r t (drop (at + 1) parts) in
    let this : (xs : List ℕ) → is_match r t (drop at parts) xs ≡ some_end f xs = λ xs. ap (λ ps. is_match r t ps xs) (drop_here parts at p inside here) ∙ is_match-run r t p (drop (at + 1) parts) xs run in
    let given_up : retry r t parts octets back ≡ true → is_match r t (drop at parts) rest ≡ true =
    λ h. this rest ∙ some_end-drop f 1 rest (some_end-twice f (drop 1 rest) (sym (some_end-same (is_match r t (drop at parts)) (some_end f) this (drop 1 rest)) ∙ later r t parts octets at rest back (omega arith) since h)) in
    or_absorbs (is_match r t (drop at parts) rest) (retry r t parts octets back) given_up ∙ this rest ∙ some_end-next f rest

-- a part that takes the next octet
pub at_one : {P : Type 0} (r : P → Bool) (t : P → ℕ → Bool) (parts : List P) (at : ℕ) (p : P) (x : ℕ) (behind : List ℕ) → at < length parts → p ≡ get_or parts at p → r p ≡ false → t p x ≡ true → is_match r t (drop at parts) (x ∷ behind) ≡ is_match r t (drop (at + 1) parts) behind
unfolding first_and
at_one r t parts at p x behind inside here one taken =
    ap (λ ps. is_match r t ps (x ∷ behind)) (drop_here parts at p inside here) ∙ is_match-one r t p (drop (at + 1) parts) (x ∷ behind) one ∙ ap (λ b. b && is_match r t (drop (at + 1) parts) behind) taken

pub Since_more : {P T : Type 0} (r : P → Bool) (parts : List P) (octets : T → List ℕ) (at : ℕ) (p : P) (x : ℕ) (behind : List ℕ) (back : Option (ℕ × T)) → at < length parts → p ≡ get_or parts at p → r p ≡ false → Since r parts octets at (x ∷ behind) back → Since r parts octets (at + 1) behind back
Since_more r parts octets at p x behind None inside here one since = tt
Since_more {P} r parts octets at p x behind (Some back) inside here one (n, reached, singles, left) =
    let start = back.0 in
    let ps = drop start parts in
    let item : get_or ps n p ≡ p = get_or-drop start parts n p ∙ ap (λ k. get_or parts k p) (sym reached) ∙ sym here in
    let more : take (n + 1) ps ≡ take n ps ++ p ∷ [] = take_more ps n p (simp length-drop (omega arith)) ∙ ap (λ q. take n ps ++ q ∷ []) item in (
      n + 1,
      omega arith,
      subst (Singles r) (sym more) (Singles-push r (take n ps) p singles one),
      ap (drop 1) left ∙ drop-drop 1 n (octets back.1),
    )

-- no part takes the next octet
pub at_miss : {P : Type 0} (r : P → Bool) (t : P → ℕ → Bool) (parts : List P) (at : ℕ) (p : P) (x : ℕ) (behind : List ℕ) → at < length parts → p ≡ get_or parts at p → r p ≡ false → t p x ≡ false → is_match r t (drop at parts) (x ∷ behind) ≡ false
unfolding first_and
at_miss r t parts at p x behind inside here one refused =
    ap (λ ps. is_match r t ps (x ∷ behind)) (drop_here parts at p inside here) ∙ is_match-one r t p (drop (at + 1) parts) (x ∷ behind) one ∙ ap (λ b. b && is_match r t (drop (at + 1) parts) behind) refused

-- no part is left for the next octet
pub at_no_part : {P : Type 0} (r : P → Bool) (t : P → ℕ → Bool) (parts : List P) (at : ℕ) (x : ℕ) (behind : List ℕ) → length parts ≤ at → is_match r t (drop at parts) (x ∷ behind) ≡ false
unfolding is_match
at_no_part r t parts at x behind past = ap (λ ps. is_match r t ps (x ∷ behind)) (drop_all at parts past)

-- the next place after the last run
pub back_once : {P T : Type 0} (r : P → Bool) (t : P → ℕ → Bool) (parts : List P) (octets : T → List ℕ) (start : ℕ) (tried : T) (y : ℕ) (next : List ℕ) → octets tried ≡ y ∷ next → retry r t parts octets (Some (start, tried)) ≡ (is_match r t (drop start parts) next || some_end (is_match r t (drop start parts)) (drop 1 next))
back_once r t parts octets start tried y next e =
    ap (λ xs. some_end (is_match r t (drop start parts)) (drop 1 xs)) e ∙ some_end-next (is_match r t (drop start parts)) next

-- at the end of the text only runs can be left, and no later place helps
pub at_end : {P T : Type 0} (r : P → Bool) (t : P → ℕ → Bool) (parts : List P) (octets : T → List ℕ) (at : ℕ) (back : Option (ℕ × T)) → at ≤ length parts → Since r parts octets at [] back → (is_match r t (drop at parts) [] || retry r t parts octets back) ≡ list_all r (drop at parts)
unfolding some_end
at_end r t parts octets at back within since =
    or_absorbs (is_match r t (drop at parts) []) (retry r t parts octets back) (λ h. later r t parts octets at [] back within since h) ∙ is_match-end r t (drop at parts)

-- how many octets follow the last run, or this number if no run was met
abbrev pub tries : {T : Type 0} → (T → List ℕ) → Option (ℕ × T) → ℕ → ℕ
tries octets None n = n
tries octets (Some back) n = length (octets back.1)

-- what is left is no longer than what follows the last run
pub rest_shorter : {P T : Type 0} (r : P → Bool) (parts : List P) (octets : T → List ℕ) (at : ℕ) (rest : List ℕ) (back : Option (ℕ × T)) (m : ℕ) → Since r parts octets at rest back → tries octets back (length rest) ≤ m → length rest ≤ m
rest_shorter r parts octets at rest None m since h = h
rest_shorter r parts octets at rest (Some back) m (n, reached, singles, left) h = omega (arith, ap length left, length-drop n (octets back.1))

pub tries_less : {T : Type 0} (octets : T → List ℕ) (x : ℕ) (behind : List ℕ) (back : Option (ℕ × T)) (m : ℕ) → tries octets back (length (x ∷ behind)) ≤ m → tries octets back (length behind) ≤ m
tries_less octets x behind None m h = omega arith
tries_less octets x behind (Some back) m h = h

-- going back by one octet, if no part takes the next one
pub at_back : {P T : Type 0} (r : P → Bool) (t : P → ℕ → Bool) (parts : List P) (octets : T → List ℕ) (this : Bool) (back : Option (ℕ × T)) (start : ℕ) (tried : T) (y : ℕ) (next : List ℕ) → this ≡ false → back ≡ Some (start, tried) → octets tried ≡ y ∷ next → (this || retry r t parts octets back) ≡ (is_match r t (drop start parts) next || some_end (is_match r t (drop start parts)) (drop 1 next))
at_back r t parts octets this back start tried y next missed is e =
    ap (λ b. b || retry r t parts octets back) missed ∙ ap (retry r t parts octets) is ∙ back_once r t parts octets start tried y next e

pub start_within : {P T : Type 0} (r : P → Bool) (parts : List P) (octets : T → List ℕ) (at : ℕ) (rest : List ℕ) (back : Option (ℕ × T)) (start : ℕ) (tried : T) → back ≡ Some (start, tried) → Since r parts octets at rest back → start ≤ at
start_within r parts octets at rest None start tried is since = cc
start_within r parts octets at rest (Some back) start tried is (n, reached, singles, left) =
    let same : back.0 ≡ start = ap (λ (b : ℕ × _). b.0) (let e : back ≡ (start, tried) = cc in e) in omega arith

-- ---- the whole state, and its steps

pub record State {P T : Type 0} (r : P → Bool) (t : P → ℕ → Bool) (octets : T → List ℕ) (parts : List P) (whole : T) (at : ℕ) (rest : T) (back : Option (ℕ × T)) : Type 0 where
  pub within : at ≤ length parts
  pub shorter : tries octets back (length (octets rest)) ≤ length (octets whole)
  pub since : Since r parts octets at (octets rest) back
  pub answer : is_match r t parts (octets whole) ≡ (is_match r t (drop at parts) (octets rest) || retry r t parts octets back)

pub State_first : {P T : Type 0} (r : P → Bool) (t : P → ℕ → Bool) (octets : T → List ℕ) (parts : List P) (whole : T) → State r t octets parts whole 0 whole None
State_first r t octets parts whole = record { within = omega arith; shorter = omega arith; since = tt; answer = sym (or_absorbs (is_match r t parts (octets whole)) false (λ h. cc)) }

pub State_run : {P T : Type 0} (r : P → Bool) (t : P → ℕ → Bool) (octets : T → List ℕ) (parts : List P) (whole : T) (at : ℕ) (rest : T) (back : Option (ℕ × T)) (p : P) → State r t octets parts whole at rest back → at < length parts → p ≡ get_or parts at p → r p ≡ true → State r t octets parts whole (at + 1) rest (Some (at + 1, rest))
State_run r t octets parts whole at rest back p inv inside here run =
    record {
      within = omega arith;
      shorter = rest_shorter r parts octets at (octets rest) back (length (octets whole)) inv.since inv.shorter;
      since = (0, omega arith, tt, refl);
      answer = inv.answer ∙ at_run r t parts octets at p (octets rest) back inside here run inv.since;
    }

pub State_one : {P T : Type 0} (r : P → Bool) (t : P → ℕ → Bool) (octets : T → List ℕ) (parts : List P) (whole : T) (at : ℕ) (rest : T) (back : Option (ℕ × T)) (p : P) (x : ℕ) (behind : T) → State r t octets parts whole at rest back → at < length parts → p ≡ get_or parts at p → r p ≡ false → t p x ≡ true → octets rest ≡ x ∷ octets behind → State r t octets parts whole (at + 1) behind back
State_one r t octets parts whole at rest back p x behind inv inside here one taken next =
    record {
      within = omega arith;
      shorter = tries_less octets x (octets behind) back (length (octets whole)) (subst (λ xs. tries octets back (length xs) ≤ length (octets whole)) next inv.shorter);
      since = Since_more r parts octets at p x (octets behind) back inside here one (subst (λ xs. Since r parts octets at xs back) next inv.since);
      answer =
          inv.answer
          ∙ ap (λ xs. is_match r t (drop at parts) xs || retry r t parts octets back) next
          ∙ ap (λ b. b || retry r t parts octets back) (at_one r t parts at p x (octets behind) inside here one taken);
    }

-- the same state, of an equal text
pub State_moved : {P T : Type 0} (r : P → Bool) (t : P → ℕ → Bool) (octets : T → List ℕ) (parts : List P) (whole : T) (at : ℕ) (rest moved : T) (back : Option (ℕ × T)) → State r t octets parts whole at rest back → rest ≡ moved → State r t octets parts whole at moved back
State_moved r t octets parts whole at rest moved back inv same = subst (λ text. State r t octets parts whole at text back) same inv

-- the part at `at` does not take this octet
abbrev pub Misses : {P : Type 0} → (P → Bool) → (P → ℕ → Bool) → List P → ℕ → ℕ → Type 0
Misses r t parts at x = (behind : List ℕ) → is_match r t (drop at parts) (x ∷ behind) ≡ false

pub State_back : {P T : Type 0} (r : P → Bool) (t : P → ℕ → Bool) (octets : T → List ℕ) (parts : List P) (whole : T) (at : ℕ) (rest : T) (back : Option (ℕ × T)) (x : ℕ) (behind : T) (start : ℕ) (tried again : T) (y : ℕ) (next : T) → State r t octets parts whole at rest back → octets rest ≡ x ∷ octets behind → Misses r t parts at x → back ≡ Some (start, tried) → tried ≡ again → octets again ≡ y ∷ octets next → State r t octets parts whole start next (Some (start, next))
State_back r t octets parts whole at rest back x behind start tried again y next inv read missed is same once =
    let new : octets tried ≡ y ∷ octets next = ap octets same ∙ once in
    let before : start ≤ at = start_within r parts octets at (octets rest) back start tried is inv.since in
    let within = inv.within in
    let long : length (octets tried) ≤ length (octets whole) = subst (λ b. tries octets b (length (octets rest)) ≤ length (octets whole)) is inv.shorter in
    record {
      within = omega arith;
      shorter = omega (arith, ap length new);
      since = (0, omega arith, tt, refl);
      answer =
          inv.answer
          ∙ ap (λ xs. is_match r t (drop at parts) xs || retry r t parts octets back) read
          ∙ at_back r t parts octets (is_match r t (drop at parts) (x ∷ octets behind)) back start tried y (octets next) (missed (octets behind)) is new;
    }

-- if octets are left, some follow the last run
pub State_nothing_behind : {P T : Type 0} (r : P → Bool) (t : P → ℕ → Bool) (octets : T → List ℕ) (parts : List P) (whole : T) (at : ℕ) (rest : T) (back : Option (ℕ × T)) (x : ℕ) (behind : T) (start : ℕ) (tried again : T) → State r t octets parts whole at rest back → octets rest ≡ x ∷ octets behind → back ≡ Some (start, tried) → tried ≡ again → octets again ≡ [] → ⊥
State_nothing_behind r t octets parts whole at rest back x behind start tried again inv read is same none =
    let empty : length (octets tried) ≤ 0 = omega (arith, ap length (ap octets same ∙ none)) in
    let short : length (octets rest) ≤ 0 = rest_shorter r parts octets at (octets rest) back 0 inv.since (subst (λ b. tries octets b (length (octets rest)) ≤ 0) (sym is) empty) in
    omega (arith, ap length read)

pub State_refused : {P T : Type 0} (r : P → Bool) (t : P → ℕ → Bool) (octets : T → List ℕ) (parts : List P) (whole : T) (at : ℕ) (rest : T) (back : Option (ℕ × T)) (x : ℕ) (behind : T) → State r t octets parts whole at rest back → octets rest ≡ x ∷ octets behind → Misses r t parts at x → back ≡ None → false ≡ is_match r t parts (octets whole)
State_refused r t octets parts whole at rest back x behind inv read missed is =
    sym
    (inv.answer
    ∙ ap (λ xs. is_match r t (drop at parts) xs || retry r t parts octets back) read
    ∙ ap (λ b. b || retry r t parts octets back) (missed (octets behind))
    ∙ ap (retry r t parts octets) is)

pub State_end : {P T : Type 0} (r : P → Bool) (t : P → ℕ → Bool) (octets : T → List ℕ) (parts : List P) (whole : T) (at : ℕ) (rest : T) (back : Option (ℕ × T)) (answer : Bool) → State r t octets parts whole at rest back → octets rest ≡ [] → answer ≡ list_all r (drop at parts) → answer ≡ is_match r t parts (octets whole)
State_end r t octets parts whole at rest back answer inv ended is =
    (is
    ∙ sym (inv.answer
    ∙ ap (λ xs. is_match r t (drop at parts) xs || retry r t parts octets back) ended
    ∙ at_end r t parts octets at back inv.within (subst (λ xs. Since r parts octets at xs back) ended inv.since)))

-- ---- each step leaves less to try

tries_most : {T : Type 0} (octets : T → List ℕ) (back : Option (ℕ × T)) (m n : ℕ) → tries octets back m ≤ n → tries octets back m ≤ tries octets back n
tries_most octets None m n h = h
tries_most octets (Some back) m n h = omega arith

pub State_run_less : {P T : Type 0} (r : P → Bool) (t : P → ℕ → Bool) (octets : T → List ℕ) (parts : List P) (whole : T) (at : ℕ) (rest : T) (back : Option (ℕ × T)) → State r t octets parts whole at rest back → at < length parts
    → length (octets rest) * (length parts + 1) + (length parts - (at + 1)) < tries octets back (length (octets whole)) * (length parts + 1) + (length parts - at)
State_run_less r t octets parts whole at rest back inv below =
    let most = tries octets back (length (octets whole)) in
    let short = rest_shorter r parts octets at (octets rest) back most inv.since (tries_most octets back (length (octets rest)) (length (octets whole)) inv.shorter) in
    let times = mul-le-mul_right (length parts + 1) short in
    omega (arith, times)

pub one_less : (tried places at : ℕ) → at < places → tried * (places + 1) + (places - (at + 1)) < tried * (places + 1) + (places - at)
one_less tried places at below = omega arith

pub State_back_less : {P T : Type 0} (octets : T → List ℕ) (parts : List P) (whole : T) (at : ℕ) (back : Option (ℕ × T)) (start : ℕ) (tried again : T) (y : ℕ) (next : T) → back ≡ Some (start, tried) → tried ≡ again → octets again ≡ y ∷ octets next
    → length (octets next) * (length parts + 1) + (length parts - start) < tries octets back (length (octets whole)) * (length parts + 1) + (length parts - at)
State_back_less octets parts whole at back start tried again y next is same once =
    let fewer : suc (length (octets next)) ≤ tries octets back (length (octets whole)) = rw is (omega (arith, ap length (ap octets same ∙ once))) in
    let times = mul-le-mul_right (length parts + 1) fewer in
    omega (arith, times)

-- ---- texts that are too short

some_end-long : (f : List ℕ → Bool) (n : ℕ) (xs : List ℕ) → ((ys : List ℕ) → f ys ≡ true → n ≤ length ys) → some_end f xs ≡ true → n ≤ length xs
unfolding some_end
some_end-long f n [] long h = long [] h
some_end-long f n (x ∷ xs) long h = elim (or_cases _ _ h) [ inl here ↦ long (x ∷ xs) here | inr later ↦ (let rest = some_end-long f n xs long later in omega arith) ]

first_and-long : (t : ℕ → Bool) (f : List ℕ → Bool) (n : ℕ) (xs : List ℕ) → ((ys : List ℕ) → f ys ≡ true → n ≤ length ys) → first_and t f xs ≡ true → 1 + n ≤ length xs
unfolding first_and
first_and-long t f n [] long h = cc
first_and-long t f n (x ∷ xs) long h = let rest = long xs (and_parts _ _ h).1 in omega arith

-- a text that the parts match has an octet for each part that takes one
pub is_match-long : {P : Type 0} (r : P → Bool) (t : P → ℕ → Bool) (ps : List P) (text : List ℕ) → is_match r t ps text ≡ true → least_octets r ps ≤ length text
is_match-long r t [] text h = omega arith
is_match-long r t (p ∷ ps) text h =
    elim (cases_Bool (r p)) [
      | inl run ↦
          (let more : least_octets r (p ∷ ps) ≡ 0 + least_octets r ps = sum_by-cons (λ q. cond (not (r q)) 1 0) p ps ∙ ap (λ b. cond (not b) 1 0 + least_octets r ps) run in
          let rest = some_end-long (is_match r t ps) (least_octets r ps) text (is_match-long r t ps) (sym (is_match-run r t p ps text run) ∙ h) in
          omega arith)
      | inr one ↦
          (let more : least_octets r (p ∷ ps) ≡ 1 + least_octets r ps = sum_by-cons (λ q. cond (not (r q)) 1 0) p ps ∙ ap (λ b. cond (not b) 1 0 + least_octets r ps) one in
          let rest = first_and-long (t p) (is_match r t ps) (least_octets r ps) text (is_match-long r t ps) (sym (is_match-one r t p ps text one) ∙ h) in
          omega arith)
    ]

pub too_short : {P : Type 0} (r : P → Bool) (t : P → ℕ → Bool) (parts : List P) (text : List ℕ) (enough : Bool) → enough ≡ false → IsTrue enough ↔ (least_octets r parts ≤ length text) → false ≡ is_match r t parts text
too_short r t parts text enough short known = sym (false_from_ne_true _ (λ m. both_ways enough short (known.1 (is_match-long r t parts text m))))
