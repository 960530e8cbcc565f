-- What the names of a list of pages have, and how they are given one after another.
use Rattle.std.proofs.Common.{zero, suc, ◌≡◌, ◌≢◌, ℕ, ◌+◌, ◌≤◌, ◌<◌, ◌⊎◌, ◌/◌, ◌%◌, ◌^◌, ◌==◌, nat_lt, Bool, true, false, ◌&&◌, cond, map, List, [], ◌∷◌, ◌++◌, length, get_or, take, Contains, Option, Some, None, IsSome, unwrap_or, ◌↔◌, sym, refl, ap, ◌∙◌, subst, inl, inr, arith, append_assoc}
use Rattle.std.proofs.lemmas.Bool.{cond_both, cond-false, ne_eqb, cases_lt, lt-ltb, ltb-true, false_from_ne_true}
use Rattle.std.proofs.lemmas.Fmt.{decimal_injective}
use Rattle.std.proofs.lemmas.List.{get_or-take, length-take-le, get_or_read, append_cancel_left, append_cancel_right, append-nil, length-append, take-append-le, take_at, get_or_append_left, get_or_push}
use Rattle.std.proofs.lemmas.List.Elements.{Contains-get_or, Contains-push, Contains-push_cases, Contains-append_left}
use Rattle.std.proofs.lemmas.Slice.Eq.{bytes_eq-Decides}
use Rattle.std.proofs.Math.Seq.{take-suc}
use Rattle.std.specs.Fmt.{decimal, digits, digits_onto, digit_glyph}
use Rattle.std.specs.Str.{bytes_eq}
use Rattle.local_names.specs.PlainNames.{slash}
use Rattle.local_names.specs.Names.{IsDirectoryOf, IsDirectory, numbered_by, IsFree, IsFirstFreeBy, IsNaming, IsNamingBy, AreDistinct, AreApart}
use Rattle.local_names.specs.Endings.{stem_of, ending_of}
use Rattle.local_names.specs.inner.Taken.{remembered, HasSameNames}
use Rattle.local_names.proofs.EndingLaws.{NoSlash, NoSlash-append, no_slash_inside, stem_ending, no_slash_ending}

-- ---- distinct

read_any : (xs : List (List ℕ)) (i : ℕ) → i < length xs → get_or xs i (get_or xs i []) ≡ get_or xs i []
read_any [] i below = absurd (omega arith)
read_any (x ∷ xs) zero below = refl
read_any (x ∷ xs) (suc i) below = read_any xs i (omega arith)

pub IsNaming-distinct : (h : Bool) (plain names : List (List ℕ)) → IsNamingBy h plain names → AreDistinct names
IsNaming-distinct h plain names naming i j before within same =
    let n = naming.count in
    let at = naming.each j (omega arith) in
    let long : length (take j names) ≡ j = length-take-le j names (omega arith) in
    (at.free).not_given (i, omega arith, subst (λ d. get_or (take j names) i d ≡ d) same (get_or-take j names i (get_or names i []) before ∙ read_any names i (omega arith)))

-- ---- one list of names alone

first_free_sole : (h : Bool) (plain given : List (List ℕ)) (own name other : List ℕ) → IsFirstFreeBy h plain given own name → IsFirstFreeBy h plain given own other → name ≡ other
first_free_sole h plain given own name other a b =
    elim (cases_lt a.number b.number) [
      | inl less ↦ absurd (b.first a.number less (subst (IsFree plain given) a.is a.free))
      | inr more ↦ elim (cases_lt b.number a.number) [
        | inl less ↦ absurd (a.first b.number less (subst (IsFree plain given) b.is b.free))
        | inr same ↦ (let equal : a.number ≡ b.number = omega arith in a.is ∙ ap (numbered_by h own) equal ∙ sym b.is)
      ]
    ]

fronts_same : (h : Bool) (plain names others : List (List ℕ)) → IsNamingBy h plain names → IsNamingBy h plain others → (i : ℕ) → i ≤ length plain → take i others ≡ take i names
fronts_same h plain names others naming other zero within = refl
fronts_same h plain names others naming other (suc i) within =
    let n = naming.count in
    let m = other.count in
    let front : take i others ≡ take i names = fronts_same h plain names others naming other i (omega arith) in
    let this = naming.each i (omega arith) in
    let that : IsFirstFreeBy h plain (take i names) (get_or plain i []) (get_or others i []) = subst (λ given. IsFirstFreeBy h plain given (get_or plain i []) (get_or others i [])) front (other.each i (omega arith)) in
    let same : get_or others i [] ≡ get_or names i [] = first_free_sole h plain (take i names) (get_or plain i []) (get_or others i []) (get_or names i []) that this in
    take-suc others i [] (omega arith) ∙ ap (λ x. x ++ (get_or others i [] ∷ [])) front ∙ ap (λ x. take i names ++ (x ∷ [])) same ∙ sym (take-suc names i [] (omega arith))

whole : (n : ℕ) (xs : List (List ℕ)) → length xs ≡ n → take n xs ≡ xs
whole zero [] e = refl
whole zero (x ∷ xs) e = absurd (omega arith)
whole (suc n) [] e = absurd (omega arith)
whole (suc n) (x ∷ xs) e = ap (λ ys. x ∷ ys) (whole n xs (omega arith))

pub IsNamingBy-sole : (h : Bool) (plain names others : List (List ℕ)) → IsNamingBy h plain names → IsNamingBy h plain others → others ≡ names
IsNamingBy-sole h plain names others naming other =
    sym (whole (length plain) others other.count) ∙ fronts_same h plain names others naming other (length plain) (omega arith) ∙ whole (length plain) names naming.count

pub IsNaming-sole : (plain names others : List (List ℕ)) → IsNaming plain names → IsNaming plain others → others ≡ names
IsNaming-sole plain names others naming other = IsNamingBy-sole false plain names others naming other

-- ---- no name is a directory of another

-- what follows a name adds no directory, if it has no `/`
directory_before : (name suffix directory : List ℕ) → NoSlash suffix → IsDirectoryOf (name ++ suffix) directory → IsDirectoryOf name directory
directory_before [] suffix directory none (rest, is) = absurd (no_slash_inside suffix directory rest none is)
directory_before (b ∷ name) suffix [] none (rest, is) = (name, ap (λ x. x ∷ name) (let e : b ≡ slash = cc in e))
directory_before (b ∷ name) suffix (d ∷ directory) none (rest, is) =
    let later = directory_before name suffix directory none (rest, let e : name ++ suffix ≡ directory ++ slash ∷ rest = cc in e) in
    (later.0, ap (λ x. x ∷ name) (let e : b ≡ d = cc in e) ∙ ap (λ xs. d ∷ xs) later.1)

NoSlash-digits_onto : (k base n : ℕ) (acc : List ℕ) → NoSlash acc → NoSlash (digits_onto k base false n acc)
NoSlash-digits_onto zero base n acc none = none
NoSlash-digits_onto (suc k) base n acc none =
    let glyph : (d : ℕ) → digit_glyph false d ≢ slash = λ d. cond_both (nat_lt d 10) (48 + d) (87 + d) (λ g. g ≢ slash) (λ e is. omega arith) (λ e is. omega arith) in
    cond_both (n / base == 0) (digit_glyph false (n % base) ∷ acc) (digits_onto k base false (n / base) (digit_glyph false (n % base) ∷ acc)) NoSlash
    (λ e. (glyph (n % base), none))
    (λ e. NoSlash-digits_onto k base (n / base) (digit_glyph false (n % base) ∷ acc) (glyph (n % base), none))

pub NoSlash-decimal : (n : ℕ) → NoSlash (decimal n)
unfolding digits
NoSlash-decimal n = NoSlash-digits_onto 64 10 n [] tt

pub numbered_name-zero : (h : Bool) (own : List ℕ) → numbered_by h own zero ≡ own
numbered_name-zero true own = refl
numbered_name-zero false own = refl

pub numbered_name-suc : (h : Bool) (own : List ℕ) (n : ℕ) → numbered_by h own (suc n) ≡ stem_of h own ++ 46 ∷ (decimal (suc n) ++ ending_of h own)
numbered_name-suc true own n = cond-false (suc n == 0) own (stem_of true own ++ 46 ∷ (decimal (suc n) ++ ending_of true own)) (ne_eqb (suc n) 0 (λ e. omega (arith, e)))
numbered_name-suc false own n =
    cond-false (suc n == 0) own (own ++ 46 ∷ decimal (suc n)) (ne_eqb (suc n) 0 (λ e. omega (arith, e)))
    ∙ ap (λ digits. own ++ 46 ∷ digits) (sym (append-nil (decimal (suc n))))

-- what follows the stem of a numbered name
pub no_slash_number : (h : Bool) (own : List ℕ) (number : ℕ) → NoSlash (46 ∷ (decimal number ++ ending_of h own))
no_slash_number h own number = (λ is. omega (arith, is), NoSlash-append (decimal number) (ending_of h own) (NoSlash-decimal number) (no_slash_ending h own))

longer_name : (front rest directory : List ℕ) → IsDirectoryOf front directory → IsDirectoryOf (front ++ rest) directory
longer_name front rest directory (more, is) = (more ++ rest, ap (λ x. x ++ rest) is ∙ append_assoc directory (slash ∷ more) rest)

-- the directories of a numbered name are those of the plain one
directory_of_numbered : (h : Bool) (own : List ℕ) (number : ℕ) (directory : List ℕ) → IsDirectoryOf (numbered_by h own number) directory → IsDirectoryOf own directory
directory_of_numbered h own zero directory d = subst (λ name. IsDirectoryOf name directory) (numbered_name-zero h own) d
directory_of_numbered h own (suc n) directory d =
    let stem = stem_of h own in
    let rest = 46 ∷ (decimal (suc n) ++ ending_of h own) in
    let under = directory_before stem rest directory (no_slash_number h own (suc n)) (subst (λ name. IsDirectoryOf name directory) (numbered_name-suc h own n) d) in
    subst (λ name. IsDirectoryOf name directory) (stem_ending h own) (longer_name stem (ending_of h own) directory under)

pub IsNaming-apart : (h : Bool) (plain names : List (List ℕ)) → IsNamingBy h plain names → AreApart names
IsNaming-apart h plain names naming name other (i, within, here) (j, within', there) inside =
    let n = naming.count in
    let at = naming.each i (omega arith) in
    let at' = naming.each j (omega arith) in
    let read : (k : ℕ) (x : List ℕ) → k < length names → get_or names k x ≡ x → x ≡ get_or names k [] = λ k x below e. get_or_read names k x below (sym e) [] in
    let own : name ≡ get_or names i [] = read i name within here in
    let others : other ≡ numbered_by h (get_or plain j []) at'.number = read j other within' there ∙ at'.is in
    let found : IsDirectoryOf (get_or plain j []) name = directory_of_numbered h (get_or plain j []) at'.number name (subst (λ o. IsDirectoryOf o name) others inside) in
    (at.free).no_directory (subst (IsDirectory plain) own (get_or plain j [], Contains-get_or plain j [] (omega arith), found))

-- ---- numbered names

-- the same with its pieces as they are written
pub numbered_name-written : (h : Bool) (own stem ending text : List ℕ) (n : ℕ) → (n ≡ 0 → ⊥) → stem ≡ stem_of h own → ending ≡ ending_of h own → text ≡ stem ++ 46 ∷ (decimal n ++ ending) → text ≡ numbered_by h own n
numbered_name-written h own stem ending text zero some es ee is = absurd (some refl)
numbered_name-written h own stem ending text (suc n) some es ee is =
    is ∙ ap (λ x. x ++ 46 ∷ (decimal (suc n) ++ ending)) es ∙ ap (λ x. stem_of h own ++ 46 ∷ (decimal (suc n) ++ x)) ee ∙ sym (numbered_name-suc h own n)

longer : (h : Bool) (own : List ℕ) (n : ℕ) → own ≡ numbered_by h own (suc n) → ⊥
longer h own n same =
    let stem = stem_of h own in
    let ending = ending_of h own in
    let e = ap length (same ∙ numbered_name-suc h own n) in
    let plain = ap length (stem_ending h own) in
    let one = length-append stem ending in
    let two = length-append stem (46 ∷ (decimal (suc n) ++ ending)) in
    let three = length-append (decimal (suc n)) ending in
    omega (arith, e, plain, one, two, three)

pub numbered_name-injective : (h : Bool) (own : List ℕ) (m n : ℕ) → m < 2 ^ 64 → n < 2 ^ 64 → numbered_by h own m ≡ numbered_by h own n → m ≡ n
numbered_name-injective h own zero zero small small' same = refl
numbered_name-injective h own zero (suc n) small small' same = absurd (longer h own n (sym (numbered_name-zero h own) ∙ same))
numbered_name-injective h own (suc m) zero small small' same = absurd (longer h own m (sym (numbered_name-zero h own) ∙ sym same))
numbered_name-injective h own (suc m) (suc n) small small' same =
    let ending = ending_of h own in
    let one = decimal (suc m) ++ ending in
    let other = decimal (suc n) ++ ending in
    let tails : (46 ∷ one) ≡ (46 ∷ other) = append_cancel_left (stem_of h own) (46 ∷ one) (46 ∷ other) (sym (numbered_name-suc h own m) ∙ same ∙ numbered_name-suc h own n) in
    decimal_injective (suc m) (suc n) small small' (append_cancel_right (decimal (suc m)) (decimal (suc n)) ending (let e : one ≡ other = cc in e))

-- ---- the names that were given so far

-- no page from this place on may get the name
abbrev pub IsBehind : (h : Bool) → List (List ℕ) → ℕ → List ℕ → Type 0
IsBehind h plain i name = (j k : ℕ) → i ≤ j → j < length plain → numbered_by h (get_or plain j []) k ≢ name

-- the first names, and beside each that may be wanted again and some plain names a number below which all its numbered names are taken
pub record Assigned (h : Bool) (plain names : List (List ℕ)) (next : List ℕ → Option ℕ) : Type 0 where
  pub each : (k : ℕ) → k < length names → IsFirstFreeBy h plain (take k names) (get_or plain k []) (get_or names k [])
  pub held : (d : List ℕ) → Contains names d → IsSome (next d) ⊎ IsBehind h plain (length names) d
  pub passed : (q : List ℕ) (v : ℕ) → next q ≡ Some v → (0 < v) × ((k : ℕ) → k < v → IsDirectory plain (numbered_by h q k) ⊎ Contains names (numbered_by h q k))

pub Assigned-first : (h : Bool) (plain : List (List ℕ)) (next : List ℕ → Option ℕ) → ((q : List ℕ) → next q ≡ None) → Assigned h plain [] next
Assigned-first h plain next none =
    record {
      each = λ k below. absurd (omega arith);
      held = λ d (k, below, is). absurd (omega arith);
      passed = λ q v e. (let clash : None ≡ Some v = sym (none q) ∙ e in cc);
    }

-- what has an entry is taken
entry_is_taken : (h : Bool) (plain names : List (List ℕ)) (next : List ℕ → Option ℕ) → Assigned h plain names next → (q : List ℕ) (o : Option ℕ) → next q ≡ o → IsSome o → IsDirectory plain q ⊎ Contains names q
entry_is_taken h plain names next so q None e has = cc
entry_is_taken h plain names next so q (Some v) e has = let at = so.passed q v e in subst (λ x. IsDirectory plain x ⊎ Contains names x) (numbered_name-zero h q) (at.1 0 at.0)

pub taken_names : (h : Bool) (plain names : List (List ℕ)) (next : List ℕ → Option ℕ) → Assigned h plain names next → (q : List ℕ) → IsDirectory plain q ⊎ IsSome (next q) → IsDirectory plain q ⊎ Contains names q
taken_names h plain names next so q taken = elim taken [ inl inside ↦ inl inside | inr has ↦ entry_is_taken h plain names next so q (next q) refl has ]

-- a name that the next page wants is held
asked_is_held : (h : Bool) (plain names : List (List ℕ)) (next : List ℕ → Option ℕ) → Assigned h plain names next → (own : List ℕ) (k : ℕ) → own ≡ get_or plain (length names) [] → length names < length plain → Contains names (numbered_by h own k) → IsSome (next (numbered_by h own k))
asked_is_held h plain names next so own k place inside given = elim (so.held (numbered_by h own k) given) [
  | inl has ↦ has
  | inr behind ↦ absurd (behind (length names) k (omega arith) inside (ap (λ x. numbered_by h x k) (sym place)))
]

-- where to begin
start_by : (h : Bool) (plain names : List (List ℕ)) (next : List ℕ → Option ℕ) → Assigned h plain names next → (q : List ℕ) → q ≡ get_or plain (length names) [] → length names < length plain → (o : Option ℕ) (start : ℕ) → next q ≡ o → start ≡ unwrap_or o 0 → (k : ℕ) → k < start → IsDirectory plain (numbered_by h q k) ⊎ IsSome (next (numbered_by h q k))
start_by h plain names next so q place inside None start e is k below = absurd (omega arith)
start_by h plain names next so q place inside (Some v) start e is k below =
    elim ((so.passed q v e).1 k (omega arith)) [ inl under ↦ inl under | inr given ↦ inr (asked_is_held h plain names next so q k place inside given) ]

pub Assigned-start : (h : Bool) (plain names : List (List ℕ)) (next : List ℕ → Option ℕ) → Assigned h plain names next → (q : List ℕ) → q ≡ get_or plain (length names) [] → length names < length plain → (start : ℕ) → start ≡ unwrap_or (next q) 0 → (k : ℕ) → k < start → IsDirectory plain (numbered_by h q k) ⊎ IsSome (next (numbered_by h q k))
Assigned-start h plain names next so q place inside start is = start_by h plain names next so q place inside (next q) start refl is

-- the same directories of the same names
pub same_directories : (names others : List (List ℕ)) → HasSameNames names others → (d : List ℕ) → IsDirectory names d ↔ IsDirectory others d
same_directories names others same d =
    (λ (name, held, inside). (name, (same name).0 held, inside), λ (name, held, inside). (name, (same name).1 held, inside))

-- the entries after one name, or a name and its plain name, were put in
pub remembered_one : (old mid : List ℕ → Option ℕ) (own name key : List ℕ) (number : ℕ) (q : List ℕ) → key ≡ name → number ≤ 0 → mid q ≡ cond (bytes_eq key q) (Some 1) (old q) → mid q ≡ remembered old own name number q
remembered_one old mid own name key number q same none e =
    let test : nat_lt 0 number ≡ false = false_from_ne_true (nat_lt 0 number) (λ t. (let less = ltb-true 0 number t in omega arith)) in
    e ∙ ap (λ k. cond (bytes_eq k q) (Some 1) (old q)) same ∙ sym (ap (λ b. cond (b && bytes_eq own q) (Some (number + 1)) (cond (bytes_eq name q) (Some 1) (old q))) test)

pub remembered_both : (old mid new : List ℕ → Option ℕ) (own name key second : List ℕ) (number : ℕ) (q : List ℕ) → key ≡ name → second ≡ own → 0 < number → mid q ≡ cond (bytes_eq key q) (Some 1) (old q) → new q ≡ cond (bytes_eq second q) (Some (number + 1)) (mid q) → new q ≡ remembered old own name number q
remembered_both old mid new own name key second number q same also some e f =
    let test : nat_lt 0 number ≡ true = lt-ltb 0 number some in
    f ∙ ap (λ k. cond (bytes_eq k q) (Some (number + 1)) (mid q)) also
    ∙ ap (λ o. cond (bytes_eq own q) (Some (number + 1)) o) (e ∙ ap (λ k. cond (bytes_eq k q) (Some 1) (old q)) same)
    ∙ sym (ap (λ b. cond (b && bytes_eq own q) (Some (number + 1)) (cond (bytes_eq name q) (Some 1) (old q))) test)

kept_some : (b c : Bool) (n : ℕ) (o : Option ℕ) → IsSome o → IsSome (cond b (Some n) (cond c (Some 1) o))
kept_some true c n o has = refl
kept_some false true n o has = refl
kept_some false false n o has = has

held_some : (b c : Bool) (n : ℕ) (o : Option ℕ) → c ≡ true → IsSome (cond b (Some n) (cond c (Some 1) o))
held_some true c n o e = refl
held_some false true n o e = refl
held_some false false n o e = cc

which : (a b c : Bool) (n v : ℕ) (o : Option ℕ) → cond (a && b) (Some n) (cond c (Some 1) o) ≡ Some v → ((b ≡ true) × (v ≡ n)) ⊎ (((c ≡ true) × (v ≡ 1)) ⊎ (o ≡ Some v))
which true true c n v o e = inl (refl, cc)
which true false true n v o e = inr (inl (refl, cc))
which true false false n v o e = inr (inr e)
which false b true n v o e = inr (inl (refl, cc))
which false b false n v o e = inr (inr e)

pub Assigned-step : (h : Bool) (plain names : List (List ℕ)) (next next' : List ℕ → Option ℕ) (own name : List ℕ) (number : ℕ) → Assigned h plain names next → own ≡ get_or plain (length names) [] → length names < length plain → name ≡ numbered_by h own number → ¬ (IsDirectory plain name ⊎ IsSome (next name)) → ((k : ℕ) → k < number → IsDirectory plain (numbered_by h own k) ⊎ IsSome (next (numbered_by h own k))) → ((q : List ℕ) → next' q ≡ remembered next own name number q) ⊎ (IsBehind h plain (length names + 1) name × ((q : List ℕ) → next' q ≡ next q)) → Assigned h plain (names ++ name ∷ []) next'
Assigned-step h plain names next next' own name number so place inside is free before new =
    let this : IsFirstFreeBy h plain names own name = record {
      number = number;
      is = is;
      free = record { no_directory = λ inside. free (inl inside); not_given = λ given. free (inr (subst (λ x. IsSome (next x)) (sym is) (asked_is_held h plain names next so own number place inside (subst (Contains names) is given)))) };
      first = λ k less loose. elim (taken_names h plain names next so (numbered_by h own k) (before k less)) [ inl inside ↦ loose.no_directory inside | inr given ↦ loose.not_given given ];
    } in
    let more : (q : List ℕ) → IsDirectory plain q ⊎ Contains names q → IsDirectory plain q ⊎ Contains (names ++ name ∷ []) q =
    λ q taken. elim taken [ inl inside ↦ inl inside | inr given ↦ inr (Contains-append_left names (name ∷ []) q given) ] in
    let own_taken : (k : ℕ) → k < number + 1 → IsDirectory plain (numbered_by h own k) ⊎ Contains (names ++ name ∷ []) (numbered_by h own k) =
    λ k below. elim (cases_lt k number) [
      | inl less ↦ more (numbered_by h own k) (taken_names h plain names next so (numbered_by h own k) (before k less))
      | inr last ↦ (let at : number ≡ k = omega arith in inr (subst (Contains (names ++ name ∷ [])) (is ∙ ap (numbered_by h own) at) (Contains-push names name)))
    ] in
    record {
      each = λ k below.
          let long = length-append names (name ∷ []) in
          elim (cases_lt k (length names)) [
            | inl early ↦ (
                let front : take k (names ++ name ∷ []) ≡ take k names = take-append-le k names (name ∷ []) (omega arith) in
                let read : get_or (names ++ name ∷ []) k [] ≡ get_or names k [] = get_or_append_left names (name ∷ []) [] k early in
                rw (front, read) (so.each k early))
            | inr late ↦ (
                let at : k ≡ length names = omega arith in
                let front : take k (names ++ name ∷ []) ≡ names = take_at names (name ∷ []) k (sym at) in
                let read : get_or (names ++ name ∷ []) k [] ≡ name = get_or_push names name [] k (sym at) in
                rw (front, read, at, ← place) this)
          ];
      held = λ d given.
          let long = length-append names (name ∷ []) in
          let later : IsBehind h plain (length names) d → IsBehind h plain (length (names ++ name ∷ [])) d = λ behind j k low within. behind j k (omega (arith, low, long)) within in
          elim new [
            | inl put ↦ elim (Contains-push_cases names name d given) [
              | inl old ↦ elim (so.held d old) [
                | inl has ↦ inl (subst IsSome (sym (put d)) (kept_some (nat_lt 0 number && bytes_eq own d) (bytes_eq name d) (number + 1) (next d) has))
                | inr behind ↦ inr (later behind)
              ]
              | inr last ↦ inl (subst IsSome (sym (put d)) (held_some (nat_lt 0 number && bytes_eq own d) (bytes_eq name d) (number + 1) (next d) ((bytes_eq-Decides name d).1 last)))
            ]
            | inr (past, kept) ↦ elim (Contains-push_cases names name d given) [
              | inl old ↦ elim (so.held d old) [
                | inl has ↦ inl (subst IsSome (sym (kept d)) has)
                | inr behind ↦ inr (later behind)
              ]
              | inr last ↦ inr (λ j k low within same. past j k (omega (arith, low, long)) within (same ∙ sym last))
            ]
          ];
      passed = λ q v e. elim new [
        | inl put ↦ elim (which (nat_lt 0 number) (bytes_eq own q) (bytes_eq name q) (number + 1) v (next q) (sym (put q) ∙ e)) [
          | inl (same, is_next) ↦ (omega arith, λ k below. subst (λ x. IsDirectory plain (numbered_by h x k) ⊎ Contains (names ++ name ∷ []) (numbered_by h x k)) ((bytes_eq-Decides own q).0 same) (own_taken k (omega arith)))
          | inr (inl (same, is_one)) ↦ (
            omega arith,
            λ k below.
                let at : k ≡ 0 = omega arith in
                inr (subst (λ j. Contains (names ++ name ∷ []) (numbered_by h q j)) (sym at) (subst (Contains (names ++ name ∷ [])) ((bytes_eq-Decides name q).0 same ∙ sym (numbered_name-zero h q)) (Contains-push names name))),
          )
          | inr (inr old) ↦ (let at = so.passed q v old in (at.0, λ k below. more (numbered_by h q k) (at.1 k below)))
        ]
        | inr (past, kept) ↦ (let at = so.passed q v (sym (kept q) ∙ e) in (at.0, λ k below. more (numbered_by h q k) (at.1 k below)))
      ];
    }

pub IsNaming_from : (h : Bool) (plain names : List (List ℕ)) (next : List ℕ → Option ℕ) → Assigned h plain names next → length names ≡ length plain → IsNamingBy h plain names
IsNaming_from h plain names next so long = record { count = long; each = λ i below. so.each i (omega arith) }

pub map_push : {A : Type 0} (f : A → List ℕ) (xs : List A) (x : A) → map f (xs ++ x ∷ []) ≡ map f xs ++ f x ∷ []
map_push f [] x = refl
map_push f (y ∷ xs) x = ap (λ t. f y ∷ t) (map_push f xs x)
