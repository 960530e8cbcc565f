-- The cookies of a file that count are in their order.
use Rattle.std.proofs.Common.{◌≡◌, ◌∙◌, ◌≤◌, ◌<◌, ◌+◌, ◌==◌, ◌||◌, ℕ, Bool, true, false, cond, not, List, [], ◌∷◌, ◌++◌, length, filter, Option, Some, None, Result, Ok, Err, refl, sym, ap, subst, arith, ⊎_elim, append_assoc, append-nil}
use Rattle.std.proofs.lemmas.Bool.{cases_Bool, ltb-true, ltb-false, eqb-true}
use Rattle.std.proofs.lemmas.Bool.Decides.{nat_tests}
use Rattle.std.proofs.lemmas.List.Elements.{filter-append}
use Rattle.std.proofs.lemmas.List.Folds.{list_any-append}
use Rattle.std.specs.Prelude.{nat_lt}
use Rattle.std.specs.List.{flat_map, list_any}
use Rattle.cookie_files.specs.Lines.{Cookie, Fields, Text, cookie_of, read_line}
use Rattle.cookie_files.specs.Jars.{AreNoLonger, AreOf, LongerFirst, added, by_line, placed, read_lines, replaces, said_by, said_in, that_count, with_length}
use Rattle.cookie_files.specs.declared.fault.CookieFault.{CookieFault}
use Rattle.cookie_files.specs.declared.fault.CookieFault.TheVariants as fault
use Rattle.cookie_files.specs.declared.fault.CookieLineFault.{CookieLineFault}
use Rattle.cookie_files.specs.declared.cookies.TheConstants.{MAX_LINES}

-- ---- longer paths first

no_longer-more : (few many : ℕ) (cookies : List Cookie) → few ≤ many → AreNoLonger few cookies → AreNoLonger many cookies
no_longer-more few many [] more are = tt
no_longer-more few many (first ∷ others) more are = (let at = are.0 in omega arith, no_longer-more few many others more are.1)

no_longer-placed : (most : ℕ) (cookie : Cookie) (cookies : List Cookie) → length cookie.path ≤ most → AreNoLonger most cookies → AreNoLonger most (placed cookie cookies)
no_longer-placed most cookie [] short are = (short, tt)
no_longer-placed most cookie (first ∷ later) short are =
    ⊎_elim
    (λ yes. subst (λ b. AreNoLonger most (cond b (cookie ∷ first ∷ later) (first ∷ placed cookie later))) (sym yes) (short, are))
    (λ no. subst (λ b. AreNoLonger most (cond b (cookie ∷ first ∷ later) (first ∷ placed cookie later))) (sym no) (are.0, no_longer-placed most cookie later short are.1))
    (cases_Bool (nat_lt (length first.path) (length cookie.path)))

longer_first-placed : (cookie : Cookie) (cookies : List Cookie) → LongerFirst cookies → LongerFirst (placed cookie cookies)
longer_first-placed cookie [] are = (tt, tt)
longer_first-placed cookie (first ∷ later) are =
    ⊎_elim
    (λ yes.
    let less : length first.path < length cookie.path = ltb-true _ _ yes in
    let short : length first.path ≤ length cookie.path = omega (arith, less) in
    subst (λ b. LongerFirst (cond b (cookie ∷ first ∷ later) (first ∷ placed cookie later))) (sym yes)
    ((short, no_longer-more (length first.path) (length cookie.path) later short are.0), are))
    (λ no.
    let short : length cookie.path ≤ length first.path = ltb-false _ _ no in
    subst (λ b. LongerFirst (cond b (cookie ∷ first ∷ later) (first ∷ placed cookie later))) (sym no)
    (no_longer-placed (length first.path) cookie later short are.0, longer_first-placed cookie later are.1))
    (cases_Bool (nat_lt (length first.path) (length cookie.path)))

no_longer-filter : (p : Cookie → Bool) (most : ℕ) (cookies : List Cookie) → AreNoLonger most cookies → AreNoLonger most (filter p cookies)
no_longer-filter p most [] are = tt
no_longer-filter p most (first ∷ others) are =
    ⊎_elim
    (λ yes. subst (λ b. AreNoLonger most (cond b (first ∷ filter p others) (filter p others))) (sym yes) (are.0, no_longer-filter p most others are.1))
    (λ no. subst (λ b. AreNoLonger most (cond b (first ∷ filter p others) (filter p others))) (sym no) (no_longer-filter p most others are.1))
    (cases_Bool (p first))

longer_first-filter : (p : Cookie → Bool) (cookies : List Cookie) → LongerFirst cookies → LongerFirst (filter p cookies)
longer_first-filter p [] are = tt
longer_first-filter p (first ∷ others) are =
    ⊎_elim
    (λ yes. subst (λ b. LongerFirst (cond b (first ∷ filter p others) (filter p others))) (sym yes) (no_longer-filter p (length first.path) others are.0, longer_first-filter p others are.1))
    (λ no. subst (λ b. LongerFirst (cond b (first ∷ filter p others) (filter p others))) (sym no) (longer_first-filter p others are.1))
    (cases_Bool (p first))

-- ---- those whose paths are as long

no_zero : (m n : ℕ) → m < n → (m == n) ≡ false
no_zero m n less = grind (arith, nat_tests)

none_so_long : (n most : ℕ) (cookies : List Cookie) → most < n → AreNoLonger most cookies → with_length n cookies ≡ []
none_so_long n most [] less are = refl
none_so_long n most (first ∷ others) less are =
    let shorter : length first.path < n = (let at = are.0 in omega (arith, at, less)) in
    ap (λ b. cond b (first ∷ with_length n others) (with_length n others)) (no_zero (length first.path) n shorter) ∙ none_so_long n most others less are.1

-- one more of a length is after those that are there
abbrev at_end : ℕ → Cookie → List Cookie → List Cookie
at_end n cookie cookies = cond (length cookie.path == n) (cookies ++ cookie ∷ []) cookies

with_length-placed : (n : ℕ) (cookie : Cookie) (cookies : List Cookie) → LongerFirst cookies → with_length n (placed cookie cookies) ≡ at_end n cookie (with_length n cookies)
with_length-placed n cookie [] are = refl
with_length-placed n cookie (first ∷ later) are =
    let whole = with_length n (first ∷ later) in
    ⊎_elim
    (λ yes.
    let less : length first.path < length cookie.path = ltb-true _ _ yes in
    ap (λ b. with_length n (cond b (cookie ∷ first ∷ later) (first ∷ placed cookie later))) yes
    ∙ ⊎_elim
    (λ so.
    let none : whole ≡ [] = none_so_long n (length first.path) (first ∷ later) (let same : length cookie.path ≡ n = eqb-true _ _ so in omega (arith, less, same)) (omega arith, are.0) in
    ap (λ b. cond b (cookie ∷ whole) whole) so ∙ ap (λ xs. cookie ∷ xs) none ∙ sym (ap (λ b. cond b (whole ++ cookie ∷ []) whole) so ∙ ap (λ xs. xs ++ cookie ∷ []) none))
    (λ other. ap (λ b. cond b (cookie ∷ whole) whole) other ∙ sym (ap (λ b. cond b (whole ++ cookie ∷ []) whole) other))
    (cases_Bool (length cookie.path == n)))
    (λ no.
    let rest = with_length n later in
    let next = with_length-placed n cookie later are.1 in
    ap (λ b. with_length n (cond b (cookie ∷ first ∷ later) (first ∷ placed cookie later))) no
    ∙ ⊎_elim
    (λ so.
    ap (λ b. cond b (first ∷ with_length n (placed cookie later)) (with_length n (placed cookie later))) so
    ∙ ap (λ xs. first ∷ xs) next
    ∙ ⊎_elim
    (λ here. ap (λ b. first ∷ cond b (rest ++ cookie ∷ []) rest) here ∙ sym (ap (λ b. cond b ((first ∷ rest) ++ cookie ∷ []) (first ∷ rest)) here))
    (λ there. ap (λ b. first ∷ cond b (rest ++ cookie ∷ []) rest) there ∙ sym (ap (λ b. cond b ((first ∷ rest) ++ cookie ∷ []) (first ∷ rest)) there))
    (cases_Bool (length cookie.path == n))
    ∙ sym (ap (λ b. at_end n cookie (cond b (first ∷ rest) rest)) so))
    (λ other.
    ap (λ b. cond b (first ∷ with_length n (placed cookie later)) (with_length n (placed cookie later))) other
    ∙ next
    ∙ sym (ap (λ b. at_end n cookie (cond b (first ∷ rest) rest)) other))
    (cases_Bool (length first.path == n)))
    (cases_Bool (nat_lt (length first.path) (length cookie.path)))

filters_commute : (p q : Cookie → Bool) (cookies : List Cookie) → filter p (filter q cookies) ≡ filter q (filter p cookies)
filters_commute p q [] = refl
filters_commute p q (first ∷ others) =
    let rest = filters_commute p q others in
    let left : (a b : Bool) → p first ≡ a → q first ≡ b → filter p (filter q (first ∷ others)) ≡ cond b (cond a (first ∷ filter p (filter q others)) (filter p (filter q others))) (filter p (filter q others)) =
    λ a b is_a is_b. ap (λ t. filter p (cond t (first ∷ filter q others) (filter q others))) is_b ∙ elim b as (λ b. filter p (cond b (first ∷ filter q others) (filter q others)) ≡ cond b (cond a (first ∷ filter p (filter q others)) (filter p (filter q others))) (filter p (filter q others))) [
      | true ↦ ap (λ t. cond t (first ∷ filter p (filter q others)) (filter p (filter q others))) is_a
      | false ↦ refl
    ] in
    let right : (a b : Bool) → p first ≡ a → q first ≡ b → filter q (filter p (first ∷ others)) ≡ cond a (cond b (first ∷ filter q (filter p others)) (filter q (filter p others))) (filter q (filter p others)) =
    λ a b is_a is_b. ap (λ t. filter q (cond t (first ∷ filter p others) (filter p others))) is_a ∙ elim a as (λ a. filter q (cond a (first ∷ filter p others) (filter p others)) ≡ cond a (cond b (first ∷ filter q (filter p others)) (filter q (filter p others))) (filter q (filter p others))) [
      | true ↦ ap (λ t. cond t (first ∷ filter q (filter p others)) (filter q (filter p others))) is_b
      | false ↦ refl
    ] in
    left (p first) (q first) refl refl
    ∙ (elim (p first) as (λ a. cond (q first) (cond a (first ∷ filter p (filter q others)) (filter p (filter q others))) (filter p (filter q others)) ≡ cond a (cond (q first) (first ∷ filter q (filter p others)) (filter q (filter p others))) (filter q (filter p others))) [
      | true ↦ elim (q first) as (λ b. cond b (first ∷ filter p (filter q others)) (filter p (filter q others)) ≡ cond b (first ∷ filter q (filter p others)) (filter q (filter p others))) [ true ↦ ap (λ xs. first ∷ xs) rest | false ↦ rest ]
      | false ↦ elim (q first) as (λ b. cond b (filter p (filter q others)) (filter p (filter q others)) ≡ filter q (filter p others)) [ true ↦ rest | false ↦ rest ]
    ])
    ∙ sym (right (p first) (q first) refl refl)

-- ---- those that count

abbrev others_than : Cookie → List Cookie → List Cookie
others_than cookie cookies = filter (λ other. not (replaces cookie other)) cookies

that_count-more : (file : List Cookie) (cookie : Cookie) → that_count (file ++ cookie ∷ []) ≡ others_than cookie (that_count file) ++ cookie ∷ []
that_count-more [] cookie = refl
that_count-more (first ∷ later) cookie =
    let by : Cookie → Bool = λ other. replaces other first in
    let rest = that_count-more later cookie in
    let kept = that_count later in
    let whole : that_count ((first ∷ later) ++ cookie ∷ []) ≡ cond (list_any by later || (replaces cookie first || false)) (that_count (later ++ cookie ∷ [])) (first ∷ that_count (later ++ cookie ∷ [])) =
    ap (λ b. cond b (that_count (later ++ cookie ∷ [])) (first ∷ that_count (later ++ cookie ∷ []))) (list_any-append by later (cookie ∷ [])) in
    whole
    ∙ ⊎_elim
    (λ gone.
    ap (λ b. cond (b || (replaces cookie first || false)) (that_count (later ++ cookie ∷ [])) (first ∷ that_count (later ++ cookie ∷ []))) gone
    ∙ rest
    ∙ sym (ap (λ b. others_than cookie (cond b kept (first ∷ kept)) ++ cookie ∷ []) gone))
    (λ stays.
    ap (λ b. cond (b || (replaces cookie first || false)) (that_count (later ++ cookie ∷ [])) (first ∷ that_count (later ++ cookie ∷ []))) stays
    ∙ ⊎_elim
    (λ yes.
    ap (λ b. cond (b || false) (that_count (later ++ cookie ∷ [])) (first ∷ that_count (later ++ cookie ∷ []))) yes
    ∙ rest
    ∙ sym (ap (λ b. cond (not b) (first ∷ others_than cookie kept) (others_than cookie kept) ++ cookie ∷ []) yes))
    (λ no.
    ap (λ b. cond (b || false) (that_count (later ++ cookie ∷ [])) (first ∷ that_count (later ++ cookie ∷ []))) no
    ∙ ap (λ xs. first ∷ xs) rest
    ∙ sym (ap (λ b. cond (not b) (first ∷ others_than cookie kept) (others_than cookie kept) ++ cookie ∷ []) no))
    (cases_Bool (replaces cookie first))
    ∙ sym (ap (λ b. others_than cookie (cond b kept (first ∷ kept)) ++ cookie ∷ []) stays))
    (cases_Bool (list_any by later))

-- ---- one more cookie

are_of-more : (file cookies : List Cookie) (cookie : Cookie) → AreOf file cookies → AreOf (file ++ cookie ∷ []) (added cookie cookies)
are_of-more file cookies cookie are =
    let kept : Cookie → Bool = λ other. not (replaces cookie other) in
    let sorted = longer_first-filter kept cookies are.longer_first in
    record {
      longer_first = longer_first-placed cookie (filter kept cookies) sorted;
      in_file_order =
          λ n.
          let p : Cookie → Bool = λ other. length other.path == n in
          let same : with_length n (filter kept cookies) ≡ with_length n (filter kept (that_count file)) =
          filters_commute p kept cookies ∙ ap (filter kept) (are.in_file_order n) ∙ filters_commute kept p (that_count file) in
          with_length-placed n cookie (filter kept cookies) sorted
          ∙ ap (at_end n cookie) same
          ∙ ⊎_elim
          (λ so.
          ap (λ b. cond b (with_length n (filter kept (that_count file)) ++ cookie ∷ []) (with_length n (filter kept (that_count file)))) so
          ∙ sym (filter-append p (filter kept (that_count file)) (cookie ∷ []) ∙ ap (λ b. with_length n (filter kept (that_count file)) ++ cond b (cookie ∷ []) []) so))
          (λ other.
          ap (λ b. cond b (with_length n (filter kept (that_count file)) ++ cookie ∷ []) (with_length n (filter kept (that_count file)))) other
          ∙ sym (filter-append p (filter kept (that_count file)) (cookie ∷ []) ∙ ap (λ b. with_length n (filter kept (that_count file)) ++ cond b (cookie ∷ []) []) other ∙ append-nil (with_length n (filter kept (that_count file)))))
          (cases_Bool (length cookie.path == n))
          ∙ ap (with_length n) (sym (that_count-more file cookie));
    }

-- ---- all lines

by_lines : (number : ℕ) (file cookies : List Cookie) (rest : List Cookie) (out : List Cookie) (next : Option Fields → Result (List Cookie) CookieFault) (r : Result (Option Fields) CookieLineFault)
    → ((said : Option Fields) (before : List Cookie) → AreOf before (said_by cookies said) → next said ≡ Ok out → AreOf (before ++ rest) out)
    → AreOf file cookies → by_line number r next ≡ Ok out → AreOf (file ++ (said_in r ++ rest)) out
by_lines number file cookies rest out next (Err why) later are is = cc
by_lines number file cookies rest out next (Ok None) later are is = later None file are is
by_lines number file cookies rest out next (Ok (Some fields)) later are is =
    subst (λ xs. AreOf xs out) (append_assoc file (cookie_of fields ∷ []) rest)
    (later (Some fields) (file ++ cookie_of fields ∷ []) (are_of-more file cookies (cookie_of fields) are) is)

pub read_order : (lines : List Text) (number : ℕ) (file cookies : List Cookie) (out : List Cookie) → AreOf file cookies → read_lines number cookies lines ≡ Ok out → AreOf (file ++ flat_map (λ line. said_in (read_line line)) lines) out
read_order [] number file cookies out are is =
    let same : cookies ≡ out = cc in
    subst (λ xs. AreOf xs out) (sym (append-nil file)) (subst (λ xs. AreOf file xs) same are)
read_order (line ∷ lines) number file cookies out are is =
    ⊎_elim
    (λ yes.
    let never : Err fault.TooManyLines ≡ Ok out = sym (ap (λ b. cond b (Err fault.TooManyLines) (by_line number (read_line line) (λ said. read_lines (number + 1) (said_by cookies said) lines))) yes) ∙ is in
    cc)
    (λ no.
    by_lines number file cookies (flat_map (λ l. said_in (read_line l)) lines) out (λ said. read_lines (number + 1) (said_by cookies said) lines) (read_line line)
    (λ said before of_before read. read_order lines (number + 1) before (said_by cookies said) out of_before read)
    are
    (sym (ap (λ b. cond b (Err fault.TooManyLines) (by_line number (read_line line) (λ said. read_lines (number + 1) (said_by cookies said) lines))) no) ∙ is))
    (cases_Bool (nat_lt MAX_LINES number))
