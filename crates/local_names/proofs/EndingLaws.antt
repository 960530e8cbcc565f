-- Endings of names: a name is its stem and its ending, in which no slash is, and by which a browser knows the kind.
use Rattle.std.proofs.Common.{zero, suc, ◌≡◌, ◌≢◌, ℕ, ◌+◌, ◌-◌, ◌≤◌, ◌<◌, ◌==◌, ◌||◌, nat_lt, Bool, true, false, cond, map, List, [], ◌∷◌, ◌++◌, length, get_or, take, drop, codes, sym, refl, ap, ◌∙◌, subst, inl, inr, arith, append_assoc}
use Rattle.std.proofs.lemmas.Bool.{cond_both, cond-true, both_ways, or_cases, ltb-true, eq-eqb}
use Rattle.std.proofs.lemmas.List.{length-map, length-append, length-drop, take-append-drop, append-nil, get_or-drop, drop_all}
use Rattle.std.proofs.lemmas.Slice.Eq.{bytes_eq-Decides}
use Rattle.std.proofs.lemmas.Str.{IsCharBoundary-before_ascii, IsCharBoundary-end}
use Rattle.std.proofs.Math.Seq.{drop-append-add}
use Rattle.std.specs.Char.{to_ascii_lowercase}
use Rattle.std.specs.Fmt.{decimal}
use Rattle.std.specs.Str.{IsCharBoundary}
use Rattle.kept_bodies.specs.declared.body_kind.BodyKind.{BodyKind}
use Rattle.kept_bodies.specs.declared.body_kind.BodyKind.TheVariants.{Html, Sheet, Other}
use Rattle.address.specs.Address.{AddressText}
use Rattle.local_names.specs.declared.rules.NameRules.{NameRules}
use Rattle.local_names.specs.declared.plain_name.TheConstants.{MAX_SEGMENT}
use Rattle.local_names.specs.PlainNames.{slash, plain_name_within, plain_name_with, plain_name_of}
use Rattle.local_names.specs.Endings.{ends_in, ending_for, shows_kind, ended_name, ended_names, ending_size, stem_of, ending_of}
use Rattle.local_names.specs.Names.{numbered_by}

-- the text has no `/`
abbrev pub NoSlash : List ℕ → Type 0
NoSlash [] = Unit {0}
NoSlash (b ∷ bs) = (b ≢ slash) × NoSlash bs

pub NoSlash-append : (xs ys : List ℕ) → NoSlash xs → NoSlash ys → NoSlash (xs ++ ys)
NoSlash-append [] ys one other = other
NoSlash-append (x ∷ xs) ys one other = (one.0, NoSlash-append xs ys one.1 other)

pub no_slash_inside : (suffix directory rest : List ℕ) → NoSlash suffix → suffix ≡ directory ++ slash ∷ rest → ⊥
no_slash_inside [] [] rest none is = cc
no_slash_inside [] (d ∷ directory) rest none is = cc
no_slash_inside (b ∷ suffix) [] rest none is = none.0 (let e : b ≡ slash = cc in e)
no_slash_inside (b ∷ suffix) (d ∷ directory) rest none is = no_slash_inside suffix directory rest none.1 (let e : suffix ≡ directory ++ slash ∷ rest = cc in e)

-- ---- the last byte of a text

-- it, or zero if the text is empty
abbrev pub final : List ℕ → ℕ
final [] = 0
final (b ∷ []) = b
final (b ∷ c ∷ bs) = final (c ∷ bs)

pub final-append : (xs : List ℕ) (y : ℕ) (ys : List ℕ) → final (xs ++ y ∷ ys) ≡ final (y ∷ ys)
final-append [] y ys = refl
final-append (x ∷ []) y ys = refl
final-append (x ∷ x' ∷ xs) y ys = final-append (x' ∷ xs) y ys

final-lower : (xs : List ℕ) → final (map to_ascii_lowercase xs) ≡ to_ascii_lowercase (final xs)
final-lower [] = refl
final-lower (x ∷ []) = refl
final-lower (x ∷ y ∷ xs) = final-lower (y ∷ xs)

-- ---- how a name ends

ends_lower : (ending name : List ℕ) → ends_in ending name ≡ true → map to_ascii_lowercase (drop (length name - length ending) name) ≡ map to_ascii_lowercase ending
ends_lower ending name e = (bytes_eq-Decides (map to_ascii_lowercase (drop (length name - length ending) name)) (map to_ascii_lowercase ending)).0 e

ends_fit : (ending name : List ℕ) → ends_in ending name ≡ true → length ending ≤ length name
ends_fit ending name e =
    let tail = drop (length name - length ending) name in
    let same = ap length (ends_lower ending name e) in
    let one = length-map tail to_ascii_lowercase in
    let other = length-map ending to_ascii_lowercase in
    let long = length-drop (length name - length ending) name in
    omega (arith, same, one, other, long)

no_slash_lower : (xs : List ℕ) → NoSlash (map to_ascii_lowercase xs) → NoSlash xs
no_slash_lower [] none = tt
no_slash_lower (x ∷ xs) none = (λ e. none.0 (ap to_ascii_lowercase e), no_slash_lower xs none.1)

low_byte : (x : ℕ) → to_ascii_lowercase x ≡ 46 → x < 128
low_byte x =
    cond_both (nat_lt x 65) x (cond (nat_lt x 91) (x + 32) x) (λ y. y ≡ 46 → x < 128)
    (λ t e. (let less = ltb-true x 65 t in omega (arith, less)))
    (λ _. cond_both (nat_lt x 91) (x + 32) x (λ y. y ≡ 46 → x < 128) (λ t e. (let less = ltb-true x 91 t in omega (arith, less))) (λ _ e. omega (arith, e)))

low_first : (xs rest : List ℕ) → map to_ascii_lowercase xs ≡ 46 ∷ rest → get_or xs 0 0 < 128
low_first [] rest e = cc
low_first (x ∷ xs) rest e = low_byte x (ap (λ ys. get_or ys 0 0) e)

-- what the last bytes of a name have that are an ending
pub record IsEnd (name : List ℕ) (size : ℕ) : Type 0 where
  pub fits : size ≤ length name
  pub no_slash : NoSlash (drop (length name - size) name)
  pub boundary : IsCharBoundary name (length name - size)
  pub no_g : final (drop (length name - size) name) ≢ 103

end_from : (ending rest name : List ℕ) → NoSlash (map to_ascii_lowercase ending) → map to_ascii_lowercase ending ≡ 46 ∷ rest → 1 ≤ length ending → final (map to_ascii_lowercase ending) ≢ 103 → ends_in ending name ≡ true → IsEnd name (length ending)
end_from ending rest name none dot some other e =
    let i = length name - length ending in
    let fits = ends_fit ending name e in
    let lower = ends_lower ending name e in
    let low = low_first (drop i name) rest (lower ∙ dot) in
    record {
      fits = fits;
      no_slash = no_slash_lower (drop i name) (subst NoSlash (sym lower) none);
      boundary = IsCharBoundary-before_ascii name i (omega (arith, fits, some)) (subst (λ b. b < 128) (get_or-drop i name 0 0 ∙ ap (λ k. get_or name k 0) (let same : i + 0 ≡ i = omega arith in same)) low);
      no_g = λ g. other (ap final (sym lower) ∙ final-lower (drop i name) ∙ ap to_ascii_lowercase g);
    }

differs : (a b : ℕ) → (a == b) ≡ false → a ≢ b
differs a b test same = both_ways (a == b) test (eq-eqb a b same)

html_end : (name : List ℕ) → ends_in (codes ".html") name ≡ true → IsEnd name 5
html_end name e = end_from (codes ".html") (codes "html") name (differs 46 47 refl, (differs 104 47 refl, (differs 116 47 refl, (differs 109 47 refl, (differs 108 47 refl, tt))))) refl (omega arith) (differs 108 103 refl) e

htm_end : (name : List ℕ) → ends_in (codes ".htm") name ≡ true → IsEnd name 4
htm_end name e = end_from (codes ".htm") (codes "htm") name (differs 46 47 refl, (differs 104 47 refl, (differs 116 47 refl, (differs 109 47 refl, tt)))) refl (omega arith) (differs 109 103 refl) e

css_end : (name : List ℕ) → ends_in (codes ".css") name ≡ true → IsEnd name 4
css_end name e = end_from (codes ".css") (codes "css") name (differs 46 47 refl, (differs 99 47 refl, (differs 115 47 refl, (differs 115 47 refl, tt)))) refl (omega arith) (differs 115 103 refl) e

no_end : (name : List ℕ) → IsEnd name 0
no_end name =
    let at : length name ≡ length name - 0 = omega arith in
    record {
      fits = omega arith;
      no_slash = subst NoSlash (sym (drop_all (length name - 0) name (omega arith))) tt;
      boundary = subst (IsCharBoundary name) at (IsCharBoundary-end name);
      no_g = subst (λ end. final end ≢ 103) (sym (drop_all (length name - 0) name (omega arith))) (differs 0 103 refl);
    }

pub ending_is : (name : List ℕ) → IsEnd name (ending_size name)
ending_is name =
    let html = ends_in (codes ".html") name in
    let htm = ends_in (codes ".htm") name in
    let css = ends_in (codes ".css") name in
    cond_both html 5 (cond (htm || css) 4 0) (IsEnd name) (html_end name)
    (λ _. cond_both (htm || css) 4 0 (IsEnd name)
    (λ e. elim (or_cases htm css e) [ inl one ↦ htm_end name one | inr other ↦ css_end name other ])
    (λ _. no_end name))

pub no_slash_ending : (has : Bool) (name : List ℕ) → NoSlash (ending_of has name)
no_slash_ending true name = (ending_is name).no_slash
no_slash_ending false name = tt

pub stem_ending : (has : Bool) (name : List ℕ) → stem_of has name ++ ending_of has name ≡ name
stem_ending true name = take-append-drop (length name - ending_size name) name
stem_ending false name = append-nil name

-- the same as the code finds them
pub stem_without : (has : Bool) (name : List ℕ) → has ≡ false → name ≡ stem_of has name
stem_without true name none = cc
stem_without false name none = refl

pub stem_with : (has : Bool) (name : List ℕ) (n : ℕ) → has ≡ true → n ≡ ending_size name → take (length name - n) name ≡ stem_of has name
stem_with true name n is e = ap (λ k. take (length name - k) name) e
stem_with false name n is e = cc

pub ending_without : (has : Bool) (name : List ℕ) → has ≡ false → [] ≡ ending_of has name
ending_without true name none = cc
ending_without false name none = refl

pub ending_with : (has : Bool) (name : List ℕ) (n : ℕ) → has ≡ true → n ≡ ending_size name → drop (length name - n) name ≡ ending_of has name
ending_with true name n is e = ap (λ k. drop (length name - k) name) e
ending_with false name n is e = cc

pub ending_fits : (name : List ℕ) (n : ℕ) → n ≡ ending_size name → n ≤ length name
ending_fits name n e = (let fits = (ending_is name).fits in omega (arith, fits, e))

pub ending_boundary : (name : List ℕ) (n : ℕ) → n ≡ ending_size name → IsCharBoundary name (length name - n)
ending_boundary name n e = subst (λ k. IsCharBoundary name (length name - k)) (sym e) (ending_is name).boundary

-- ---- names that show their kind

tail_of : (n : ℕ) (front rest : List ℕ) → n ≤ length rest → drop (length (front ++ rest) - n) (front ++ rest) ≡ drop (length rest - n) rest
tail_of n front rest le =
    let long = length-append front rest in
    let at : length (front ++ rest) - n ≡ length front + (length rest - n) = omega (arith, long, le) in
    ap (λ k. drop k (front ++ rest)) at ∙ drop-append-add front rest (length rest - n)

ends_alike : (ending front other rest : List ℕ) → length ending ≤ length rest → ends_in ending (front ++ rest) ≡ true → ends_in ending (other ++ rest) ≡ true
ends_alike ending front other rest le e =
    let one = tail_of (length ending) front rest le in
    let two = tail_of (length ending) other rest le in
    (bytes_eq-Decides (map to_ascii_lowercase (drop (length (other ++ rest) - length ending) (other ++ rest))) (map to_ascii_lowercase ending)).1
    (ap (map to_ascii_lowercase) (two ∙ sym one) ∙ ends_lower ending (front ++ rest) e)

-- the number of a name leaves its end as it is
numbered_ends : (ending name : List ℕ) (k : ℕ) → length ending ≤ ending_size name → ends_in ending name ≡ true → ends_in ending (stem_of true name ++ 46 ∷ (decimal k ++ ending_of true name)) ≡ true
numbered_ends ending name k le e =
    let stem = stem_of true name in
    let rest = ending_of true name in
    let fits = (ending_is name).fits in
    let long : length rest ≡ ending_size name = (let d = length-drop (length name - ending_size name) name in omega (arith, d, fits)) in
    subst (λ x. ends_in ending x ≡ true) (append_assoc stem (46 ∷ decimal k) rest)
    (ends_alike ending stem (stem ++ 46 ∷ decimal k) rest (omega (arith, long, le)) (subst (λ x. ends_in ending x ≡ true) (sym (stem_ending true name)) e))

size_of_html : (name : List ℕ) → ends_in (codes ".html") name ≡ true → 5 ≤ ending_size name
size_of_html name e = (let at = cond-true {A = ℕ} (ends_in (codes ".html") name) 5 (cond (ends_in (codes ".htm") name || ends_in (codes ".css") name) 4 0) e in omega (arith, at))

size_of_other : (name : List ℕ) → (ends_in (codes ".htm") name || ends_in (codes ".css") name) ≡ true → 4 ≤ ending_size name
size_of_other name e =
    cond_both (ends_in (codes ".html") name) 5 (cond (ends_in (codes ".htm") name || ends_in (codes ".css") name) 4 0) (λ n. 4 ≤ n) (λ _. omega arith)
    (λ _. (let at = cond-true {A = ℕ} (ends_in (codes ".htm") name || ends_in (codes ".css") name) 4 0 e in omega (arith, at)))

or_left : (a b : Bool) → a ≡ true → (a || b) ≡ true
or_left true b e = refl
or_left false b e = cc

or_right : (a b : Bool) → b ≡ true → (a || b) ≡ true
or_right true b e = refl
or_right false b e = e

numbered_shows_suc : (kind : BodyKind) (name : List ℕ) (k : ℕ) → shows_kind kind name ≡ true → shows_kind kind (stem_of true name ++ 46 ∷ (decimal k ++ ending_of true name)) ≡ true
numbered_shows_suc Html name k e =
    let new = stem_of true name ++ 46 ∷ (decimal k ++ ending_of true name) in
    elim (or_cases (ends_in (codes ".html") name) (ends_in (codes ".htm") name) e) [
      | inl html ↦ or_left (ends_in (codes ".html") new) (ends_in (codes ".htm") new) (numbered_ends (codes ".html") name k (size_of_html name html) html)
      | inr htm ↦ or_right (ends_in (codes ".html") new) (ends_in (codes ".htm") new)
          (numbered_ends (codes ".htm") name k (size_of_other name (or_left (ends_in (codes ".htm") name) (ends_in (codes ".css") name) htm)) htm)
    ]
numbered_shows_suc Sheet name k e = numbered_ends (codes ".css") name k (size_of_other name (or_right (ends_in (codes ".htm") name) (ends_in (codes ".css") name) e)) e
numbered_shows_suc Other name k e = refl

pub numbered_shows : (kind : BodyKind) (name : List ℕ) (k : ℕ) → shows_kind kind name ≡ true → shows_kind kind (numbered_by true name k) ≡ true
numbered_shows kind name k e =
    cond_both (k == 0) name (stem_of true name ++ 46 ∷ (decimal k ++ ending_of true name)) (λ x. shows_kind kind x ≡ true) (λ _. e) (λ _. numbered_shows_suc kind name k e)

ends_whole : (ending front : List ℕ) → ends_in ending (front ++ ending) ≡ true
ends_whole ending front =
    (bytes_eq-Decides (map to_ascii_lowercase (drop (length (front ++ ending) - length ending) (front ++ ending))) (map to_ascii_lowercase ending)).1
    (ap (map to_ascii_lowercase) (tail_of (length ending) front ending (omega arith) ∙ ap (λ n. drop n ending) (none (length ending))))
  where
    none : (n : ℕ) → n - n ≡ 0
    none n = omega arith

added_shows : (kind : BodyKind) (front : List ℕ) → shows_kind kind (front ++ ending_for kind) ≡ true
added_shows Html front = or_left (ends_in (codes ".html") (front ++ codes ".html")) (ends_in (codes ".htm") (front ++ codes ".html")) (ends_whole (codes ".html") front)
added_shows Sheet front = ends_whole (codes ".css") front
added_shows Other front = refl

pub ended_shows : (rules : NameRules) (kind : BodyKind) (page : AddressText) → shows_kind kind (ended_name rules kind page) ≡ true
ended_shows rules kind page =
    let plain = plain_name_of rules page in
    let front = plain_name_within (MAX_SEGMENT - length (ending_for kind)) rules page in
    cond_both (shows_kind kind plain) plain (plain_name_with (ending_for kind) rules page) (λ x. shows_kind kind x ≡ true) (λ e. e) (λ _. added_shows kind front)

-- ---- the plain names of a list

pub length-ended_names : (rules : NameRules) (pages : List AddressText) (kinds : List BodyKind) → length (ended_names rules pages kinds) ≡ length pages
length-ended_names rules [] kinds = refl
length-ended_names rules (page ∷ pages) [] = ap suc (length-ended_names rules pages [])
length-ended_names rules (page ∷ pages) (kind ∷ kinds) = ap suc (length-ended_names rules pages kinds)

pub get_or-ended_names : (rules : NameRules) (pages : List AddressText) (kinds : List BodyKind) (i : ℕ) (p : AddressText) → i < length pages → get_or (ended_names rules pages kinds) i [] ≡ ended_name rules (get_or kinds i Other) (get_or pages i p)
get_or-ended_names rules [] kinds i p below = absurd (omega arith)
get_or-ended_names rules (page ∷ pages) [] zero p below = refl
get_or-ended_names rules (page ∷ pages) [] (suc i) p below = get_or-ended_names rules pages [] i p (omega arith)
get_or-ended_names rules (page ∷ pages) (kind ∷ kinds) zero p below = refl
get_or-ended_names rules (page ∷ pages) (kind ∷ kinds) (suc i) p below = get_or-ended_names rules pages kinds i p (omega arith)

pub ended_names_more : (rules : NameRules) (pages : List AddressText) (kinds : List BodyKind) (i : ℕ) (p : AddressText) → i < length pages
    → ended_names rules (take (i + 1) pages) kinds ≡ ended_names rules (take i pages) kinds ++ ended_name rules (get_or kinds i Other) (get_or pages i p) ∷ []
ended_names_more rules pages kinds i p below = ap (λ n. ended_names rules (take n pages) kinds) (let e : i + 1 ≡ suc i = omega arith in e) ∙ more pages kinds i below
  where
    more : (pages : List AddressText) (kinds : List BodyKind) (i : ℕ) → i < length pages → ended_names rules (take (suc i) pages) kinds ≡ ended_names rules (take i pages) kinds ++ ended_name rules (get_or kinds i Other) (get_or pages i p) ∷ []
    more [] kinds i below = absurd (omega arith)
    more (page ∷ pages) [] zero below = refl
    more (page ∷ pages) [] (suc i) below = ap (λ names. ended_name rules Other page ∷ names) (more pages [] i (omega arith))
    more (page ∷ pages) (kind ∷ kinds) zero below = refl
    more (page ∷ pages) (kind ∷ kinds) (suc i) below = ap (λ names. ended_name rules kind page ∷ names) (more pages kinds i (omega arith))
