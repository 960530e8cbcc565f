-- Units: what each has, those of a text, and what is left when they are cut.
use Rattle.std.proofs.Common.{zero, suc, ◌≡◌, ◌≢◌, ℕ, ◌+◌, ◌-◌, ◌≤◌, ◌<◌, ◌==◌, nat_eq, nat_lt, Bool, true, false, not, ◌&&◌, ◌||◌, cond, Option, Some, None, List, [], ◌∷◌, ◌++◌, length, take, drop, map, codes, get_or, All, refl, sym, ap, ◌∙◌, subst, inl, inr, arith, length-append, replicate}
use Rattle.std.proofs.lemmas.Bool.{cond_both, cond-true, cond-false, both_ways, and_parts, cases_lt, lt-ltb, ltb-true, ltb-false, false_from_ne_true, ne_eqb, eq-eqb, eqb-true}
use Rattle.std.proofs.lemmas.Bool.Decides.{nat_tests}
use Rattle.std.proofs.lemmas.List.{append-nil, length-map, drop_at, take_rest}
use Rattle.std.proofs.lemmas.List.Elements.{All-nil, All-cons, All-head, All-tail, All-append, All-map, All-drop, All-weaker, All-from_get_or}
use Rattle.std.proofs.lemmas.Str.{length-encode, len_utf8_bounds, encode_ascii, inside_one}
use Rattle.std.specs.Char.{encode_utf8}
use Rattle.std.specs.List.{starts_with, list_all, concat}
use Rattle.std.specs.Str.{IsUtf8, all_scalars, encode_utf8_all}
use Rattle.bstr.specs.Utf8.{Decoded, decoded, good, pieces}
use Rattle.bstr.proofs.lemmas.EncodeLemmas.{decoded-encode}
use Rattle.bstr.proofs.lemmas.PieceLemmas.{piece-bounds, pieces-nil, pieces-step}
use Rattle.percent_encoding.specs.Percent.{percent_encode_byte}
use Rattle.percent_encoding.proofs.PercentLemmas.{IsEscapeByte, All-percent_encode_byte}
use Rattle.local_names.specs.declared.plain_name.TheConstants.{MAX_SEGMENT, PART}
use Rattle.local_names.specs.declared.rules.CharRules.{CharRules}
use Rattle.local_names.specs.declared.rules.LetterCase.{LetterCase}
use Rattle.local_names.specs.declared.rules.LetterCase.TheVariants.{AsIs, Lower, Upper}
use Rattle.local_names.specs.Rules.{usual_chars}
use Rattle.local_names.specs.PlainNames.{slash, is_slash, is_dot, is_control, is_kept, in_case, piece_units, units_by, units_of, marked_units, without_dots, cut, is_part, cut_in, segment_within, local_segment}
use Rattle.local_names.specs.declared.unit.Unit.{Unit}
use Rattle.local_names.specs.declared.unit.Unit.TheVariants.{Escape}
use Rattle.local_names.specs.inner.Units.{unit_text, started, is_new}
use Rattle.local_names.specs.LocalNames.{IsInner, IsShort}

-- ---- what each unit has

-- a byte of a segment of a name: no control byte, and no slash
abbrev pub IsSegmentByte : ℕ → Type 0
IsSegmentByte byte = (32 ≤ byte) × (byte ≢ 127) × (byte ≢ slash)

pub uncontrolled : (byte : ℕ) → 32 ≤ byte → byte ≢ 127 → is_control byte ≡ false
uncontrolled byte low differs = ap (λ b. b || byte == 127) (false_from_ne_true (nat_lt byte 32) (λ t. (let less = ltb-true byte 32 t in omega arith))) ∙ ne_eqb byte 127 differs

neither : (a b : Bool) → (a || b) ≡ false → (a ≡ false) × (b ≡ false)
neither true b e = cc
neither false b e = (refl, e)

differs_from : (a b : ℕ) → (a == b) ≡ false → a ≢ b
differs_from a b test same = both_ways (a == b) test (subst (λ x. (a == x) ≡ true) same (same_number a))
  where
    same_number : (n : ℕ) → (n == n) ≡ true
    same_number n = grind (arith, nat_tests)

pub controlled_not : (byte : ℕ) → is_control byte ≡ false → (32 ≤ byte) × (byte ≢ 127)
controlled_not byte is = let both = neither (nat_lt byte 32) (byte == 127) is in (ltb-false byte 32 both.0, differs_from byte 127 both.1)

-- what every unit is
pub record IsUnit (unit : List ℕ) : Type 0 where
  pub present : 1 ≤ length unit
  pub short : length unit ≤ 4
  pub bytes : All IsSegmentByte unit

escape_byte : (byte : ℕ) → IsEscapeByte byte → IsSegmentByte byte
escape_byte byte is = elim is [
  | inl percent ↦ (omega arith, λ e. omega (arith, e), λ e. omega (arith, e))
  | inr (inl (low, high)) ↦ (omega arith, λ e. omega (arith, e), λ e. omega (arith, e))
  | inr (inr (low, high)) ↦ (omega arith, λ e. omega (arith, e), λ e. omega (arith, e))
]

pub length-escape : (byte : ℕ) → length (percent_encode_byte byte) ≡ 3
unfolding percent_encode_byte
length-escape byte = refl

pub escape_is_unit : (byte : ℕ) → IsUnit (percent_encode_byte byte)
escape_is_unit byte =
    let long = length-escape byte in
    record { present = omega arith; short = omega arith; bytes = All-weaker IsEscapeByte IsSegmentByte escape_byte (percent_encode_byte byte) (All-percent_encode_byte byte) }

pub char_is_unit : (c : ℕ) → IsSegmentByte c → IsUnit (encode_utf8 c)
char_is_unit c is =
    let long = length-encode c in
    let bounds = len_utf8_bounds c in
    record {
      present = omega (arith, long, bounds.0);
      short = omega (arith, long, bounds.1);
      bytes = All-from_get_or IsSegmentByte (encode_utf8 c) 0 (λ k below. elim (cases_lt (get_or (encode_utf8 c) k 0) 128) [
        | inl low ↦ subst IsSegmentByte (inside_one c [] (encode_utf8 c) k (sym (append-nil (encode_utf8 c))) below low) is
        | inr high ↦ (omega arith, λ e. omega (arith, e), λ e. omega (arith, e))
      ]);
    }

first_two : (a b c d : Bool) → (not a && not b && c && d) ≡ true → (a ≡ false) × (b ≡ false)
first_two true b c d e = cc
first_two false true c d e = cc
first_two false false c d e = (refl, refl)

kept_byte : (rules : CharRules) (c : ℕ) → is_kept rules c ≡ true → IsSegmentByte c
kept_byte rules c kept =
    let both = first_two (is_control c) (is_slash c) _ _ kept in
    let shown = controlled_not c both.0 in
    (shown.0, shown.1, differs_from c slash both.1)

cased_byte : (letters : LetterCase) (c : ℕ) → IsSegmentByte c → IsSegmentByte (in_case letters c)
cased_byte AsIs c is = is
cased_byte Lower c is =
    cond_both (nat_lt c 65) c (cond (nat_lt c 91) (c + 32) c) IsSegmentByte (λ _. is)
    (λ _. cond_both (nat_lt c 91) (c + 32) c IsSegmentByte
    (λ t. (let less = ltb-true c 91 t in let low = is.0 in (omega arith, λ e. omega (arith, e), λ e. omega (arith, e))))
    (λ _. is))
cased_byte Upper c is =
    cond_both (nat_lt c 97) c (cond (nat_lt c 123) (c - 32) c) IsSegmentByte (λ _. is)
    (λ f. cond_both (nat_lt c 123) (c - 32) c IsSegmentByte
    (λ t. (let less = ltb-true c 123 t in let more = ltb-false c 97 f in (omega arith, λ e. omega (arith, e), λ e. omega (arith, e))))
    (λ _. is))

-- ---- dots

and_true : (b : Bool) → (b && true) ≡ b
and_true true = refl
and_true false = refl

starts_high : (c : ℕ) (bytes : List ℕ) → 128 ≤ c → bytes ≡ encode_utf8 c → 1 ≤ length bytes → list_all is_dot bytes ≡ false
starts_high c [] high is some = absurd (omega arith)
starts_high c (b ∷ bytes) high is some =
    let size : 0 < length (encode_utf8 c) = omega (arith, ap length is) in
    let differs : b ≢ 46 = λ e. (let same = inside_one c [] (b ∷ bytes) 0 (is ∙ sym (append-nil (encode_utf8 c))) size (omega (arith, e)) in omega (arith, e, same)) in
    ap (λ t. t && list_all is_dot bytes) (ne_eqb b 46 differs)

pub dot_char : (c : ℕ) → (c == 46) ≡ list_all is_dot (encode_utf8 c)
dot_char c = elim (cases_lt c 128) [
  | inl low ↦ sym (ap (list_all is_dot) (encode_ascii c low) ∙ and_true (c == 46))
  | inr high ↦ (
      let long = length-encode c in
      let bounds = len_utf8_bounds c in
      ne_eqb c 46 (λ e. omega (arith, e)) ∙ sym (starts_high c (encode_utf8 c) high refl (omega (arith, long, bounds.0))))
]

pub dot_escape : (byte : ℕ) → false ≡ list_all is_dot (percent_encode_byte byte)
unfolding percent_encode_byte
dot_escape byte = refl

-- ---- the units of a text

escapes_are : (bytes : List ℕ) → All IsUnit (map percent_encode_byte bytes)
escapes_are bytes = All-map IsUnit percent_encode_byte bytes (λ k d below. escape_is_unit (get_or bytes k d))

piece_is : (rules : CharRules) (found : Option ℕ) (bytes : List ℕ) → All IsUnit (piece_units rules found bytes)
piece_is rules None bytes = escapes_are bytes
piece_is rules (Some c) bytes =
    cond_both (is_kept rules c) (encode_utf8 (in_case rules.letter_case c) ∷ []) (map percent_encode_byte bytes) (All IsUnit)
    (λ kept. All-cons IsUnit (encode_utf8 (in_case rules.letter_case c)) [] (char_is_unit (in_case rules.letter_case c) (cased_byte rules.letter_case c (kept_byte rules c kept))) (All-nil IsUnit))
    (λ _. escapes_are bytes)

units_by_are : (rules : CharRules) (ps : List Decoded) (bytes : List ℕ) → All IsUnit (units_by rules ps bytes)
units_by_are rules [] bytes = All-nil IsUnit
units_by_are rules (p ∷ ps) bytes =
    All-append IsUnit (piece_units rules p.char (take p.size bytes)) (units_by rules ps (drop p.size bytes)) (piece_is rules p.char (take p.size bytes)) (units_by_are rules ps (drop p.size bytes))

pub units_are : (rules : CharRules) (bytes : List ℕ) → All IsUnit (units_of rules bytes)
unfolding units_of
units_are rules bytes = units_by_are rules (pieces bytes) bytes

pub marked_are : (rules : CharRules) (mark : ℕ) (bytes : List ℕ) → IsSegmentByte mark → All IsUnit (marked_units rules mark bytes)
marked_are rules mark [] is = All-nil IsUnit
marked_are rules mark (byte ∷ bytes) is =
    All-cons IsUnit (mark ∷ []) (units_of rules bytes) (record { present = omega arith; short = omega arith; bytes = All-cons IsSegmentByte mark [] is (All-nil IsSegmentByte) }) (units_are rules bytes)

pub units_of-nil : (rules : CharRules) → units_of rules [] ≡ []
unfolding units_of
units_of-nil rules = ap (λ ps. units_by rules ps []) pieces-nil

pub units_of-step : (rules : CharRules) (bytes : List ℕ) → 0 < length bytes → units_of rules bytes ≡ piece_units rules (decoded bytes).char (take (decoded bytes).size bytes) ++ units_of rules (drop (decoded bytes).size bytes)
unfolding units_of
units_of-step rules bytes some = ap (λ ps. units_by rules ps bytes) (pieces-step bytes some)

escapes_present : (bytes : List ℕ) → 0 < length bytes → 0 < length (map percent_encode_byte bytes)
escapes_present [] some = absurd (omega arith)
escapes_present (b ∷ bytes) some = omega arith

piece_present : (rules : CharRules) (found : Option ℕ) (bytes : List ℕ) → 0 < length bytes → 0 < length (piece_units rules found bytes)
piece_present rules None bytes some = escapes_present bytes some
piece_present rules (Some c) bytes some =
    cond_both (is_kept rules c) (encode_utf8 (in_case rules.letter_case c) ∷ []) (map percent_encode_byte bytes) (λ us. 0 < length us) (λ _. omega arith) (λ _. escapes_present bytes some)

taken_some : (n : ℕ) (xs : List ℕ) → 1 ≤ n → 0 < length xs → 0 < length (take n xs)
taken_some zero xs some there = absurd (omega arith)
taken_some (suc n) [] some there = absurd (omega arith)
taken_some (suc n) (x ∷ xs) some there = omega arith

pub units_present : (rules : CharRules) (bytes : List ℕ) → 0 < length bytes → 0 < length (units_of rules bytes)
units_present rules bytes some =
    let size = (decoded bytes).size in
    let front = piece_units rules (decoded bytes).char (take size bytes) in
    let there = piece_present rules (decoded bytes).char (take size bytes) (taken_some size bytes (piece-bounds bytes some).0 some) in
    let long : length (front ++ units_of rules (drop size bytes)) ≡ length front + length (units_of rules (drop size bytes)) = length-append front (units_of rules (drop size bytes)) in
    subst (λ us. 0 < length us) (sym (units_of-step rules bytes some)) (omega (arith, there, long))

-- ---- a text of which nothing is escaped

usual_kept : (c : ℕ) → IsSegmentByte c → is_kept usual_chars c ≡ true
usual_kept c is =
    let shown : not (is_control c) ≡ true = ap not (uncontrolled c is.0 is.1) in
    let apart : not (is_slash c) ≡ true = ap not (ne_eqb c slash is.2) in
    ap (λ a. a && not (is_slash c) && true && true) shown ∙ ap (λ a. true && a && true && true) apart

-- a character of which each byte is one of a segment
char_byte : (c : ℕ) → All IsSegmentByte (encode_utf8 c) → IsSegmentByte c
char_byte c all = elim (cases_lt c 128) [
  | inl low ↦ All-head IsSegmentByte c [] (subst (All IsSegmentByte) (encode_ascii c low) all)
  | inr high ↦ (omega arith, λ e. omega (arith, e), λ e. omega (arith, e))
]

pub all_front : {X : Type 0} (P : X → Type 0) (xs ys : List X) → All P (xs ++ ys) → All P xs
all_front P [] ys all = All-nil P
all_front P (x ∷ xs) ys all = All-cons P x xs (All-head P x (xs ++ ys) all) (all_front P xs ys (All-tail P x (xs ++ ys) all))

pub all_back : {X : Type 0} (P : X → Type 0) (xs ys : List X) → All P (xs ++ ys) → All P ys
all_back P [] ys all = all
all_back P (x ∷ xs) ys all = all_back P xs ys (All-tail P x (xs ++ ys) all)

kept_chars : (cs : List ℕ) → all_scalars cs ≡ true → All IsSegmentByte (encode_utf8_all cs) → concat (units_of usual_chars (encode_utf8_all cs)) ≡ encode_utf8_all cs
kept_chars [] scalars all = ap concat (units_of-nil usual_chars)
kept_chars (c ∷ cs) scalars all =
    let both = and_parts _ _ scalars in
    let own = encode_utf8 c in
    let tail = encode_utf8_all cs in
    let long = length-encode c in
    let bounds = len_utf8_bounds c in
    let size = length-append own tail in
    let read : decoded (own ++ tail) ≡ good c (length own) = decoded-encode c tail both.0 in
    let kept : is_kept usual_chars c ≡ true = usual_kept c (char_byte c (all_front IsSegmentByte own tail all)) in
    let first : piece_units usual_chars (Some c) (take (length own) (own ++ tail)) ≡ own ∷ [] = cond-true (is_kept usual_chars c) (own ∷ []) (map percent_encode_byte (take (length own) (own ++ tail))) kept in
    let step : units_of usual_chars (own ++ tail) ≡ own ∷ units_of usual_chars tail =
    units_of-step usual_chars (own ++ tail) (omega (arith, long, bounds.0, size))
    ∙ ap (λ (p : Decoded). piece_units usual_chars p.char (take p.size (own ++ tail)) ++ units_of usual_chars (drop p.size (own ++ tail))) read
    ∙ ap (λ us. us ++ units_of usual_chars (drop (length own) (own ++ tail))) first
    ∙ ap (λ rest. own ∷ units_of usual_chars rest) (drop_at own tail (length own) refl) in
    ap concat step ∙ ap (λ rest. own ++ rest) (kept_chars cs both.1 (all_back IsSegmentByte own tail all))

pub kept_text : (text : List ℕ) → IsUtf8 text → All IsSegmentByte text → concat (units_of usual_chars text) ≡ text
kept_text text (cs, (scalars, is)) all =
    subst (λ t. concat (units_of usual_chars t) ≡ t) is (kept_chars cs scalars (subst (All IsSegmentByte) (sym is) all))

-- ---- cut

pub cut_at_no_more : (n : ℕ) (unit : List ℕ) (units : List (List ℕ)) → n < length unit → cut n (unit ∷ units) ≡ []
cut_at_no_more n unit units less = cond-true (nat_lt n (length unit)) [] (unit ++ cut (n - length unit) units) (lt-ltb n (length unit) less)

pub cut_at_room : (n : ℕ) (unit : List ℕ) (units : List (List ℕ)) → length unit ≤ n → cut n (unit ∷ units) ≡ unit ++ cut (n - length unit) units
cut_at_room n unit units fits =
    cond-false (nat_lt n (length unit)) [] (unit ++ cut (n - length unit) units) (false_from_ne_true (nat_lt n (length unit)) (λ t. (let less = ltb-true n (length unit) t in omega arith)))

pub cut_all : (n : ℕ) (units : List (List ℕ)) → length (concat units) ≤ n → cut n units ≡ concat units
cut_all n [] fits = refl
cut_all n (unit ∷ units) fits =
    let long = length-append unit (concat units) in
    cut_at_room n unit units (omega (arith, long)) ∙ ap (λ rest. unit ++ rest) (cut_all (n - length unit) units (omega (arith, long)))

pub length-cut : (n : ℕ) (units : List (List ℕ)) → length (cut n units) ≤ n
length-cut n [] = omega arith
length-cut n (unit ∷ units) =
    cond_both (nat_lt n (length unit)) [] (unit ++ cut (n - length unit) units) (λ text. length text ≤ n) (λ _. omega arith)
    (λ f. (let fits = ltb-false n (length unit) f in omega (arith, length-append unit (cut (n - length unit) units), length-cut (n - length unit) units)))

pub All-cut : (n : ℕ) (units : List (List ℕ)) → All IsUnit units → All IsSegmentByte (cut n units)
All-cut n [] all = All-nil IsSegmentByte
All-cut n (unit ∷ units) all =
    cond_both (nat_lt n (length unit)) [] (unit ++ cut (n - length unit) units) (All IsSegmentByte) (λ _. All-nil IsSegmentByte)
    (λ _. All-append IsSegmentByte unit (cut (n - length unit) units) ((All-head IsUnit unit units all).bytes) (All-cut (n - length unit) units (All-tail IsUnit unit units all)))

-- what is much shorter than the cut wasn't cut
cut_whole : (n : ℕ) (units : List (List ℕ)) → All IsUnit units → length (cut n units) + 4 ≤ n → cut n units ≡ concat units
cut_whole n [] all short = refl
cut_whole n (unit ∷ units) all short =
    let own = All-head IsUnit unit units all in
    let small = own.short in
    elim (cases_lt n (length unit)) [
      | inl less ↦ absurd (omega (arith, ap length (cut_at_no_more n unit units less)))
      | inr fits ↦ (
          let is = cut_at_room n unit units fits in
          let long = length-append unit (cut (n - length unit) units) in
          is ∙ ap (λ rest. unit ++ rest) (cut_whole (n - length unit) units (All-tail IsUnit unit units all) (omega (arith, ap length is, long))))
    ]

cut_present : (n : ℕ) (units : List (List ℕ)) → 4 ≤ n → All IsUnit units → 0 < length units → 1 ≤ length (cut n units)
cut_present n [] room all some = absurd (omega arith)
cut_present n (unit ∷ units) room all some =
    let own = All-head IsUnit unit units all in
    let small = own.short in
    let there = own.present in
    let is = cut_at_room n unit units (omega arith) in
    omega (arith, ap length is, length-append unit (cut (n - length unit) units))

-- ---- names to which segments are added

pub started_none : (name : List ℕ) → length name ≡ 0 → name ≡ started name
started_none [] none = refl
started_none (b ∷ name) none = absurd (omega (arith, none))

pub started_some : (name : List ℕ) → 0 < length name → name ++ slash ∷ [] ≡ started name
started_some [] some = absurd (omega arith)
started_some (b ∷ name) some = refl

pub started_new : (name : List ℕ) → is_new (started name) ≡ is_new name
started_new [] = refl
started_new (b ∷ name) = refl

pub filled : (units : List Unit) → map unit_text (replicate (length units) (Escape 46)) ≡ map (λ dot. percent_encode_byte 46) (map unit_text units)
filled [] = refl
filled (unit ∷ units) = ap (λ us. percent_encode_byte 46 ∷ us) (filled units)

pub marked_none : (rules : CharRules) (mark : ℕ) (text : List ℕ) → length text ≡ 0 → marked_units rules mark text ≡ []
marked_none rules mark [] none = refl
marked_none rules mark (b ∷ text) none = absurd (omega (arith, none))

pub marked_some : (rules : CharRules) (mark : ℕ) (text : List ℕ) → 0 < length text → (mark ∷ []) ∷ units_of rules (take (length text - 1) (drop 1 text)) ≡ marked_units rules mark text
marked_some rules mark [] some = absurd (omega arith)
marked_some rules mark (b ∷ text) some = ap (λ rest. (mark ∷ []) ∷ units_of rules rest) (take_rest (b ∷ text) 1)

pub dots_together : (units : List Unit) → list_all (λ unit. list_all is_dot (unit_text unit)) units ≡ list_all is_dot (concat (map unit_text units))
dots_together [] = refl
dots_together (unit ∷ units) =
    ap (λ rest. list_all is_dot (unit_text unit) && rest) (dots_together units) ∙ sym (all_joined (unit_text unit) (concat (map unit_text units)))
  where
    and_assoc : (a b d : Bool) → (a && (b && d)) ≡ ((a && b) && d)
    and_assoc true b d = refl
    and_assoc false b d = refl

    all_joined : (xs ys : List ℕ) → list_all is_dot (xs ++ ys) ≡ (list_all is_dot xs && list_all is_dot ys)
    all_joined [] ys = refl
    all_joined (x ∷ xs) ys = ap (λ rest. is_dot x && rest) (all_joined xs ys) ∙ and_assoc (is_dot x) (list_all is_dot xs) (list_all is_dot ys)

-- ---- segments

-- what every segment of a name is
pub record IsSegment (segment : List ℕ) : Type 0 where
  pub inner : IsInner segment
  pub bytes : All IsSegmentByte segment

cut_is_not : (n : ℕ) (units : List (List ℕ)) (text : List ℕ) → All IsUnit units → length text + 4 ≤ n → (concat units ≡ text → ⊥) → cut n units ≢ text
cut_is_not n units text all short never is = never (sym (cut_whole n units all (omega (arith, ap length is))) ∙ is)

cut_inner : (n : ℕ) (units : List (List ℕ)) → 6 ≤ n → All IsUnit units → 0 < length units → (concat units ≡ codes "." → ⊥) → (concat units ≡ codes ".." → ⊥) → IsInner (cut n units)
cut_inner n units room all some here above =
    record {
      present = λ e. (let there = cut_present n units (omega arith) all some in omega (arith, ap length e));
      not_here = cut_is_not n units (codes ".") all (omega arith) here;
      not_above = cut_is_not n units (codes "..") all (omega arith) above;
    }

escaped_dots_are : (units : List (List ℕ)) → All IsUnit (map (λ dot. percent_encode_byte 46) units)
escaped_dots_are units = All-map IsUnit (λ (dot : List ℕ). percent_encode_byte 46) units (λ k d below. escape_is_unit 46)

escaped_dot : percent_encode_byte 46 ≡ 37 ∷ 50 ∷ 69 ∷ []
unfolding percent_encode_byte
escaped_dot = refl

no_dot_first : (units : List (List ℕ)) (rest : List ℕ) → 0 < length units → concat (map (λ dot. percent_encode_byte 46) units) ≡ 46 ∷ rest → ⊥
no_dot_first [] rest some e = omega arith
no_dot_first (unit ∷ units) rest some e =
    let others = concat (map (λ (dot : List ℕ). percent_encode_byte 46) units) in
    let first : 37 ≡ 46 = sym (ap (λ (xs : List ℕ). get_or (xs ++ others) 0 0) escaped_dot) ∙ ap (λ xs. get_or xs 0 0) e in
    omega (arith, first)

not_dots : (units : List (List ℕ)) (text : List ℕ) → list_all is_dot text ≡ true → list_all is_dot (concat units) ≡ false → concat units ≡ text → ⊥
not_dots units text dots mixed is = both_ways (list_all is_dot (concat units)) mixed (ap (list_all is_dot) is ∙ dots)

-- units that name neither a directory nor the one above it
record AreNamed (units : List (List ℕ)) : Type 0 where
  all : All IsUnit units
  some : 0 < length units
  not_here : concat units ≡ codes "." → ⊥
  not_above : concat units ≡ codes ".." → ⊥

without_dots_named : (units : List (List ℕ)) → All IsUnit units → 0 < length units → AreNamed (without_dots units)
without_dots_named units all some =
    let escapes = map (λ (dot : List ℕ). percent_encode_byte 46) units in
    let long = length-map units (λ (dot : List ℕ). percent_encode_byte 46) in
    cond_both (list_all is_dot (concat units)) escapes units AreNamed
    (λ dots. record { all = escaped_dots_are units; some = omega (arith, long); not_here = no_dot_first units [] some; not_above = no_dot_first units (46 ∷ []) some })
    (λ mixed. record { all = all; some = some; not_here = not_dots units (codes ".") refl mixed; not_above = not_dots units (codes "..") refl mixed })

pub not_short : (xs ys : List ℕ) → length ys < length xs → xs ≢ ys
not_short xs ys longer e = let same : length xs ≡ length ys = ap length e in omega arith

-- a segment whose first dot is escaped
first_escaped : ℕ → List (List ℕ) → List ℕ
first_escaped room units = percent_encode_byte 46 ++ cut (room - 3) (drop 1 units)

length-first_escaped : (room : ℕ) (units : List (List ℕ)) → length (first_escaped room units) ≡ 3 + length (cut (room - 3) (drop 1 units))
unfolding first_escaped
length-first_escaped room units = length-append (percent_encode_byte 46) (cut (room - 3) (drop 1 units)) ∙ ap (λ n. n + length (cut (room - 3) (drop 1 units))) (length-escape 46)

first_escaped_is : (room : ℕ) (units : List (List ℕ)) → All IsUnit units → IsSegment (first_escaped room units)
unfolding first_escaped
first_escaped_is room units all =
    let text = first_escaped room units in
    let long = length-first_escaped room units in
    record {
      inner = record { present = not_short text [] (omega (arith, long)); not_here = not_short text (codes ".") (omega (arith, long)); not_above = not_short text (codes "..") (omega (arith, long)) };
      bytes = All-append IsSegmentByte (percent_encode_byte 46) (cut (room - 3) (drop 1 units)) ((escape_is_unit 46).bytes) (All-cut (room - 3) (drop 1 units) (All-drop IsUnit 1 units all));
    }

cut_in_is : (is_first : Bool) (room : ℕ) (units : List (List ℕ)) → 6 ≤ room → AreNamed units → IsSegment (cut_in is_first room units)
unfolding first_escaped
cut_in_is is_first room units wide named =
    cond_both (is_first && is_part (cut room units)) (first_escaped room units) (cut room units) IsSegment
    (λ _. first_escaped_is room units named.all)
    (λ _. record { inner = cut_inner room units wide named.all named.some named.not_here named.not_above; bytes = All-cut room units named.all })

length-cut_in : (is_first : Bool) (room : ℕ) (units : List (List ℕ)) → 3 ≤ room → length (cut_in is_first room units) ≤ room
unfolding first_escaped
length-cut_in is_first room units wide =
    cond_both (is_first && is_part (cut room units)) (first_escaped room units) (cut room units) (λ text. length text ≤ room)
    (λ _. omega (arith, length-first_escaped room units, length-cut (room - 3) (drop 1 units)))
    (λ _. length-cut room units)

escape_no_part : (rest : List ℕ) → is_part (percent_encode_byte 46 ++ rest) ≡ false
escape_no_part rest = ap (λ (first : List ℕ). is_part (first ++ rest)) escaped_dot

cut_in_no_part : (room : ℕ) (units : List (List ℕ)) → is_part (cut_in true room units) ≡ false
cut_in_no_part room units =
    cond_both (is_part (cut room units)) (percent_encode_byte 46 ++ cut (room - 3) (drop 1 units)) (cut room units) (λ text. is_part text ≡ false)
    (λ _. escape_no_part (cut (room - 3) (drop 1 units))) (λ other. other)

pub segment_within_is : (is_first : Bool) (room : ℕ) (units : List (List ℕ)) → 6 ≤ room → All IsUnit units → 0 < length units → IsSegment (segment_within is_first room units)
segment_within_is is_first room units wide all some = cut_in_is is_first room (without_dots units) wide (without_dots_named units all some)

pub length-segment_within : (is_first : Bool) (room : ℕ) (units : List (List ℕ)) → 6 ≤ room → length (segment_within is_first room units) ≤ room
length-segment_within is_first room units wide = length-cut_in is_first room (without_dots units) (omega (arith, wide))

pub local_segment_is : (is_first : Bool) (units : List (List ℕ)) → All IsUnit units → 0 < length units → IsSegment (local_segment is_first units)
local_segment_is is_first units all some = segment_within_is is_first MAX_SEGMENT units (omega arith) all some

pub local_segment_short : (is_first : Bool) (units : List (List ℕ)) → IsShort (local_segment is_first units)
local_segment_short is_first units = length-segment_within is_first MAX_SEGMENT units (omega arith)

pub first_no_part : (room : ℕ) (units : List (List ℕ)) → is_part (segment_within true room units) ≡ false
first_no_part room units = cut_in_no_part room (without_dots units)

pub local_segment_kept : (text : List ℕ) → IsUtf8 text → All IsSegmentByte text → list_all is_dot text ≡ false → IsShort text → local_segment false (units_of usual_chars text) ≡ text
local_segment_kept text utf8 all mixed short =
    let units = units_of usual_chars text in
    let is = kept_text text utf8 all in
    ap (cut MAX_SEGMENT) (cond-false (list_all is_dot (concat units)) (map (λ dot. percent_encode_byte 46) units) units (ap (list_all is_dot) is ∙ mixed))
    ∙ cut_all MAX_SEGMENT units (subst (λ t. length t ≤ MAX_SEGMENT) (sym is) short)
    ∙ is

-- ---- names of parts

-- a text before a byte that the front of a part hasn't
front_before : (needle xs ys : List ℕ) (mark : ℕ) → All (λ byte. byte ≢ mark) needle → starts_with nat_eq (xs ++ mark ∷ ys) needle ≡ true → starts_with nat_eq xs needle ≡ true
front_before [] xs ys mark apart begins = refl
front_before (b ∷ needle) [] ys mark apart begins =
    absurd (All-head (λ byte. byte ≢ mark) b needle apart (eqb-true b mark ((and_parts (nat_eq b mark) _ begins).0)))
front_before (b ∷ needle) (x ∷ xs) ys mark apart begins =
    let both = and_parts (nat_eq b x) (starts_with nat_eq (xs ++ mark ∷ ys) needle) begins in
    ap (λ t. t && starts_with nat_eq xs needle) both.0 ∙ front_before needle xs ys mark (All-tail (λ byte. byte ≢ mark) b needle apart) both.1

off_from_not : (b : Bool) → not b ≡ true → b ≡ false
off_from_not true e = cc
off_from_not false e = refl

apart_from : (mark : ℕ) (text : List ℕ) → list_all (λ byte. not (byte == mark)) text ≡ true → All (λ byte. byte ≢ mark) text
apart_from mark [] all = All-nil (λ byte. byte ≢ mark)
apart_from mark (b ∷ text) all =
    let both = and_parts (not (b == mark)) (list_all (λ byte. not (byte == mark)) text) all in
    All-cons (λ byte. byte ≢ mark) b text (λ e. other b e both.0) (apart_from mark text both.1)
  where
    other : (b : ℕ) → b ≡ mark → not (b == mark) ≡ true → ⊥
    other b e differs = both_ways (b == mark) (off_from_not (b == mark) differs) (eq-eqb b mark e)

pub part_before_slash : (xs ys : List ℕ) → is_part xs ≡ false → is_part (xs ++ slash ∷ ys) ≡ false
part_before_slash xs ys none = false_from_ne_true _ (λ begins. both_ways (is_part xs) none (front_before PART.now xs ys slash (apart_from slash PART.now refl) begins))

-- a text in front of which no part is named
starts_more : (needle xs ys : List ℕ) → starts_with nat_eq xs needle ≡ true → starts_with nat_eq (xs ++ ys) needle ≡ true
starts_more [] xs ys begins = refl
starts_more (b ∷ needle) [] ys begins = cc
starts_more (b ∷ needle) (x ∷ xs) ys begins =
    let both = and_parts (nat_eq b x) (starts_with nat_eq xs needle) begins in
    ap (λ t. t && starts_with nat_eq (xs ++ ys) needle) both.0 ∙ starts_more needle xs ys both.1

pub front_no_part : (xs ys : List ℕ) → is_part (xs ++ ys) ≡ false → is_part xs ≡ false
front_no_part xs ys none = false_from_ne_true (is_part xs) (λ begins. both_ways (is_part (xs ++ ys)) none (starts_more PART.now xs ys begins))

pub part_before_dot : (xs ys : List ℕ) → 0 < length xs → is_part xs ≡ false → is_part (xs ++ 46 ∷ ys) ≡ false
part_before_dot [] ys some none = absurd (omega arith)
part_before_dot (x ∷ xs) ys some none =
    false_from_ne_true _ (λ begins.
    let both = and_parts (nat_eq 46 x) (starts_with nat_eq (xs ++ 46 ∷ ys) (drop 1 PART.now)) begins in
    both_ways (is_part (x ∷ xs)) none (ap (λ t. t && starts_with nat_eq xs (drop 1 PART.now)) both.0 ∙ front_before (drop 1 PART.now) xs ys 46 (apart_from 46 (drop 1 PART.now) refl) both.1))

-- a text that begins with a dot and what is no small `w`
pub dot_no_part : (xs : List ℕ) → get_or xs 0 0 ≢ 119 → is_part (46 ∷ xs) ≡ false
dot_no_part [] other = refl
dot_no_part (x ∷ xs) other = ap (λ t. t && starts_with nat_eq xs (drop 2 PART.now)) (ne_eqb 119 x (λ e. other (sym e)))
