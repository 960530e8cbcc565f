-- Segments that are joined and split again, and numbers after them.
use Rattle.std.proofs.Common.{zero, suc, ◌≡◌, ◌≢◌, ℕ, ◌+◌, ◌≤◌, ◌<◌, ◌/◌, ◌%◌, ◌==◌, nat_lt, Bool, false, true, not, ◌&&◌, Option, None, List, [], ◌∷◌, ◌++◌, length, map, get_or, codes, All, refl, sym, ap, ◌∙◌, inl, inr, arith, append_assoc}
use Rattle.std.proofs.lemmas.Bool.{cond_both, cases_Bool, both_ways, ne_eqb, lt-ltb}
use Rattle.std.proofs.lemmas.List.{length-append}
use Rattle.std.proofs.lemmas.List.Elements.{All-nil, All-cons, All-head, All-tail, All-append, All-weaker}
use Rattle.std.proofs.lemmas.List.Splits.{slice_split_none, slice_split_at, slice_split-cons_yes, slice_split-cons_no, length-slice_split}
use Rattle.std.proofs.lemmas.Iterator.{YieldsList}
use Rattle.std.proofs.lemmas.Iterator.Consumers.{YieldsList-end}
use Rattle.std.specs.Iterator.{Yields}
use Rattle.std.specs.Fmt.{decimal, digits, digits_onto, digit_glyph}
use Rattle.std.proofs.lemmas.Bool.Decides.{nat_tests}
use Rattle.std.proofs.lemmas.List.Sums.{AllPass-from_list_all}
use Rattle.std.specs.List.{slice_split, onto_first, list_all, join_with_byte}
use Rattle.local_names.specs.PlainNames.{slash, is_slash}
use Rattle.local_names.specs.LocalNames.{IsUncontrolled}
use Rattle.local_names.proofs.EndingLaws.{NoSlash, no_slash_inside}
use Rattle.local_names.proofs.UnitLaws.{IsSegmentByte, IsSegment, uncontrolled, not_short, all_front, all_back}

not_slash : (byte : ℕ) → byte ≢ slash → is_slash byte ≡ false
not_slash byte differs = ne_eqb byte slash differs

-- ---- joined and split again

no_slashes : (segment : List ℕ) → All IsSegmentByte segment → All (λ byte. is_slash byte ≡ false) segment
no_slashes segment bytes = All-weaker IsSegmentByte (λ byte. is_slash byte ≡ false) (λ byte is. not_slash byte is.2) segment bytes

pub split_apart : (first : List ℕ) (rest : List (List ℕ)) → All (All (λ byte. is_slash byte ≡ false)) (first ∷ rest) → slice_split is_slash (join_with_byte slash (first ∷ rest)) ≡ first ∷ rest
split_apart first [] all = slice_split_none is_slash first (All-head (All (λ byte. is_slash byte ≡ false)) first [] all)
split_apart first (next ∷ rest) all =
    slice_split_at is_slash first slash (join_with_byte slash (next ∷ rest)) (All-head (All (λ byte. is_slash byte ≡ false)) first (next ∷ rest) all) refl
    ∙ ap (λ parts. first ∷ parts) (split_apart next rest (All-tail (All (λ byte. is_slash byte ≡ false)) first (next ∷ rest) all))

-- two texts at a slash
pub split_some : (text : List ℕ) → 0 < length (slice_split is_slash text)
split_some text = omega (arith, length-slice_split is_slash text)

pub split_both : (xs ys : List ℕ) → slice_split is_slash (xs ++ slash ∷ ys) ≡ slice_split is_slash xs ++ slice_split is_slash ys
split_both [] ys = slice_split-cons_yes is_slash slash ys refl
split_both (x ∷ xs) ys =
    elim (cases_Bool (is_slash x)) [
      | inl at ↦ (
          slice_split-cons_yes is_slash x (xs ++ slash ∷ ys) at ∙ ap (λ parts. [] ∷ parts) (split_both xs ys)
          ∙ ap (λ parts. parts ++ slice_split is_slash ys) (sym (slice_split-cons_yes is_slash x xs at)))
      | inr off ↦ (
          slice_split-cons_no is_slash x (xs ++ slash ∷ ys) off ∙ ap (onto_first x) (split_both xs ys)
          ∙ onto_append (slice_split is_slash xs) (slice_split is_slash ys) (split_some xs)
          ∙ ap (λ parts. parts ++ slice_split is_slash ys) (sym (slice_split-cons_no is_slash x xs off)))
    ]
  where
    onto_append : (parts others : List (List ℕ)) → 0 < length parts → onto_first x (parts ++ others) ≡ onto_first x parts ++ others
    onto_append [] others some = absurd (omega arith)
    onto_append (part ∷ parts) others some = refl

pub split_joined : (first : List ℕ) (rest : List (List ℕ)) → All (All IsSegmentByte) (first ∷ rest) → slice_split is_slash (join_with_byte slash (first ∷ rest)) ≡ first ∷ rest
split_joined first rest all = split_apart first rest (All-weaker (All IsSegmentByte) (All (λ byte. is_slash byte ≡ false)) no_slashes (first ∷ rest) all)

-- one segment more
pub join_push : (first : List ℕ) (mids : List (List ℕ)) (last : List ℕ) → join_with_byte slash (first ∷ (mids ++ last ∷ [])) ≡ join_with_byte slash (first ∷ mids) ++ slash ∷ last
join_push first [] last = refl
join_push first (mid ∷ mids) last = ap (λ rest. first ++ slash ∷ rest) (join_push mid mids last) ∙ sym (append_assoc first (slash ∷ join_with_byte slash (mid ∷ mids)) (slash ∷ last))

-- an end without a slash is that of the last segment
pub record IsLast (fronts : List (List ℕ)) (last stem ending : List ℕ) : Type 0 where
  pub front : List ℕ
  pub is : last ≡ front ++ ending
  pub put : (rest : List ℕ) → stem ++ rest ≡ join_with_byte slash (fronts ++ (front ++ rest) ∷ [])

pub after_slash : (first last stem ending : List ℕ) → first ++ slash ∷ last ≡ stem ++ ending → NoSlash ending → (front : List ℕ) × (last ≡ front ++ ending) × (stem ≡ first ++ slash ∷ front)
after_slash [] last [] ending e none = absurd (starts ending last (sym e) none)
  where
    starts : (ending last : List ℕ) → ending ≡ slash ∷ last → NoSlash ending → ⊥
    starts [] last e none = cc
    starts (b ∷ ending) last e none = none.0 (let same : b ≡ slash = cc in same)
after_slash [] last (s ∷ stem) ending e none = (stem, (let same : last ≡ stem ++ ending = cc in same), ap (λ b. b ∷ stem) (let same : s ≡ slash = cc in same))
after_slash (f ∷ first) last [] ending e none = absurd (no_slash_inside ending (f ∷ first) last none (sym e))
after_slash (f ∷ first) last (s ∷ stem) ending e none =
    let later = after_slash first last stem ending (let same : first ++ slash ∷ last ≡ stem ++ ending = cc in same) none in
    let same : s ≡ f = cc in
    (later.0, later.1, ap (λ b. b ∷ stem) same ∙ ap (λ xs. f ∷ xs) later.2)

pub last_of : (fronts : List (List ℕ)) (last stem ending : List ℕ) → join_with_byte slash (fronts ++ last ∷ []) ≡ stem ++ ending → NoSlash ending → IsLast fronts last stem ending
last_of [] last stem ending e none = record { front = stem; is = e; put = λ rest. refl }
last_of (first ∷ []) last stem ending e none =
    let cut = after_slash first last stem ending e none in
    record { front = cut.0; is = cut.1; put = λ rest. ap (λ xs. xs ++ rest) cut.2 ∙ append_assoc first (slash ∷ cut.0) rest }
last_of (first ∷ mid ∷ mids) last stem ending e none =
    let cut = after_slash first (join_with_byte slash (mid ∷ (mids ++ last ∷ []))) stem ending e none in
    let later = last_of (mid ∷ mids) last cut.0 ending cut.1 none in
    record {
      front = later.front;
      is = later.is;
      put = λ rest. ap (λ xs. xs ++ rest) cut.2 ∙ append_assoc first (slash ∷ cut.0) rest ∙ ap (λ xs. first ++ slash ∷ xs) (later.put rest);
    }

-- no byte of a name is a control byte
segment_text : (segment : List ℕ) → All IsSegmentByte segment → All IsUncontrolled segment
segment_text segment all = All-weaker IsSegmentByte IsUncontrolled (λ byte is. uncontrolled byte is.0 is.1) segment all

pub joined_text : (first : List ℕ) (rest : List (List ℕ)) → All (All IsSegmentByte) (first ∷ rest) → All IsUncontrolled (join_with_byte slash (first ∷ rest))
joined_text first [] all = segment_text first (All-head (All IsSegmentByte) first [] all)
joined_text first (next ∷ rest) all =
    All-append IsUncontrolled first (slash ∷ join_with_byte slash (next ∷ rest))
    (segment_text first (All-head (All IsSegmentByte) first (next ∷ rest) all))
    (All-cons IsUncontrolled slash (join_with_byte slash (next ∷ rest)) refl (joined_text next rest (All-tail (All IsSegmentByte) first (next ∷ rest) all)))

-- ---- a number after the last segment

-- a digit
abbrev pub IsDigit : ℕ → Type 0
IsDigit byte = (48 ≤ byte) × (byte ≤ 57)

glyph_bytes : (d : ℕ) → d < 10 → IsDigit (digit_glyph false d)
glyph_bytes d small =
    cond_both (nat_lt d 10) (48 + d) (87 + d) IsDigit (λ is. (omega arith, omega (arith, small))) (λ is. absurd (both_ways (nat_lt d 10) is (lt-ltb d 10 small)))

all_digits_onto : (k n : ℕ) (acc : List ℕ) → All IsDigit acc → All IsDigit (digits_onto k 10 false n acc)
all_digits_onto zero n acc all = all
all_digits_onto (suc k) n acc all =
    let more = All-cons IsDigit (digit_glyph false (n % 10)) acc (glyph_bytes (n % 10) (omega arith)) all in
    cond_both (n / 10 == 0) (digit_glyph false (n % 10) ∷ acc) (digits_onto k 10 false (n / 10) (digit_glyph false (n % 10) ∷ acc)) (All IsDigit)
    (λ e. more) (λ e. all_digits_onto k (n / 10) (digit_glyph false (n % 10) ∷ acc) more)

pub decimal_digits : (n : ℕ) → All IsDigit (decimal n)
unfolding digits
decimal_digits n = all_digits_onto 64 n [] (All-nil IsDigit)

decimal_bytes : (n : ℕ) → All IsSegmentByte (decimal n)
decimal_bytes n = All-weaker IsDigit IsSegmentByte (λ byte is. (let low = is.0 in let high = is.1 in (omega (arith, low), λ e. omega (arith, e, high), λ e. omega (arith, e, low)))) (decimal n) (decimal_digits n)

digits_onto_grow : (k n : ℕ) (acc : List ℕ) → length acc ≤ length (digits_onto k 10 false n acc)
digits_onto_grow zero n acc = omega arith
digits_onto_grow (suc k) n acc =
    let later = digits_onto_grow k (n / 10) (digit_glyph false (n % 10) ∷ acc) in
    cond_both (n / 10 == 0) (digit_glyph false (n % 10) ∷ acc) (digits_onto k 10 false (n / 10) (digit_glyph false (n % 10) ∷ acc)) (λ ds. length acc ≤ length ds)
    (λ e. omega arith) (λ e. omega arith)

some_digit : (k n : ℕ) → 1 ≤ length (digits_onto (suc k) 10 false n [])
some_digit k n =
    let later = digits_onto_grow k (n / 10) (digit_glyph false (n % 10) ∷ []) in
    cond_both (n / 10 == 0) (digit_glyph false (n % 10) ∷ []) (digits_onto k 10 false (n / 10) (digit_glyph false (n % 10) ∷ [])) (λ ds. 1 ≤ length ds)
    (λ e. omega arith) (λ e. omega arith)

pub decimal_present : (n : ℕ) → 1 ≤ length (decimal n)
unfolding digits
decimal_present n = some_digit 63 n

pub present_length : (xs : List ℕ) → xs ≢ [] → 1 ≤ length xs
present_length [] present = absurd (present refl)
present_length (x ∷ xs) present = omega arith

-- a number begins with no small `w`, whatever follows it
pub decimal_first : (n : ℕ) (rest : List ℕ) → get_or (decimal n ++ rest) 0 0 ≢ 119
decimal_first n rest = first (decimal n) (decimal_present n) (decimal_digits n)
  where
    first : (ds : List ℕ) → 1 ≤ length ds → All IsDigit ds → get_or (ds ++ rest) 0 0 ≢ 119
    first [] some all e = absurd (omega arith)
    first (d ∷ ds) some all e = (let high = (All-head IsDigit d ds all).1 in omega (arith, e, high))

-- a segment with a number before its end
pub numbered_segment_is : (stem ending : List ℕ) (n : ℕ) → IsSegment (stem ++ ending) → IsSegment (stem ++ 46 ∷ (decimal n ++ ending))
numbered_segment_is stem ending n is =
    let whole = stem ++ 46 ∷ (decimal n ++ ending) in
    let some = present_length (stem ++ ending) is.inner.present in
    let digits_there = decimal_present n in
    let one = length-append stem ending in
    let two = length-append stem (46 ∷ (decimal n ++ ending)) in
    let three = length-append (decimal n) ending in
    let size : 3 ≤ length whole = omega (arith, some, digits_there, one, two, three) in
    record {
      inner = record {
        present = not_short whole [] (omega (arith, size));
        not_here = not_short whole (codes ".") (omega (arith, size));
        not_above = not_short whole (codes "..") (omega (arith, size));
      };
      bytes = All-append IsSegmentByte stem (46 ∷ (decimal n ++ ending)) (all_front IsSegmentByte stem ending is.bytes)
          (All-cons IsSegmentByte 46 (decimal n ++ ending) (omega arith, λ e. omega (arith, e), λ e. omega (arith, e))
          (All-append IsSegmentByte (decimal n) ending (decimal_bytes n) (all_back IsSegmentByte stem ending is.bytes)));
    }

-- a segment with a dot and more after it
pub dotted_segment_is : (segment rest : List ℕ) → IsSegment segment → All IsSegmentByte (46 ∷ rest) → 1 ≤ length rest → IsSegment (segment ++ 46 ∷ rest)
dotted_segment_is segment rest is bytes more =
    let whole = segment ++ 46 ∷ rest in
    let some = present_length segment is.inner.present in
    let long = length-append segment (46 ∷ rest) in
    let size : 3 ≤ length whole = omega (arith, some, more, long) in
    record {
      inner = record {
        present = not_short whole [] (omega (arith, size));
        not_here = not_short whole (codes ".") (omega (arith, size));
        not_above = not_short whole (codes "..") (omega (arith, size));
      };
      bytes = All-append IsSegmentByte segment (46 ∷ rest) is.bytes bytes;
    }

-- bytes that are written out
is_shown : ℕ → Bool
is_shown byte = nat_lt 45 byte && nat_lt byte 127 && not (byte == slash)

shown_byte : (byte : ℕ) → is_shown byte ≡ true → IsSegmentByte byte
unfolding is_shown
shown_byte byte is = (grind (arith, nat_tests), grind (arith, nat_tests), grind (arith, nat_tests))

pub segment_bytes_from : (text : List ℕ) → list_all (λ byte. nat_lt 45 byte && nat_lt byte 127 && not (byte == slash)) text ≡ true → All IsSegmentByte text
unfolding is_shown
segment_bytes_from text all = All-weaker (λ byte. is_shown byte ≡ true) IsSegmentByte shown_byte text (AllPass-from_list_all is_shown text all)

-- ---- an iterator that was run to its end

-- what a loop over an iterator took, with the run of the loop first
pub drained : {S A B : Type 0} {steps : S → Option A → S → Type 0} {v : A → B} {s : S} {all : List B} (xs : List A) (t : S) (y : Yields steps s xs t) (r : Option A) (u : S) → r ≡ None → steps t r u → YieldsList steps v s all → map v xs ≡ all
drained xs t y r u none step e = (YieldsList-end e xs t y r u none step).0
