-- The way from one file to another, written byte by byte.
use Rattle.std.proofs.Common.{◌≡◌, ◌≢◌, ◌||◌, ◌-◌, not, ℕ, ◌<◌, ◌≤◌, Bool, true, false, List, [], ◌∷◌, ◌++◌, map, zero, suc, length, take, drop, length-drop, if◌then◌else◌, codes, refl, sym, ap, ◌∙◌, subst, append_assoc, arith, inl, inr}
use Rattle.std.proofs.lemmas.Bool.{cases_lt, agree_below_at}
use Rattle.std.proofs.lemmas.List.{take_all}
use Rattle.std.proofs.lemmas.Bool.Decides.{nat_tests}
use Rattle.memchr.specs.Find.{Nowhere, is_byte, Passes}
use Rattle.std.proofs.lemmas.List.Splits.{slice_split-cons_yes, length-slice_split}
use Rattle.std.specs.Char.{is_ascii}
use Rattle.std.specs.List.{slice_split, onto_first, join_with_byte, flat_map}
use Rattle.std.specs.Str.{bytes_eq}
use Rattle.percent_encoding.specs.AsciiSet.{contains, should_percent_encode}
use Rattle.percent_encoding.specs.Percent.{percent_encode, percent_encode_byte, encode_byte}
use Rattle.local_links.specs.declared.writing.TheConstants.{ESCAPED}
use Rattle.local_links.specs.Relative.{Segment, is_slash, directories, is_unreserved, written_byte, written, upward, between, relative}
use Rattle.local_links.specs.inner.Climbs.{climbs, goes_from, IsApart}

-- ---- names, cut at their first slash

pub whole : (name : List ℕ) → Nowhere (Passes (is_byte 47) name) 0 (length name) → slice_split is_slash name ≡ name ∷ []
whole [] none = refl
whole (b ∷ bs) none = go (is_slash b) refl (whole bs (λ j _ below. none (suc j) (omega arith) (omega arith))) where
  go : (t : Bool) → is_slash b ≡ t → slice_split is_slash bs ≡ bs ∷ [] → (if t then [] ∷ slice_split is_slash bs else onto_first b (slice_split is_slash bs)) ≡ (b ∷ bs) ∷ []
  go true e h = absurd (none 0 (omega arith) (omega arith) e)
  go false e h = ap (onto_first b) h

pub cut : (name : List ℕ) (k : ℕ) → k < length name → Nowhere (Passes (is_byte 47) name) 0 k → Passes (is_byte 47) name k → slice_split is_slash name ≡ take k name ∷ slice_split is_slash (drop (suc k) name)
cut [] k h n p = absurd (omega arith)
cut (b ∷ bs) zero h n p = slice_split-cons_yes is_slash b bs p
cut (b ∷ bs) (suc k) h n p = go (is_slash b) refl (cut bs k (omega arith) (λ j _ below. n (suc j) (omega arith) (omega arith)) p) where
  go : (t : Bool) → is_slash b ≡ t → slice_split is_slash bs ≡ take k bs ∷ slice_split is_slash (drop (suc k) bs)
      → (if t then [] ∷ slice_split is_slash bs else onto_first b (slice_split is_slash bs)) ≡ (b ∷ take k bs) ∷ slice_split is_slash (drop (suc k) bs)
  go true e g = absurd (n 0 (omega arith) (omega arith) e)
  go false e g = ap (onto_first b) g

rest_whole : (name : List ℕ) (n : ℕ) → take (length name - n) (drop n name) ≡ drop n name
rest_whole name n = take_all (length name - n) (drop n name) (omega (arith, length-drop n name))

-- the same, as a range of the name is written
pub cut_range : (name : List ℕ) (k n : ℕ) → n ≡ suc k → k < length name → Nowhere (Passes (is_byte 47) name) 0 k → Passes (is_byte 47) name k
    → slice_split is_slash name ≡ take k name ∷ slice_split is_slash (take (length name - n) (drop n name))
cut_range name k n e h before found =
    cut name k h before found ∙ ap (λ m. take k name ∷ slice_split is_slash (drop m name)) (sym e)
    ∙ ap (λ x. take k name ∷ slice_split is_slash x) (sym (rest_whole name n))

some_segment : (name : List ℕ) → slice_split is_slash name ≢ []
some_segment name e = let count = length-slice_split is_slash name in let none : length (slice_split is_slash name) ≡ 0 = ap length e in absurd (omega (arith, count, none))

-- ---- directories that are shared

abbrev Parts : List Segment → List Segment → Type 0
Parts f t = between f t ≡ upward (directories f) ++ map written t

-- a file beside or above which the other is
pub none_above : (from to : List ℕ) → slice_split is_slash from ≡ from ∷ [] → IsApart from to
none_above from to e = subst (λ f. Parts f (slice_split is_slash to)) (sym e) refl

below_top : (d : Segment) (fs : List Segment) (t : Segment) → fs ≢ [] → Parts (d ∷ fs) (t ∷ [])
below_top d [] t n = absurd (n refl)
below_top d (g ∷ gs) t n = refl

-- a file above all directories of the other
pub none_below : (from to first rest : List ℕ) → slice_split is_slash from ≡ first ∷ slice_split is_slash rest → slice_split is_slash to ≡ to ∷ [] → IsApart from to
none_below from to first rest ef et =
    subst (λ f. Parts f (slice_split is_slash to)) (sym ef)
    (subst (λ t. Parts (first ∷ slice_split is_slash rest) t) (sym et) (below_top first (slice_split is_slash rest) to (some_segment rest)))

differing : (d o : Segment) (fs ts : List Segment) → fs ≢ [] → ts ≢ [] → bytes_eq d o ≡ false → Parts (d ∷ fs) (o ∷ ts)
differing d o [] ts n m e = absurd (n refl)
differing d o (g ∷ gs) [] n m e = absurd (m refl)
differing d o (g ∷ gs) (u ∷ us) n m e =
    ap (λ b. if b then between (g ∷ gs) (u ∷ us) else (upward (directories (d ∷ g ∷ gs)) ++ map written (o ∷ u ∷ us))) e

-- two files in different directories
pub differ : (from to d rest o below : List ℕ) → slice_split is_slash from ≡ d ∷ slice_split is_slash rest → slice_split is_slash to ≡ o ∷ slice_split is_slash below → bytes_eq d o ≡ false → IsApart from to
differ from to d rest o below ef et e =
    subst (λ f. Parts f (slice_split is_slash to)) (sym ef)
    (subst (λ t. Parts (d ∷ slice_split is_slash rest) t) (sym et) (differing d o (slice_split is_slash rest) (slice_split is_slash below) (some_segment rest) (some_segment below) e))

sharing : (d o : Segment) (fs ts : List Segment) → fs ≢ [] → ts ≢ [] → bytes_eq d o ≡ true → between (d ∷ fs) (o ∷ ts) ≡ between fs ts
sharing d o [] ts n m e = absurd (n refl)
sharing d o (g ∷ gs) [] n m e = absurd (m refl)
sharing d o (g ∷ gs) (u ∷ us) n m e =
    ap (λ b. if b then between (g ∷ gs) (u ∷ us) else (upward (directories (d ∷ g ∷ gs)) ++ map written (o ∷ u ∷ us))) e

-- two files below one directory
pub share : (from to d rest o below : List ℕ) → slice_split is_slash from ≡ d ∷ slice_split is_slash rest → slice_split is_slash to ≡ o ∷ slice_split is_slash below → bytes_eq d o ≡ true → goes_from from to ≡ goes_from rest below
share from to d rest o below ef et e =
    ap (λ f. between f (slice_split is_slash to)) ef
    ∙ ap (between (d ∷ slice_split is_slash rest)) et
    ∙ sharing d o (slice_split is_slash rest) (slice_split is_slash below) (some_segment rest) (some_segment below) e

-- ---- up

upward_last : (ds : List Segment) (d : Segment) → upward (ds ++ d ∷ []) ≡ codes ".." ∷ upward ds
upward_last [] d = refl
upward_last (e ∷ es) d = ap (λ u. codes ".." ∷ u) (upward_last es d)

joined_more : (first : Segment) (others : List Segment) → others ≢ [] → join_with_byte 47 (first ∷ others) ≡ first ++ 47 ∷ join_with_byte 47 others
joined_more first [] n = absurd (n refl)
joined_more first (next ∷ others) n = refl

some_after : (xs : List Segment) (y : Segment) (ys : List Segment) → xs ++ y ∷ ys ≢ []
some_after [] y ys e = absurd (cc)
some_after (x ∷ xs) y ys e = absurd (cc)

up_more : (parts : List Segment) → parts ≢ [] → upward (directories ([] ∷ parts)) ≡ codes ".." ∷ upward (directories parts)
up_more [] n = absurd (n refl)
up_more (p ∷ ps) n = upward_last (directories (p ∷ ps)) []

up_same : (b : ℕ) (parts : List Segment) → upward (directories (onto_first b parts)) ≡ upward (directories parts)
up_same b [] = refl
up_same b (p ∷ []) = refl
up_same b (p ∷ q ∷ qs) = upward_last (directories (q ∷ qs)) (b ∷ p) ∙ sym (upward_last (directories (q ∷ qs)) p)

-- the way up, and then down
pub climbs_joined : (name : List ℕ) (s : Segment) (ss : List Segment) → join_with_byte 47 (upward (directories (slice_split is_slash name)) ++ s ∷ ss) ≡ climbs name ++ join_with_byte 47 (s ∷ ss)
climbs_joined [] s ss = refl
climbs_joined (b ∷ bs) s ss = go (is_slash b) (climbs_joined bs s ss) where
  go : (t : Bool) → join_with_byte 47 (upward (directories (slice_split is_slash bs)) ++ s ∷ ss) ≡ climbs bs ++ join_with_byte 47 (s ∷ ss)
      → join_with_byte 47 (upward (directories (if t then [] ∷ slice_split is_slash bs else onto_first b (slice_split is_slash bs))) ++ s ∷ ss) ≡ ((if t then codes "../" else []) ++ climbs bs) ++ join_with_byte 47 (s ∷ ss)
  go true h =
      ap (λ u. join_with_byte 47 (u ++ s ∷ ss)) (up_more (slice_split is_slash bs) (some_segment bs))
      ∙ joined_more (codes "..") (upward (directories (slice_split is_slash bs)) ++ s ∷ ss) (some_after (upward (directories (slice_split is_slash bs))) s ss)
      ∙ ap (λ x. codes "../" ++ x) h
  go false h = ap (λ u. join_with_byte 47 (u ++ s ∷ ss)) (up_same b (slice_split is_slash bs)) ∙ h

-- ---- down

-- a byte as it is written of a name
abbrev put : ℕ → List ℕ
put b = if is_slash b then b ∷ [] else written_byte b

stays : (b : ℕ) → b < 128 → contains ESCAPED b ≡ not (is_unreserved b || is_slash b)
stays b small = agree_below_at (contains ESCAPED) (λ x. not (is_unreserved x || is_slash x)) 128 b refl small

far : (b : ℕ) → 128 ≤ b → (is_unreserved b || is_slash b) ≡ false
far b large = grind (arith, nat_tests)

far_ascii : (b : ℕ) → 128 ≤ b → is_ascii b ≡ false
far_ascii b large = grind (arith, nat_tests)

near_ascii : (b : ℕ) → b < 128 → is_ascii b ≡ true
near_ascii b small = grind (arith, nat_tests)

should : (b : ℕ) → should_percent_encode ESCAPED b ≡ not (is_unreserved b || is_slash b)
unfolding should_percent_encode
should b = elim (cases_lt b 128) [
  | inl small ↦ ap (λ a. not a || contains ESCAPED b) (near_ascii b small) ∙ stays b small
  | inr large ↦ ap (λ a. not a || contains ESCAPED b) (far_ascii b large) ∙ sym (ap not (far b large))
]

put_as : (b : ℕ) → encode_byte ESCAPED b ≡ put b
put_as b = ap (λ t. if t then percent_encode_byte b else b ∷ []) (should b) ∙ go (is_unreserved b) (is_slash b) where
  go : (u s : Bool) → (if not (u || s) then percent_encode_byte b else b ∷ []) ≡ (if s then b ∷ [] else if u then b ∷ [] else percent_encode_byte b)
  go true true = refl
  go true false = refl
  go false true = refl
  go false false = refl

first_put : (b : ℕ) (parts : List Segment) → parts ≢ [] → join_with_byte 47 (map written (onto_first b parts)) ≡ written_byte b ++ join_with_byte 47 (map written parts)
first_put b [] n = absurd (n refl)
first_put b (p ∷ []) n = refl
first_put b (p ∷ q ∷ qs) n = append_assoc (written_byte b) (written p) (47 ∷ join_with_byte 47 (map written (q ∷ qs)))

map_some : (parts : List Segment) → parts ≢ [] → map written parts ≢ []
map_some [] n e = n refl
map_some (p ∷ ps) n e = absurd (cc)

put_joined : (name : List ℕ) → flat_map put name ≡ join_with_byte 47 (map written (slice_split is_slash name))
put_joined [] = refl
put_joined (b ∷ bs) = go (is_slash b) refl (put_joined bs) where
  slash : is_slash b ≡ true → b ≡ 47
  slash e = grind (arith, nat_tests)

  go : (t : Bool) → is_slash b ≡ t → flat_map put bs ≡ join_with_byte 47 (map written (slice_split is_slash bs))
      → (if t then b ∷ [] else written_byte b) ++ flat_map put bs ≡ join_with_byte 47 (map written (if t then [] ∷ slice_split is_slash bs else onto_first b (slice_split is_slash bs)))
  go true e h =
      ap (λ x. x ∷ flat_map put bs) (slash e) ∙ ap (λ x. 47 ∷ x) h
      ∙ sym (joined_more [] (map written (slice_split is_slash bs)) (map_some (slice_split is_slash bs) (some_segment bs)))
  go false e h = ap (λ x. written_byte b ++ x) h ∙ sym (first_put b (slice_split is_slash bs) (some_segment bs))

encoded_as : (bs : List ℕ) → flat_map (encode_byte ESCAPED) bs ≡ flat_map put bs
encoded_as [] = refl
encoded_as (b ∷ bs) = ap (λ x. x ++ flat_map (encode_byte ESCAPED) bs) (put_as b) ∙ ap (λ x. put b ++ x) (encoded_as bs)

pub encoded : (name : List ℕ) → percent_encode ESCAPED name ≡ join_with_byte 47 (map written (slice_split is_slash name))
unfolding percent_encode
encoded name = encoded_as name ∙ put_joined name

-- ---- the whole

joined : (above : List ℕ) (parts : List Segment) → parts ≢ [] → join_with_byte 47 (upward (directories (slice_split is_slash above)) ++ map written parts) ≡ climbs above ++ join_with_byte 47 (map written parts)
joined above [] n = absurd (n refl)
joined above (p ∷ ps) n = climbs_joined above (written p) (map written ps)

-- what is written, below the directories that two names share
pub written_whole : (from to above below : List ℕ) → goes_from from to ≡ goes_from above below → IsApart above below → relative from to ≡ climbs above ++ percent_encode ESCAPED below
unfolding relative
written_whole from to above below same apart =
    ap (join_with_byte 47) (same ∙ apart)
    ∙ joined above (slice_split is_slash below) (some_segment below)
    ∙ ap (λ x. climbs above ++ x) (sym (encoded below))
