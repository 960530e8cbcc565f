-- Names by the usual rules are what a web server over the folder looks for.
use Rattle.std.proofs.Common.{zero, suc, ◌≡◌, ◌≢◌, ℕ, ◌+◌, ◌-◌, ◌*◌, ◌<◌, ◌==◌, nat_lt, Bool, true, false, not, ◌&&◌, cond, List, [], ◌∷◌, ◌++◌, length, map, get_or, take, codes, All, sym, refl, ap, ◌∙◌, subst, inl, inr, arith, append_assoc}
use Rattle.std.proofs.lemmas.Bool.{cond-true, cases_Bool, both_ways, ne_eqb}
use Rattle.std.proofs.lemmas.List.{append-nil, map-append, get_or-map, length-map, take_more, take_all}
use Rattle.std.proofs.lemmas.List.Elements.{filter-append, All-nil, All-cons, All-head, All-tail, All-weaker}
use Rattle.std.proofs.lemmas.List.Splits.{slice_split_none, slice_split-cons_yes, slice_split-cons_no, length-slice_split, join_with_byte-slice_split}
use Rattle.std.proofs.lemmas.Bool.Decides.{nat_tests}
use Rattle.std.proofs.lemmas.List.Sums.{AllPass-from_list_all}
use Rattle.std.proofs.lemmas.Str.{IsUtf8-from_ascii}
use Rattle.std.proofs.lemmas.Str.Ascii.{IsAscii-from_all}
use Rattle.std.specs.Char.{digit_value}
use Rattle.std.specs.List.{slice_split, onto_first, filter, join_with_byte}
use Rattle.percent_encoding.specs.Percent.{is_escape, percent_decode}
use Rattle.percent_encoding.proofs.PercentLemmas.{percent_decode-nil, percent_decode_not_percent, KeepsFirst_from_no_escape, length-percent_decode}
use Rattle.address.specs.Address.{AddressText, IsAddress, dir_of, file_of, query_of}
use Rattle.local_names.specs.declared.plain_name.TheConstants.{MAX_SEGMENT}
use Rattle.local_names.specs.Rules.{usual_chars, usual_rules}
use Rattle.local_names.specs.PlainNames.{slash, is_slash, has_bytes, with_letters, units_of, marked_units, query_mark, local_segment, host_units, dir_segments, path_units, path_segment, file_units, last_units, segments_within, plain_name_within, plain_name_of}
use Rattle.local_names.specs.Names.{numbered_name, IsFree, IsFirstFreeBy, IsNaming}
use Rattle.local_names.specs.Served.{path_of, index_in, served_segments, IsServable, HasServablePath, AreServed}
use Rattle.local_names.proofs.UnitLaws.{IsSegmentByte, controlled_not, local_segment_kept}
use Rattle.local_names.proofs.SegmentLaws.{split_apart, split_some, split_both}

-- ---- decoding at a slash

either : (t : Bool) (x y x' y' tail : List ℕ) → x ≡ x' ++ tail → y ≡ y' ++ tail → cond t x y ≡ cond t x' y' ++ tail
either true x y x' y' tail one other = one
either false x y x' y' tail one other = other

slash_first : (ys : List ℕ) → percent_decode (slash ∷ ys) ≡ slash ∷ percent_decode ys
slash_first ys = percent_decode_not_percent slash ys (λ e. omega (arith, e))

-- a slash is no digit, so no escape reaches over it
no_digit : digit_value slash < 16 → ⊥
no_digit small = let never : 36 < 16 = small in omega (arith, never)

decode_at : (xs ys : List ℕ) → percent_decode (xs ++ slash ∷ ys) ≡ percent_decode xs ++ slash ∷ percent_decode ys
unfolding percent_decode
decode_at [] ys = slash_first ys
decode_at (b ∷ []) ys = KeepsFirst_from_no_escape (b ∷ slash ∷ ys) (λ long percent high low. no_digit high) ∙ ap (λ t. b ∷ t) (slash_first ys)
decode_at (b ∷ d ∷ []) ys = KeepsFirst_from_no_escape (b ∷ d ∷ slash ∷ ys) (λ long percent high low. no_digit low) ∙ ap (λ t. b ∷ t) (decode_at (d ∷ []) ys)
decode_at (b ∷ high ∷ low ∷ xs) ys =
    either (is_escape b high low) ((16 * digit_value high + digit_value low) ∷ percent_decode (xs ++ slash ∷ ys)) (b ∷ percent_decode (high ∷ low ∷ (xs ++ slash ∷ ys)))
    ((16 * digit_value high + digit_value low) ∷ percent_decode xs) (b ∷ percent_decode (high ∷ low ∷ xs)) (slash ∷ percent_decode ys)
    (ap (λ t. (16 * digit_value high + digit_value low) ∷ t) (decode_at xs ys))
    (ap (λ t. b ∷ t) (decode_at (high ∷ low ∷ xs) ys))

decode_joined : (first : List ℕ) (rest : List (List ℕ)) → percent_decode (join_with_byte slash (first ∷ rest)) ≡ join_with_byte slash (percent_decode first ∷ map percent_decode rest)
decode_joined first [] = refl
decode_joined first (next ∷ rest) = decode_at first (join_with_byte slash (next ∷ rest)) ∙ ap (λ t. percent_decode first ++ slash ∷ t) (decode_joined next rest)

-- ---- the segments of a decoded path

abbrev IsApart : List ℕ → Type 0
IsApart = All (λ byte. is_slash byte ≡ false)

all_parts : (parts : List (List ℕ)) → All IsServable (map percent_decode (filter has_bytes parts)) → All IsApart (map percent_decode parts)
all_parts [] all = All-nil IsApart
all_parts ([] ∷ parts) all =
    All-cons IsApart (percent_decode []) (map percent_decode parts) (subst IsApart (sym percent_decode-nil) (All-nil (λ byte. is_slash byte ≡ false))) (all_parts parts all)
all_parts ((b ∷ part) ∷ parts) all =
    let own = All-head IsServable (percent_decode (b ∷ part)) (map percent_decode (filter has_bytes parts)) all in
    All-cons IsApart (percent_decode (b ∷ part)) (map percent_decode parts) own.inner
    (all_parts parts (All-tail IsServable (percent_decode (b ∷ part)) (map percent_decode (filter has_bytes parts)) all))

long_has : (xs : List ℕ) → 0 < length xs → has_bytes xs ≡ true
long_has [] some = absurd (omega arith)
long_has (x ∷ xs) some = refl

decoded_has : (b : ℕ) (part : List ℕ) → has_bytes (percent_decode (b ∷ part)) ≡ true
decoded_has b part = let long = length-percent_decode (b ∷ part) in long_has (percent_decode (b ∷ part)) (omega (arith, long.0, long.1))

filter_decoded : (parts : List (List ℕ)) → filter has_bytes (map percent_decode parts) ≡ map percent_decode (filter has_bytes parts)
filter_decoded [] = refl
filter_decoded ([] ∷ parts) = ap (λ t. filter has_bytes (t ∷ map percent_decode parts)) percent_decode-nil ∙ filter_decoded parts
filter_decoded ((b ∷ part) ∷ parts) =
    let own = percent_decode (b ∷ part) in
    let rest = filter has_bytes (map percent_decode parts) in
    cond-true (has_bytes own) (own ∷ rest) rest (decoded_has b part) ∙ ap (λ xs. own ∷ xs) (filter_decoded parts)

split_decoded : (parts : List (List ℕ)) → 0 < length parts → All IsApart (map percent_decode parts) → slice_split is_slash (percent_decode (join_with_byte slash parts)) ≡ map percent_decode parts
split_decoded [] some all = absurd (omega arith)
split_decoded (first ∷ rest) some all = ap (slice_split is_slash) (decode_joined first rest) ∙ split_apart (percent_decode first) (map percent_decode rest) all

decoded_segments : (path : List ℕ) → All IsServable (map percent_decode (dir_segments path)) → filter has_bytes (slice_split is_slash (percent_decode path)) ≡ map percent_decode (dir_segments path)
decoded_segments path all =
    let parts = slice_split is_slash path in
    ap (λ text. filter has_bytes (slice_split is_slash (percent_decode text))) (sym (join_with_byte-slice_split slash path))
    ∙ ap (filter has_bytes) (split_decoded parts (split_some path) (all_parts parts all))
    ∙ filter_decoded parts

-- ---- directory and file

split_tail : (xs file : List ℕ) → IsApart file → slice_split is_slash (xs ++ slash ∷ file) ≡ slice_split is_slash xs ++ file ∷ []
split_tail xs file none = split_both xs file ∙ ap (λ parts. slice_split is_slash xs ++ parts) (slice_split_none is_slash file none)

last_apart : (xs : List ℕ) → 0 < length xs → get_or xs (length xs - 1) 0 ≡ slash → xs ≡ take (length xs - 1) xs ++ slash ∷ []
last_apart xs some ends =
    sym (take_all (length xs - 1 + 1) xs (omega arith)) ∙ take_more xs (length xs - 1) 0 (omega arith) ∙ ap (λ b. take (length xs - 1) xs ++ b ∷ []) ends

begins_some : (xs : List ℕ) → get_or xs 0 0 ≡ slash → 0 < length xs
begins_some [] e = absurd (omega (arith, e))
begins_some (x ∷ xs) e = omega arith

segments_apart : (dir file front : List ℕ) → dir ≡ front ++ slash ∷ [] → IsApart file → dir_segments (dir ++ file) ≡ dir_segments dir ++ filter has_bytes (file ∷ [])
segments_apart dir file front is none =
    let own : dir_segments dir ≡ dir_segments front =
    ap dir_segments is ∙ ap (filter has_bytes) (split_tail front [] (All-nil (λ byte. is_slash byte ≡ false))) ∙ filter-append has_bytes (slice_split is_slash front) ([] ∷ []) ∙ append-nil (dir_segments front) in
    ap (λ d. dir_segments (d ++ file)) is
    ∙ ap dir_segments (append_assoc front (slash ∷ []) file)
    ∙ ap (filter has_bytes) (split_tail front file none)
    ∙ filter-append has_bytes (slice_split is_slash front) (file ∷ [])
    ∙ ap (λ segments. segments ++ filter has_bytes (file ∷ [])) (sym own)

not_a_slash : (byte : ℕ) → byte ≢ slash → is_slash byte ≡ false
not_a_slash byte differs = ne_eqb byte slash differs

path_segments : (page : AddressText) → IsAddress page → dir_segments (path_of page) ≡ dir_segments (dir_of page) ++ filter has_bytes (file_of page ∷ [])
path_segments page is =
    let dir = dir_of page in
    segments_apart dir (file_of page) (take (length dir - 1) dir) (last_apart dir (begins_some dir is.dir_begins) is.dir_ends)
    (λ k d below. not_a_slash _ (is.file_bytes k d below).0)

-- ---- what is kept

servable_bytes : (text : List ℕ) → IsServable text → All IsSegmentByte text
servable_bytes text is = λ k d below. (let shown = controlled_not _ (is.bytes k d below) in (shown.0, shown.1, λ e. both_ways (is_slash _) (is.inner k d below) (ap is_slash e)))

servable_kept : (text : List ℕ) → IsServable text → local_segment false (units_of usual_chars text) ≡ text
servable_kept text is = local_segment_kept text is.utf8 (servable_bytes text is) is.named is.short

dirs_kept : (raws : List (List ℕ)) → All IsServable (map percent_decode raws) → map (λ segment. segment false) (map (path_segment usual_rules) raws) ≡ map percent_decode raws
dirs_kept [] all = refl
dirs_kept (raw ∷ raws) all =
    ap (λ segment. segment ∷ map (λ segment. segment false) (map (path_segment usual_rules) raws)) (servable_kept (percent_decode raw) (All-head IsServable (percent_decode raw) (map percent_decode raws) all))
    ∙ ap (λ segments. percent_decode raw ∷ segments) (dirs_kept raws (All-tail IsServable (percent_decode raw) (map percent_decode raws) all))

-- a byte that every name may have, as a test for a text that is written out
is_usual : ℕ → Bool
is_usual byte = nat_lt 45 byte && nat_lt byte 127 && not (byte == slash)

usual_byte : (byte : ℕ) → is_usual byte ≡ true → IsSegmentByte byte
unfolding is_usual
usual_byte byte is = (grind (arith, nat_tests), grind (arith, nat_tests), grind (arith, nat_tests))

usual_ascii : (byte : ℕ) → is_usual byte ≡ true → byte < 128
unfolding is_usual
usual_ascii byte is = grind (arith, nat_tests)

index_usual : All (λ byte. is_usual byte ≡ true) (codes "index.html")
unfolding is_usual
index_usual = AllPass-from_list_all is_usual (codes "index.html") refl

index_bytes : All IsSegmentByte (codes "index.html")
index_bytes = All-weaker (λ byte. is_usual byte ≡ true) IsSegmentByte usual_byte (codes "index.html") index_usual

index_ascii : All (λ byte. byte < 128) (codes "index.html")
index_ascii = All-weaker (λ byte. is_usual byte ≡ true) (λ byte. byte < 128) usual_ascii (codes "index.html") index_usual

index_kept : local_segment false (units_of usual_chars (codes "index.html")) ≡ codes "index.html"
index_kept = local_segment_kept (codes "index.html") (IsUtf8-from_ascii (codes "index.html") (IsAscii-from_all (codes "index.html") index_ascii)) index_bytes refl (omega arith)

no_query : (units : List (List ℕ)) (query : List ℕ) → query ≡ [] → units ++ marked_units (with_letters usual_chars) (query_mark usual_chars) (percent_decode query) ≡ units
no_query units query none =
    ap (λ text. units ++ marked_units (with_letters usual_chars) (query_mark usual_chars) text) (ap percent_decode none ∙ percent_decode-nil) ∙ append-nil units

last_kept : (file query : List ℕ) → query ≡ [] → All IsServable (map percent_decode (filter has_bytes (file ∷ []))) → local_segment false (file_units usual_rules file ++ marked_units (with_letters usual_chars) (query_mark usual_chars) (percent_decode query)) ∷ [] ≡ map percent_decode (filter has_bytes (file ∷ [])) ++ index_in file
last_kept [] query none all = ap (λ units. local_segment false units ∷ []) (no_query (file_units usual_rules []) query none) ∙ ap (λ segment. segment ∷ []) index_kept
last_kept (b ∷ file) query none all =
    ap (λ units. local_segment false units ∷ []) (no_query (file_units usual_rules (b ∷ file)) query none)
    ∙ ap (λ segment. segment ∷ []) (servable_kept (percent_decode (b ∷ file)) (All-head IsServable (percent_decode (b ∷ file)) [] all))

front_of_all : {X : Type 0} (P : X → Type 0) (xs ys : List X) → All P (xs ++ ys) → All P xs × All P ys
front_of_all P [] ys all = (All-nil P, all)
front_of_all P (x ∷ xs) ys all =
    let later = front_of_all P xs ys (All-tail P x (xs ++ ys) all) in (All-cons P x xs (All-head P x (xs ++ ys) all) later.0, later.1)

segments_served : (page : AddressText) → IsAddress page → HasServablePath page → segments_within MAX_SEGMENT usual_rules page ≡ local_segment true (host_units usual_rules page) ∷ served_segments page
unfolding segments_within
segments_served page is servable =
    let dirs = dir_segments (dir_of page) in
    let file = file_of page in
    let files = filter has_bytes (file ∷ []) in
    let apart : map percent_decode (dir_segments (path_of page)) ≡ map percent_decode dirs ++ map percent_decode files =
    ap (map percent_decode) (path_segments page is) ∙ map-append percent_decode dirs files in
    let both = front_of_all IsServable (map percent_decode dirs) (map percent_decode files) (subst (All IsServable) apart servable.segments) in
    let host = local_segment true (host_units usual_rules page) in
    let served : served_segments page ≡ map percent_decode dirs ++ (map percent_decode files ++ index_in file) =
    ap (λ segments. segments ++ index_in file) (decoded_segments (path_of page) servable.segments ∙ apart) ∙ append_assoc (map percent_decode dirs) (map percent_decode files) (index_in file) in
    ap (λ segments. host ∷ segments)
    (ap (λ segments. segments ++ local_segment false (last_units usual_rules page) ∷ []) (dirs_kept dirs both.0)
    ∙ ap (λ segments. map percent_decode dirs ++ segments) (last_kept file (query_of page) servable.no_query both.1)
    ∙ sym served)

plain_served : (page : AddressText) → IsAddress page → HasServablePath page → plain_name_of usual_rules page ≡ join_with_byte slash (local_segment true (host_units usual_rules page) ∷ served_segments page)
unfolding plain_name_within
plain_served page is servable = ap (join_with_byte slash) (segments_served page is servable)

-- ---- names that meet no other

own_if_free : (plain given : List (List ℕ)) (own name : List ℕ) → IsFirstFreeBy false plain given own name → IsFree plain given own → name ≡ own
own_if_free plain given own name at free = go at.number at.is at.first
  where
    go : (n : ℕ) → name ≡ numbered_name own n → ((k : ℕ) → k < n → ¬ IsFree plain given (numbered_name own k)) → name ≡ own
    go zero is first = is
    go (suc n) is first = absurd (first 0 (omega arith) free)

pub served_names : (pages : List AddressText) (names : List (List ℕ)) → IsNaming (map (plain_name_of usual_rules) pages) names → All IsAddress pages → AreServed pages names
served_names pages names naming addresses i below servable free =
    let page = get_or pages i [] in
    let plain = map (plain_name_of usual_rules) pages in
    let long = length-map pages (plain_name_of usual_rules) in
    let own : get_or plain i [] ≡ plain_name_of usual_rules page = get_or-map (plain_name_of usual_rules) pages i [] [] below in
    let at = subst (λ o. IsFirstFreeBy false plain (take i names) o (get_or names i [])) own (naming.each i (omega arith)) in
    own_if_free plain (take i names) (plain_name_of usual_rules page) (get_or names i []) at free
    ∙ plain_served page (addresses i [] below) servable
