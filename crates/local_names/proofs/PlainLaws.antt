-- Plain names of addresses: their segments, that each name made of one stays inside its folder, and how they are written.
use Rattle.std.proofs.Common.{zero, suc, ◌≡◌, ◌≢◌, ℕ, ◌+◌, ◌-◌, ◌<◌, ◌≤◌, ◌==◌, min, Bool, true, false, not, ◌&&◌, cond, Option, Some, None, List, [], ◌∷◌, ◌++◌, length, map, get_or, take, drop, codes, All, sym, refl, ap, ◌∙◌, subst, inl, inr, arith, append_assoc}
use denote.Ref.{Bor}
use Rattle.std.proofs.lemmas.Bool.{eqb-true, cond_both, cond-true, cond-false, cases_lt}
use Rattle.std.proofs.lemmas.List.{append-nil, map-append, length-map, length-append, nil_from_length, take_rest, drop_all}
use Rattle.std.proofs.lemmas.List.Elements.{filter-append, filter_passes, All-nil, All-cons, All-append, All-map, All-weaker, All-head, All-tail, All-drop}
use Rattle.std.proofs.lemmas.Str.{IsUtf8-string_bytes}
use Rattle.std.proofs.Math.Seq.{drop-append-add, drop-append_seam}
use Rattle.std.specs.Fmt.{decimal}
use Rattle.std.specs.List.{slice_split, filter, join_with_byte}
use Rattle.std.specs.String.{string_bytes}
use Rattle.std.specs.declared.string.String.{String}
use Rattle.percent_encoding.specs.Percent.{percent_decode}
use Rattle.percent_encoding.proofs.PercentLemmas.{length-percent_decode}
use Rattle.address.specs.Address.{AddressText, IsAddress, scheme_text, scheme_of, host_of, port_of, port_text, dir_of, file_of, query_of}
use Rattle.address.specs.declared.scheme.Scheme.{Scheme}
use Rattle.address.specs.declared.scheme.Scheme.TheVariants.{Http, Https}
use Rattle.local_names.specs.declared.rules.NameRules.{NameRules}
use Rattle.kept_bodies.specs.declared.body_kind.BodyKind.{BodyKind}
use Rattle.kept_bodies.specs.declared.body_kind.BodyKind.TheVariants.{Html, Sheet, Other}
use Rattle.local_names.specs.declared.plain_name.TheConstants.{MAX_SEGMENT}
use Rattle.local_names.specs.PlainNames.{slash, is_slash, has_bytes, units_of, marked_units, with_letters, port_mark, query_mark, host_units, dir_segments, path_units, or_index, default_page, file_units, last_units, Segment, segment_with, dir_segment, path_segment, scheme_segment, host_segment, front_segments, is_part, is_alone, segment_within, local_segment, local_segments, segments_within, plain_name_within, plain_name_with, is_original, plain_name_of}
use Rattle.local_names.specs.Endings.{shows_kind, ended_name, ended_names, ShowKinds, stem_of, ending_of}
use Rattle.local_names.specs.Names.{numbered_by, IsNamingBy}
use Rattle.local_names.specs.LocalNames.{IsInner, StaysInside, IsShort, HasShortSegmentsBy, IsUncontrolled, IsText, IsNoPart}
use Rattle.local_names.specs.inner.Units.{lent_bytes, below, below_within, all_below}
use Rattle.local_names.proofs.NamingLaws.{numbered_name-zero, numbered_name-suc}
use Rattle.local_names.proofs.OriginalLaws.{EndsOtherwise, dir_ends}
use Rattle.local_names.proofs.EndingLaws.{stem_ending, no_slash_ending, numbered_shows, ended_shows, length-ended_names, get_or-ended_names}
use Rattle.local_names.proofs.UnitLaws.{IsSegmentByte, IsUnit, IsSegment, units_are, units_present, marked_are, segment_within_is, length-segment_within, local_segment_is, local_segment_short, first_no_part, part_before_slash, part_before_dot, front_no_part, dot_no_part}
use Rattle.local_names.proofs.SegmentLaws.{present_length, split_joined, join_push, last_of, joined_text, decimal_first, dotted_segment_is, segment_bytes_from, numbered_segment_is}

-- ---- segments of a path, as they are read

pub no_segment : (read : List (Bor (List ℕ))) (one : Bor (List ℕ)) → (length one.now == 0) ≡ true → filter has_bytes (map lent_bytes (read ++ one ∷ [])) ≡ filter has_bytes (map lent_bytes read)
no_segment read one none =
    ap (filter has_bytes) (map-append lent_bytes read (one ∷ []))
    ∙ filter-append has_bytes (map lent_bytes read) (one.now ∷ [])
    ∙ ap (λ x. filter has_bytes (map lent_bytes read) ++ filter has_bytes (x ∷ [])) (nil_from_length one.now (eqb-true (length one.now) 0 none))
    ∙ append-nil (filter has_bytes (map lent_bytes read))

kept_segment : (one : List ℕ) → (length one == 0) ≡ false → filter has_bytes (one ∷ []) ≡ one ∷ []
kept_segment [] some = cc
kept_segment (b ∷ one) some = refl

pub one_segment : (read : List (Bor (List ℕ))) (one : Bor (List ℕ)) → (length one.now == 0) ≡ false → filter has_bytes (map lent_bytes (read ++ one ∷ [])) ≡ filter has_bytes (map lent_bytes read) ++ one.now ∷ []
one_segment read one some =
    ap (filter has_bytes) (map-append lent_bytes read (one ∷ []))
    ∙ filter-append has_bytes (map lent_bytes read) (one.now ∷ [])
    ∙ ap (λ xs. filter has_bytes (map lent_bytes read) ++ xs) (kept_segment one.now some)

drop_least : (k : ℕ) (xs : List (List ℕ)) → drop (min k (length xs)) xs ≡ drop k xs
drop_least k xs = elim (cases_lt k (length xs)) [
  | inl less ↦ ap (λ n. drop n xs) (let e : min k (length xs) ≡ k = omega arith in e)
  | inr more ↦ ap (λ n. drop n xs) (let e : min k (length xs) ≡ length xs = omega arith in e) ∙ drop_all (length xs) xs (omega arith) ∙ sym (drop_all k xs more)
]

map_drop : (n : ℕ) (xs : List (Bor (List ℕ))) → map lent_bytes (drop n xs) ≡ drop n (map lent_bytes xs)
map_drop zero xs = refl
map_drop (suc n) [] = refl
map_drop (suc n) (x ∷ xs) = map_drop n xs

pub uncut : (k : ℕ) (dirs : List (Bor (List ℕ))) (all : List (List ℕ)) → map lent_bytes dirs ≡ all → map lent_bytes (take (length dirs - min k (length dirs)) (drop (min k (length dirs)) dirs)) ≡ drop k all
uncut k dirs all is =
    ap (map lent_bytes) (take_rest dirs (min k (length dirs)))
    ∙ map_drop (min k (length dirs)) dirs
    ∙ ap (λ n. drop (min k n) (map lent_bytes dirs)) (sym (length-map dirs lent_bytes))
    ∙ drop_least k (map lent_bytes dirs)
    ∙ ap (drop k) is

-- ---- names to which segments are added

pub all_below-append : (name : List ℕ) (xs ys : List Segment) → all_below name (xs ++ ys) ≡ all_below (all_below name xs) ys
all_below-append name [] ys = refl
all_below-append name (x ∷ xs) ys = all_below-append (below name x) xs ys

below_some : (name : List ℕ) (segment : Segment) → has_bytes name ≡ true → below name segment ≡ name ++ slash ∷ segment false
below_some name segment has = ap (λ b. cond b (name ++ slash ∷ []) [] ++ segment (not b)) has ∙ append_assoc name (slash ∷ []) (segment false)

has_more : (xs ys : List ℕ) (y : ℕ) → has_bytes (xs ++ y ∷ ys) ≡ true
has_more [] ys y = refl
has_more (x ∷ xs) ys y = refl

join_front : (first segment : List ℕ) (rest : List (List ℕ)) → join_with_byte slash ((first ++ slash ∷ segment) ∷ rest) ≡ first ++ slash ∷ join_with_byte slash (segment ∷ rest)
join_front first segment [] = refl
join_front first segment (next ∷ rest) = append_assoc first (slash ∷ segment) (slash ∷ join_with_byte slash (next ∷ rest))

below_joined : (first : List ℕ) (rest : List Segment) → has_bytes first ≡ true → all_below first rest ≡ join_with_byte slash (first ∷ map (λ segment. segment false) rest)
below_joined first [] has = refl
below_joined first (segment ∷ rest) has =
    let own = segment false in
    ap (λ name. all_below name rest) (below_some first segment has)
    ∙ below_joined (first ++ slash ∷ own) rest (has_more first own slash)
    ∙ join_front first own (map (λ segment. segment false) rest)

present_has : (segment : List ℕ) → segment ≢ [] → has_bytes segment ≡ true
present_has [] present = absurd (present refl)
present_has (b ∷ segment) present = refl

pub all_joined : (segments : List Segment) → All IsSegment (local_segments segments) → all_below [] segments ≡ join_with_byte slash (local_segments segments)
all_joined [] all = refl
all_joined (segment ∷ rest) all =
    let first = segment true in
    below_joined first rest (present_has first ((All-head IsSegment first (map (λ segment. segment false) rest) all).inner).present)

-- ---- as the code writes it

pub front_steps : (rules : NameRules) (page : AddressText) (old scheme host : List ℕ) → rules.has_directories ≡ true
    → scheme ≡ all_below old (scheme_segment rules page) → host ≡ all_below scheme (host_segment rules page)
    → all_below host (map (path_segment rules) (drop rules.cut_dirs (dir_segments (dir_of page)))) ≡ all_below old (front_segments rules page)
front_steps rules page old scheme host has es eh =
    let one = scheme_segment rules page in
    let two = host_segment rules page in
    let dirs = map (path_segment rules) (drop rules.cut_dirs (dir_segments (dir_of page))) in
    ap (λ n. all_below n dirs) (eh ∙ ap (λ n. all_below n two) es)
    ∙ sym (all_below-append (all_below old one) two dirs)
    ∙ sym (all_below-append old one (two ++ dirs))
    ∙ ap (all_below old) (sym (cond-true rules.has_directories (one ++ (two ++ dirs)) [] has))

pub query_behind : (text dir file query : List ℕ) → text ≡ dir ++ (file ++ query) → drop (length dir + length file) text ≡ query
query_behind text dir file query is =
    ap (drop (length dir + length file)) is ∙ drop-append-add dir (file ++ query) (length file) ∙ drop-append_seam file query

pub port_behind : (authority host port : List ℕ) (n : ℕ) → authority ≡ host ++ port → n ≡ length host → take (length authority - n) (drop n authority) ≡ port
port_behind authority host port n is at = take_rest authority n ∙ ap (λ k. drop k authority) at ∙ ap (drop (length host)) is ∙ drop-append_seam host port

pub host_fits : (authority host port : List ℕ) (n : ℕ) → authority ≡ host ++ port → n ≡ length host → n ≤ length authority
host_fits authority host port n is at = omega (arith, at, ap length is, length-append host port)

-- ---- the parts of an address

-- units of which a segment is made
pub record AreUnits (units : List (List ℕ)) : Type 0 where
  pub all : All IsUnit units
  pub some : 0 < length units

text_units : (rules : _) (text : List ℕ) → 0 < length text → AreUnits (units_of rules text)
text_units rules text some = record { all = units_are rules text; some = units_present rules text some }

with_mark : (units others : List (List ℕ)) → AreUnits units → All IsUnit others → AreUnits (units ++ others)
with_mark units others are more =
    let some = are.some in
    record { all = All-append IsUnit units others are.all more; some = omega (arith, some, length-append units others) }

some_bytes : (text : List ℕ) → has_bytes text ≡ true → 0 < length text
some_bytes [] has = cc
some_bytes (b ∷ text) has = omega arith

decoded_some : (text : List ℕ) → 0 < length text → 0 < length (percent_decode text)
decoded_some text some = let long = length-percent_decode text in omega (arith, long.0, long.1)

index_some : {Y : Type 0} (name : Option (String Y)) → 0 < length (or_index name)
index_some None = omega arith
index_some (Some name) =
    cond_both (has_bytes (string_bytes name)) (string_bytes name) (codes "index.html") (λ text. 0 < length text) (λ has. some_bytes (string_bytes name) has) (λ _. omega arith)

pub scheme_some : (scheme : Scheme) → 0 < length (scheme_text scheme)
scheme_some Http = omega arith
scheme_some Https = omega arith

mark_byte : (b : Bool) (x y : ℕ) → IsSegmentByte x → IsSegmentByte y → IsSegmentByte (cond b x y)
mark_byte true x y is other = is
mark_byte false x y is other = other

host_are : (rules : NameRules) (page : AddressText) → IsAddress page → AreUnits (host_units rules page)
host_are rules page is =
    with_mark (units_of (with_letters rules.chars) (host_of page)) (marked_units (with_letters rules.chars) (port_mark rules.chars) (port_text (port_of page)))
    (text_units (with_letters rules.chars) (host_of page) is.host)
    (marked_are (with_letters rules.chars) (port_mark rules.chars) (port_text (port_of page))
    (mark_byte rules.chars.is_windows 43 58 (omega arith, λ e. omega (arith, e), λ e. omega (arith, e)) (omega arith, λ e. omega (arith, e), λ e. omega (arith, e))))

path_are : (rules : NameRules) (segment : List ℕ) → has_bytes segment ≡ true → AreUnits (path_units rules segment)
path_are rules segment has = text_units rules.chars (percent_decode segment) (decoded_some segment (some_bytes segment has))

last_are : (rules : NameRules) (page : AddressText) → AreUnits (last_units rules page)
last_are rules page =
    with_mark (file_units rules (file_of page)) (marked_units (with_letters rules.chars) (query_mark rules.chars) (percent_decode (query_of page)))
    (cond_both (has_bytes (file_of page)) (path_units rules (file_of page)) (units_of rules.chars (default_page rules)) AreUnits
    (λ has. path_are rules (file_of page) has)
    (λ _. text_units rules.chars (default_page rules) (index_some rules.default_page)))
    (marked_are (with_letters rules.chars) (query_mark rules.chars) (percent_decode (query_of page))
    (mark_byte rules.chars.is_windows 64 63 (omega arith, λ e. omega (arith, e), λ e. omega (arith, e)) (omega arith, λ e. omega (arith, e), λ e. omega (arith, e))))

-- ---- directories

-- what a directory's segment is, first or after others
record IsLocal (segment : Segment) : Type 0 where
  is : (is_first : Bool) → IsSegment (segment is_first)
  short : (is_first : Bool) → IsShort (segment is_first)
  no_part : is_part (segment true) ≡ false

units_local : (units : List (List ℕ)) → AreUnits units → IsLocal (λ is_first. local_segment is_first units)
units_local units are =
    record { is = λ is_first. local_segment_is is_first units are.all are.some; short = λ is_first. local_segment_short is_first units; no_part = first_no_part MAX_SEGMENT units }

one_bytes : All IsSegmentByte (codes ".1")
one_bytes = segment_bytes_from (codes ".1") refl

dir_local : (has : Bool) (units : List (List ℕ)) → AreUnits units → IsLocal (dir_segment has units)
dir_local has units are = record {
  is = λ is_first. both is_first IsSegment (dotted_segment_is (segment_within is_first 198 units) (codes "1") (cut_is is_first) one_bytes (omega arith)) (own.is is_first);
  short = λ is_first. both is_first IsShort
      (let long = length-append (segment_within is_first 198 units) (codes ".1") in let room = length-segment_within is_first 198 units (omega arith) in omega (arith, long, room))
      (own.short is_first);
  no_part = both true (λ text. is_part text ≡ false)
      (part_before_dot (segment_within true 198 units) (codes "1") (present_length (segment_within true 198 units) ((cut_is true).inner).present) (first_no_part 198 units))
      own.no_part;
}
  where
    own : IsLocal (λ is_first. local_segment is_first units)
    own = units_local units are

    cut_is : (is_first : Bool) → IsSegment (segment_within is_first 198 units)
    cut_is is_first = segment_within_is is_first 198 units (omega arith) are.all are.some

    both : (is_first : Bool) (P : List ℕ → Type 0) → P (segment_with (codes ".1") is_first units) → P (local_segment is_first units) → P (dir_segment has units is_first)
    both is_first P with_one alone =
        cond_both (has && is_original (local_segment is_first units)) (segment_with (codes ".1") is_first units) (local_segment is_first units) P (λ _. with_one) (λ _. alone)

dirs_are : (rules : NameRules) (n : ℕ) (dir : List ℕ) → All IsLocal (map (path_segment rules) (drop n (dir_segments dir)))
dirs_are rules n dir =
    All-map IsLocal (path_segment rules) (drop n (dir_segments dir))
    (All-weaker (λ raw. has_bytes raw ≡ true) (λ raw. IsLocal (path_segment rules raw)) (λ raw has. dir_local rules.has_originals (path_units rules raw) (path_are rules raw has)) (drop n (dir_segments dir))
    (All-drop (λ raw. has_bytes raw ≡ true) n (dir_segments dir) (filter_passes has_bytes (slice_split is_slash dir))))

either_are : (b : Bool) (units : List (List ℕ)) → AreUnits units → All IsLocal (cond b ((λ is_first. local_segment is_first units) ∷ []) [])
either_are true units are = All-cons IsLocal (λ is_first. local_segment is_first units) [] (units_local units are) (All-nil IsLocal)
either_are false units are = All-nil IsLocal

front_are : (rules : NameRules) (page : AddressText) → IsAddress page → All IsLocal (front_segments rules page)
front_are rules page is =
    let dirs = map (path_segment rules) (drop rules.cut_dirs (dir_segments (dir_of page))) in
    cond_both rules.has_directories (scheme_segment rules page ++ (host_segment rules page ++ dirs)) [] (All IsLocal)
    (λ _. All-append IsLocal (scheme_segment rules page) (host_segment rules page ++ dirs)
    (either_are rules.has_protocol (units_of (with_letters rules.chars) (scheme_text (scheme_of page))) (text_units (with_letters rules.chars) (scheme_text (scheme_of page)) (scheme_some (scheme_of page))))
    (All-append IsLocal (host_segment rules page) dirs (either_are rules.has_host (host_units rules page) (host_are rules page is)) (dirs_are rules rules.cut_dirs (dir_of page))))
    (λ _. All-nil IsLocal)

locals_are : (segments : List Segment) → All IsLocal segments → All IsSegment (local_segments segments)
locals_are [] all = All-nil IsSegment
locals_are (first ∷ others) all =
    All-cons IsSegment (first true) (map (λ segment. segment false) others) ((All-head IsLocal first others all).is true)
    (All-map IsSegment (λ segment. segment false) others
    (All-weaker IsLocal (λ segment. IsSegment (segment false)) (λ segment are. are.is false) others (All-tail IsLocal first others all)))

locals_are_short : (segments : List Segment) → All IsLocal segments → All IsShort (local_segments segments)
locals_are_short [] all = All-nil IsShort
locals_are_short (first ∷ others) all =
    All-cons IsShort (first true) (map (λ segment. segment false) others) ((All-head IsLocal first others all).short true)
    (All-map IsShort (λ segment. segment false) others
    (All-weaker IsLocal (λ segment. IsShort (segment false)) (λ segment are. are.short false) others (All-tail IsLocal first others all)))

-- how many directories a name has in front of those of the path
abbrev pub head_count : NameRules → ℕ
head_count rules = cond rules.has_directories (cond rules.has_protocol 1 0 + cond rules.has_host 1 0) 0

-- directories of which those in front are there, and no other ends as the name of a body as it came
pub record LeaveFree (rules : NameRules) (fronts : List (List ℕ)) : Type 0 where
  pub heads : head_count rules ≤ length fronts
  pub ends : (i : ℕ) → head_count rules ≤ i → i < length fronts → EndsOtherwise (get_or fronts i [])

-- the segment doesn't end so
abbrev LeavesFree : Segment → Type 0
LeavesFree segment = (is_first : Bool) → EndsOtherwise (segment is_first)

after_ends : (heads dirs : List Segment) → All LeavesFree dirs → (i : ℕ) → length heads ≤ i → i < length (map (λ segment. segment false) (heads ++ dirs)) → EndsOtherwise (get_or (map (λ segment. segment false) (heads ++ dirs)) i [])
after_ends [] [] all i long below = absurd (omega (arith, below))
after_ends [] (dir ∷ dirs) all zero long below = (All-head LeavesFree dir dirs all) false
after_ends [] (dir ∷ dirs) all (suc i) long below = after_ends [] dirs (All-tail LeavesFree dir dirs all) i (omega arith) (omega (arith, below))
after_ends (head ∷ heads) dirs all zero long below = absurd (omega (arith, long))
after_ends (head ∷ heads) dirs all (suc i) long below = after_ends heads dirs all i (omega (arith, long)) (omega (arith, below))

local_ends : (heads dirs : List Segment) → All LeavesFree dirs → (i : ℕ) → length heads ≤ i → i < length (local_segments (heads ++ dirs)) → EndsOtherwise (get_or (local_segments (heads ++ dirs)) i [])
local_ends [] [] all i long below = absurd (omega (arith, below))
local_ends [] (dir ∷ dirs) all zero long below = (All-head LeavesFree dir dirs all) true
local_ends [] (dir ∷ dirs) all (suc i) long below = after_ends [] dirs (All-tail LeavesFree dir dirs all) i (omega arith) (omega (arith, below))
local_ends (head ∷ heads) dirs all zero long below = absurd (omega (arith, long))
local_ends (head ∷ heads) dirs all (suc i) long below = after_ends heads dirs all i (omega (arith, long)) (omega (arith, below))

length-local_segments : (segments : List Segment) → length (local_segments segments) ≡ length segments
length-local_segments [] = refl
length-local_segments (first ∷ others) = ap suc (length-map others (λ segment. segment false))

either_long : (b : Bool) (segment : Segment) → length (cond b (segment ∷ []) []) ≡ cond b 1 0
either_long true segment = refl
either_long false segment = refl

front_leaves : (rules : NameRules) (page : AddressText) → rules.has_originals ≡ true → LeaveFree rules (local_segments (front_segments rules page))
front_leaves rules page on =
    let scheme = scheme_segment rules page in
    let host = host_segment rules page in
    let raws = drop rules.cut_dirs (dir_segments (dir_of page)) in
    let dirs = map (path_segment rules) raws in
    let free : All LeavesFree dirs = All-map LeavesFree (path_segment rules) raws (λ k d below is_first. dir_ends rules.has_originals is_first (path_units rules (get_or raws k d)) on) in
    cond_both rules.has_directories (scheme ++ (host ++ dirs)) [] (λ fronts. LeaveFree rules (local_segments fronts))
    (λ has. subst (λ fronts. LeaveFree rules (local_segments fronts)) (append_assoc scheme host dirs)
    (let count : head_count rules ≡ cond rules.has_protocol 1 0 + cond rules.has_host 1 0 = cond-true rules.has_directories (cond rules.has_protocol 1 0 + cond rules.has_host 1 0) 0 has in
    let one = either_long rules.has_protocol (λ is_first. local_segment is_first (units_of (with_letters rules.chars) (scheme_text (scheme_of page)))) in
    let two = either_long rules.has_host (λ is_first. local_segment is_first (host_units rules page)) in
    let both = length-append scheme host in
    let long = length-append (scheme ++ host) dirs in
    let all = length-local_segments ((scheme ++ host) ++ dirs) in
    record {
      heads = omega (arith, count, one, two, both, long, all);
      ends = λ i more below. local_ends (scheme ++ host) dirs free i (omega (arith, more, count, one, two, both)) below;
    }))
    (λ off. (let count : head_count rules ≡ 0 = cond-false rules.has_directories (cond rules.has_protocol 1 0 + cond rules.has_host 1 0) 0 off in
    record { heads = omega (arith, count); ends = λ i more below. absurd (omega (arith, below)) }))

-- the last segment of a page's name
last_within : ℕ → NameRules → AddressText → List ℕ
last_within room rules page = segment_within (is_alone (front_segments rules page)) room (last_units rules page)

last_segment_is : (room : ℕ) (rules : NameRules) (page : AddressText) → 6 ≤ room → IsSegment (last_within room rules page)
unfolding last_within
last_segment_is room rules page wide = (let are = last_are rules page in segment_within_is (is_alone (front_segments rules page)) room (last_units rules page) wide are.all are.some)

length-last_within : (room : ℕ) (rules : NameRules) (page : AddressText) → 6 ≤ room → length (last_within room rules page) ≤ room
unfolding last_within
length-last_within room rules page wide = length-segment_within (is_alone (front_segments rules page)) room (last_units rules page) wide

-- a name to which the last segment is added
below_last : (room : ℕ) (fronts : List Segment) (last : List (List ℕ)) → All IsLocal fronts
    → below_within room (join_with_byte slash (local_segments fronts)) last ≡ join_with_byte slash (local_segments fronts ++ segment_within (is_alone fronts) room last ∷ [])
below_last room [] last are = refl
below_last room (front ∷ fronts) last are =
    let first = front true in
    let rest = map (λ segment. segment false) fronts in
    let name = join_with_byte slash (first ∷ rest) in
    let segment = segment_within false room last in
    let has = has_joined first rest (present_has first (((All-head IsLocal front fronts are).is true).inner).present) in
    ap (λ b. cond b (name ++ slash ∷ []) [] ++ segment_within (not b) room last) has
    ∙ append_assoc name (slash ∷ []) segment
    ∙ sym (join_push first rest segment)
  where
    has_joined : (first : List ℕ) (rest : List (List ℕ)) → has_bytes first ≡ true → has_bytes (join_with_byte slash (first ∷ rest)) ≡ true
    has_joined [] rest has = cc
    has_joined (b ∷ first) [] has = refl
    has_joined (b ∷ first) (next ∷ rest) has = refl

-- the plain name, step by step
pub plain_steps : (room : ℕ) (rules : NameRules) (page : AddressText) → IsAddress page → (none front name : List ℕ) (last : List (List ℕ)) → none ≡ []
    → front ≡ all_below none (front_segments rules page) → last ≡ last_units rules page → name ≡ below_within room front last → name ≡ plain_name_within room rules page
unfolding plain_name_within segments_within
plain_steps room rules page is none front name last en ef el e =
    let fronts = front_segments rules page in
    let own = last_units rules page in
    let are = front_are rules page is in
    e ∙ ap (below_within room front) el
    ∙ ap (λ n. below_within room n own) (ef ∙ ap (λ n. all_below n fronts) en ∙ all_joined fronts (locals_are fronts are))
    ∙ below_last room fronts own are

-- ---- names that are made of segments

-- the name is segments, joined
pub record IsMade (name : List ℕ) : Type 0 where
  pub first : List ℕ
  pub rest : List (List ℕ)
  pub is : name ≡ join_with_byte slash (first ∷ rest)
  pub all : All IsSegment (first ∷ rest)

bytes_of : (segments : List (List ℕ)) → All IsSegment segments → All (All IsSegmentByte) segments
bytes_of segments all = λ k d below. (all k d below).bytes

pub made_stays_inside : (name : List ℕ) → IsMade name → StaysInside name
made_stays_inside name made =
    let split : slice_split is_slash name ≡ made.first ∷ made.rest = ap (slice_split is_slash) made.is ∙ split_joined made.first made.rest (bytes_of (made.first ∷ made.rest) made.all) in
    subst (All IsInner) (sym split) (λ k d below. (made.all k d below).inner)

pub made_text : (name : List ℕ) → IsMade name → All IsUncontrolled name
made_text name made = subst (All IsUncontrolled) (sym made.is) (joined_text made.first made.rest (bytes_of (made.first ∷ made.rest) made.all))

joined_short : (segments : List (List ℕ)) → 0 < length segments → All IsSegment segments → All IsShort segments → All IsShort (slice_split is_slash (join_with_byte slash segments))
joined_short [] some all short = absurd (omega arith)
joined_short (first ∷ rest) some all short = subst (All IsShort) (sym (split_joined first rest (bytes_of (first ∷ rest) all))) short

made_of : (fronts : List (List ℕ)) (last : List ℕ) → All IsSegment fronts → IsSegment last → IsMade (join_with_byte slash (fronts ++ last ∷ []))
made_of [] last all is = record { first = last; rest = []; is = refl; all = All-cons IsSegment last [] is (All-nil IsSegment) }
made_of (first ∷ mids) last all is =
    record { first = first; rest = mids ++ last ∷ []; is = refl; all = All-append IsSegment (first ∷ mids) (last ∷ []) all (All-cons IsSegment last [] is (All-nil IsSegment)) }

-- ---- plain names with their endings

-- what a plain name is: directories, and a last segment of no more bytes than this; none of a part, nor in the way of a body as it came
pub record IsPlain (rules : NameRules) (room : ℕ) (name : List ℕ) : Type 0 where
  pub fronts : List (List ℕ)
  pub last : List ℕ
  pub is : name ≡ join_with_byte slash (fronts ++ last ∷ [])
  pub fronts_are : All IsSegment fronts
  pub last_is : IsSegment last
  pub fronts_short : All IsShort fronts
  pub last_short : length last ≤ room
  pub leaves : rules.has_originals ≡ true → LeaveFree rules fronts
  pub no_part : is_part name ≡ false

joined_no_part : (fronts : List Segment) (room : ℕ) (last : List (List ℕ)) → All IsLocal fronts → is_part (join_with_byte slash (local_segments fronts ++ segment_within (is_alone fronts) room last ∷ [])) ≡ false
joined_no_part [] room last are = first_no_part room last
joined_no_part (front ∷ fronts) room last are =
    next (front true) (map (λ segment. segment false) fronts ++ segment_within false room last ∷ []) (All-head IsLocal front fronts are).no_part
  where
    next : (first : List ℕ) (rest : List (List ℕ)) → is_part first ≡ false → is_part (join_with_byte slash (first ∷ rest)) ≡ false
    next first [] none = none
    next first (other ∷ rest) none = part_before_slash first (join_with_byte slash (other ∷ rest)) none

within_is : (room : ℕ) (rules : NameRules) (page : AddressText) → 6 ≤ room → IsAddress page → IsPlain rules room (plain_name_within room rules page)
unfolding plain_name_within segments_within last_within
within_is room rules page wide is =
    let fronts = front_segments rules page in
    let are = front_are rules page is in
    record {
      fronts = local_segments fronts;
      last = last_within room rules page;
      is = refl;
      fronts_are = locals_are fronts are;
      last_is = last_segment_is room rules page wide;
      fronts_short = locals_are_short fronts are;
      last_short = length-last_within room rules page wide;
      leaves = front_leaves rules page;
      no_part = joined_no_part fronts room (last_units rules page) are;
    }

-- a plain name isn't empty
plain_some : (rules : NameRules) (room : ℕ) (name : List ℕ) → IsPlain rules room name → 0 < length name
plain_some rules room name plain = some plain.fronts plain.last name (plain.last_is.inner).present plain.is
  where
    some : (fronts : List (List ℕ)) (last name : List ℕ) → last ≢ [] → name ≡ join_with_byte slash (fronts ++ last ∷ []) → 0 < length name
    some [] [] name present is = absurd (present refl)
    some [] (b ∷ last) name present is = omega (arith, ap length is)
    some (first ∷ mids) last name present is =
        let long = length-append (join_with_byte slash (first ∷ mids)) (slash ∷ last) in
        omega (arith, ap length (is ∙ join_push first mids last), long)

pub onto_last : (fronts : List (List ℕ)) (last suffix : List ℕ) → join_with_byte slash (fronts ++ last ∷ []) ++ suffix ≡ join_with_byte slash (fronts ++ (last ++ suffix) ∷ [])
onto_last [] last suffix = refl
onto_last (first ∷ mids) last suffix =
    ap (λ x. x ++ suffix) (join_push first mids last)
    ∙ append_assoc (join_with_byte slash (first ∷ mids)) (slash ∷ last) suffix
    ∙ sym (join_push first mids (last ++ suffix))

-- a name to which an ending is added
with_ending : (rules : NameRules) (room : ℕ) (name rest : List ℕ) → All IsSegmentByte (46 ∷ rest) → 1 ≤ length rest → IsPlain rules room name → IsPlain rules (room + length (46 ∷ rest)) (name ++ 46 ∷ rest)
with_ending rules room name rest bytes some plain =
    let ending = 46 ∷ rest in
    let long = length-append plain.last ending in
    let short = plain.last_short in
    record {
      fronts = plain.fronts;
      last = plain.last ++ ending;
      is = ap (λ x. x ++ ending) plain.is ∙ onto_last plain.fronts plain.last ending;
      fronts_are = plain.fronts_are;
      last_is = dotted_segment_is plain.last rest plain.last_is bytes some;
      fronts_short = plain.fronts_short;
      last_short = omega (arith, long, short);
      leaves = plain.leaves;
      no_part = part_before_dot name rest (plain_some rules room name plain) plain.no_part;
    }

html_bytes : All IsSegmentByte (codes ".html")
html_bytes = segment_bytes_from (codes ".html") refl

css_bytes : All IsSegmentByte (codes ".css")
css_bytes = segment_bytes_from (codes ".css") refl

plain_is : (rules : NameRules) (page : AddressText) → IsAddress page → IsPlain rules MAX_SEGMENT (plain_name_of rules page)
plain_is rules page is =
    let plain = plain_name_within MAX_SEGMENT rules page in
    cond_both (rules.has_originals && is_original plain) (plain_name_with (codes ".1") rules page) plain (IsPlain rules MAX_SEGMENT)
    (λ _. with_ending rules 198 (plain_name_within 198 rules page) (codes "1") one_bytes (omega arith) (within_is 198 rules page (omega arith) is))
    (λ _. within_is MAX_SEGMENT rules page (omega arith) is)

ended_is : (rules : NameRules) (kind : BodyKind) (page : AddressText) → IsAddress page → IsPlain rules MAX_SEGMENT (ended_name rules kind page)
ended_is rules Html page is =
    let plain = plain_name_of rules page in
    let added = plain_name_within 195 rules page ++ codes ".html" in
    cond_both (shows_kind Html plain) plain added (IsPlain rules MAX_SEGMENT) (λ _. plain_is rules page is)
    (λ _. with_ending rules 195 (plain_name_within 195 rules page) (codes "html") html_bytes (omega arith) (within_is 195 rules page (omega arith) is))
ended_is rules Sheet page is =
    let plain = plain_name_of rules page in
    let added = plain_name_within 196 rules page ++ codes ".css" in
    cond_both (shows_kind Sheet plain) plain added (IsPlain rules MAX_SEGMENT) (λ _. plain_is rules page is)
    (λ _. with_ending rules 196 (plain_name_within 196 rules page) (codes "css") css_bytes (omega arith) (within_is 196 rules page (omega arith) is))
ended_is rules Other page is = plain_is rules page is

-- ---- numbered names

-- the name is such directories and a last segment
pub record IsParted (rules : NameRules) (name : List ℕ) : Type 0 where
  pub fronts : List (List ℕ)
  pub last : List ℕ
  pub is : name ≡ join_with_byte slash (fronts ++ last ∷ [])
  pub all : All IsSegment (fronts ++ last ∷ [])
  pub leaves : rules.has_originals ≡ true → LeaveFree rules fronts

-- what each numbered plain name has
pub record IsNumbered (rules : NameRules) (has : Bool) (name : List ℕ) : Type 0 where
  pub made : IsMade name
  pub short : HasShortSegmentsBy has name
  pub no_part : IsNoPart name
  pub parted : IsParted rules name

plain_short : (rules : NameRules) (name : List ℕ) → IsPlain rules MAX_SEGMENT name → All IsShort (slice_split is_slash name)
plain_short rules name plain =
    let fronts = plain.fronts in
    let last = plain.last in
    subst (λ x. All IsShort (slice_split is_slash x)) (sym plain.is)
    (joined_short (fronts ++ last ∷ []) (omega (arith, length-append fronts (last ∷ [])))
    (All-append IsSegment fronts (last ∷ []) plain.fronts_are (All-cons IsSegment last [] plain.last_is (All-nil IsSegment)))
    (All-append IsShort fronts (last ∷ []) plain.fronts_short (All-cons IsShort last [] plain.last_short (All-nil IsShort))))

numbered_no_part : (stem ending : List ℕ) (k : ℕ) → is_part (stem ++ ending) ≡ false → is_part (stem ++ 46 ∷ (decimal k ++ ending)) ≡ false
numbered_no_part [] ending k none = dot_no_part (decimal k ++ ending) (decimal_first k ending)
numbered_no_part (b ∷ stem) ending k none = part_before_dot (b ∷ stem) (decimal k ++ ending) (omega arith) (front_no_part (b ∷ stem) ending none)

numbered_is : (rules : NameRules) (has : Bool) (name : List ℕ) (k : ℕ) → IsPlain rules MAX_SEGMENT name → IsNumbered rules has (numbered_by has name k)
numbered_is rules has name zero plain =
    let own = numbered_name-zero has name in
    record {
      made = subst IsMade (sym (own ∙ plain.is)) (made_of plain.fronts plain.last plain.fronts_are plain.last_is);
      short = record { plain = name; number = 0; is = refl; short = plain_short rules name plain };
      no_part = subst IsNoPart (sym own) plain.no_part;
      parted = record {
        fronts = plain.fronts;
        last = plain.last;
        is = own ∙ plain.is;
        all = All-append IsSegment plain.fronts (plain.last ∷ []) plain.fronts_are (All-cons IsSegment plain.last [] plain.last_is (All-nil IsSegment));
        leaves = plain.leaves;
      };
    }
numbered_is rules has name (suc k) plain =
    let stem = stem_of has name in
    let ending = ending_of has name in
    let whole = stem_ending has name in
    let number = 46 ∷ (decimal (suc k) ++ ending) in
    let e = numbered_name-suc has name k in
    let cut = last_of plain.fronts plain.last stem ending (sym plain.is ∙ sym whole) (no_slash_ending has name) in
    let last_is = numbered_segment_is cut.front ending (suc k) (subst IsSegment cut.is plain.last_is) in
    record {
      made = subst IsMade (sym (e ∙ cut.put number)) (made_of plain.fronts (cut.front ++ number) plain.fronts_are last_is);
      short = record { plain = name; number = suc k; is = refl; short = plain_short rules name plain };
      no_part = subst IsNoPart (sym e) (numbered_no_part stem ending (suc k) (subst (λ x. is_part x ≡ false) (sym whole) plain.no_part));
      parted = record {
        fronts = plain.fronts;
        last = cut.front ++ number;
        is = e ∙ cut.put number;
        all = All-append IsSegment plain.fronts ((cut.front ++ number) ∷ []) plain.fronts_are (All-cons IsSegment (cut.front ++ number) [] last_is (All-nil IsSegment));
        leaves = plain.leaves;
      };
    }

-- ---- all names of a list

-- each plain name is one
pub plain_are : (rules : NameRules) (pages : List AddressText) → All IsAddress pages → All (IsPlain rules MAX_SEGMENT) (map (plain_name_of rules) pages)
plain_are rules pages addresses = All-map (IsPlain rules MAX_SEGMENT) (plain_name_of rules) pages (λ i page below. plain_is rules (get_or pages i page) (addresses i page below))

pub ended_are : (rules : NameRules) (pages : List AddressText) (kinds : List BodyKind) → All IsAddress pages → All (IsPlain rules MAX_SEGMENT) (ended_names rules pages kinds)
ended_are rules [] kinds all = All-nil (IsPlain rules MAX_SEGMENT)
ended_are rules (page ∷ pages) [] all =
    All-cons (IsPlain rules MAX_SEGMENT) (ended_name rules Other page) (ended_names rules pages []) (ended_is rules Other page (All-head IsAddress page pages all)) (ended_are rules pages [] (All-tail IsAddress page pages all))
ended_are rules (page ∷ pages) (kind ∷ kinds) all =
    All-cons (IsPlain rules MAX_SEGMENT) (ended_name rules kind page) (ended_names rules pages kinds) (ended_is rules kind page (All-head IsAddress page pages all)) (ended_are rules pages kinds (All-tail IsAddress page pages all))

-- what each numbered plain name has, the names have
pub all_names : (rules : NameRules) (P : List ℕ → Type 0) (has : Bool) (plain names : List (List ℕ)) → IsNamingBy has plain names → All (IsPlain rules MAX_SEGMENT) plain → ((name : List ℕ) → IsNumbered rules has name → P name) → All P names
all_names rules P has plain names naming are each i d below =
    let count = naming.count in
    let within : i < length plain = omega (arith, below, count) in
    let at = naming.each i within in
    let own = get_or plain i [] in
    subst P (sym (same_read names i d [] below ∙ at.is)) (each (numbered_by has own at.number) (numbered_is rules has own at.number (are i [] within)))
  where
    same_read : (xs : List (List ℕ)) (k : ℕ) (a b : List ℕ) → k < length xs → get_or xs k a ≡ get_or xs k b
    same_read [] k a b below = absurd (omega arith)
    same_read (x ∷ xs) zero a b below = refl
    same_read (x ∷ xs) (suc k) a b below = same_read xs k a b (omega arith)

-- each shows its kind
pub names_show : (rules : NameRules) (pages : List AddressText) (kinds : List BodyKind) (names : List (List ℕ)) → IsNamingBy true (ended_names rules pages kinds) names → ShowKinds kinds names
names_show rules pages kinds names naming i below =
    let kind = get_or kinds i Other in
    let page = get_or pages i [] in
    let count = naming.count in
    let long = length-ended_names rules pages kinds in
    let at = naming.each i (omega (arith, below, count)) in
    let own = get_or-ended_names rules pages kinds i [] (omega (arith, below, count, long)) in
    subst (λ name. shows_kind kind name ≡ true) (sym (at.is ∙ ap (λ x. numbered_by true x at.number) own)) (numbered_shows kind (ended_name rules kind page) at.number (ended_shows rules kind page))

-- strings are characters in UTF-8
pub texts : {Y : Type 0} (names : List (String Y)) → All (All IsUncontrolled) (map string_bytes names) → All IsText (map string_bytes names)
texts [] all = All-nil IsText
texts (name ∷ names) all =
    All-cons IsText (string_bytes name) (map string_bytes names)
    (record { utf8 = IsUtf8-string_bytes name; bytes = All-head (All IsUncontrolled) (string_bytes name) (map string_bytes names) all })
    (texts names (All-tail (All IsUncontrolled) (string_bytes name) (map string_bytes names) all))
