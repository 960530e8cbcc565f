-- What is written of a note is one entry, which states what was noted.
use Rattle.std.proofs.Common.{◌≡◌, ◌==◌, ℕ, zero, suc, ◌+◌, ◌-◌, ◌^◌, ◌<◌, ◌≤◌, ◌++◌, ◌∙◌, Bool, true, false, ◌&&◌, ◌||◌, cond, List, [], ◌∷◌, Some, None, refl, sym, ap, subst, inl, inr, length, min, arith, append_assoc, append-nil, length-append}
use Rattle.std.specs.Prelude.{codes, decimal, All, IsOk, slice_index, not, nat_lt, nat_le, get_or, flat_map}
use Rattle.std.specs.List.{position, position_or_len, list_all}
use Rattle.std.specs.Str.{IsAscii}
use Rattle.std.specs.Char.{is_ascii_digit}
use Rattle.std.specs.Result.{result_unwrap_or}
use Rattle.std.specs.Str.Parse.{AllDigits}
use Rattle.std.proofs.lemmas.Bool.{ne_eqb, lt-ltb, leb-true, cases_lt}
use Rattle.std.proofs.lemmas.Option.{slice_get-get_or}
use Rattle.std.proofs.lemmas.List.{get_or_past, append_cancel_left}
use Rattle.std.proofs.lemmas.Str.Parse.{digit_from_value}
use Rattle.std.proofs.lemmas.Str.{IsUtf8-from_ascii}
use Rattle.std.proofs.lemmas.List.Sums.{AllPass-from_list_all}
use Rattle.std.proofs.lemmas.List.Splits.{slice_split_at, slice_split_none}
use Rattle.std.proofs.lemmas.List.Elements.{All-nil, All-cons, All-head, All-tail, All-append, All-weaker}
use Rattle.std.proofs.lemmas.Fmt.{decimal_is_IsNumeral, decimal_digit, first_decimal, decimal_nonempty, digits_decimal, digits_value-decimal}
use Rattle.std.proofs.Math.Seq.{take-append_seam, drop-append-add, get_or-append_seam}
use Rattle.kept_bodies.specs.Bodies.{BodyValue}
use Rattle.address.specs.Address.{AddressText, OriginText, IsAddress, IsAddressByte, IsOrigin, origin_of, path_query_of}
use Rattle.fetcher.specs.declared.answer.Answer.{Answer}
use Rattle.response_reader.specs.declared.limits.TheConstants.{MAX_HEADS}
use Rattle.response_reader.specs.Response.{ResponseParts, CanBeGiven}
use Rattle.response_reader.specs.Written.{head_text, response_text}
use Rattle.response_reader.proofs.WrittenLemmas.{written_reads_back}
use Rattle.site_inputs.specs.Names.{recorded as named}
use Rattle.site_inputs.specs.Fields.{fields}
use Rattle.answer_notes.specs.RobotsAnswers.{max_redirects}
use Rattle.response_answer.specs.Digests.{digest_of, body_of}
use Rattle.answer_notes.specs.HopChains.{HopValue, AreHops, IsAdmitted, robots_file}
use Rattle.answer_notes.specs.declared.received.Received.{Received}
use Rattle.answer_notes.specs.declared.received.Received.TheVariants as received
use Rattle.answer_notes.specs.declared.noted.Noted.{Noted}
use Rattle.answer_notes.specs.declared.noted.Noted.TheVariants as noted
use Rattle.site_records.specs.declared.version.Version.{Version}
use Rattle.site_records.specs.declared.version.Version.TheVariants.{Second}
use Rattle.site_records.specs.EntryLines.{page, fault, chain, hop, hopfault, length_of, is_length, is_numeral}
use Rattle.site_records.specs.Entries.{Entry, answered, chained, no_response, IsLine, HasBytes, States, IsEntry, IsHop, AreHopsOf, no_hops, more_hops}
use Rattle.fetcher.specs.declared.fault_kind.FaultKind.{FaultKind}
use Rattle.fetcher.specs.FaultWords.{place_of, words, word_of}
use Rattle.fetcher.proofs.FaultLaws.{has_row}
use Rattle.site_records.specs.WrittenEntries.{line_of_three, counted_entry, worded_entry, chain_line, received_head, is_short, hop_entry, note_text, note_entry, has_short_heads, IsReceivedFor, IsNote}
use Rattle.site_records.proofs.FormLaws.{own_digits, and_parts}
use Rattle.site_records.proofs.OneEntryLaws.{one_page, one_hop_told, IsOneEntry, one_entry, IsOneHop, one_hop, HopsRun, hops_run}
use Rattle.html_links.specs.declared.rules.LinkRules.{LinkRules}

-- the byte is visible: neither a line feed nor a space
abbrev pub IsVisible : ℕ → Type 0
IsVisible b = (33 ≤ b) × (b ≤ 126)

-- the byte may be in a line
abbrev pub IsPlain : ℕ → Type 0
IsPlain b = (32 ≤ b) × (b ≤ 126)

no_feed : (b : ℕ) → IsPlain b → (b == 10) ≡ false
no_feed b v = ne_eqb b 10 (λ e. let low = v.0 in omega arith)

no_space : (b : ℕ) → IsVisible b → (b == 32) ≡ false
no_space b v = ne_eqb b 32 (λ e. let low = v.0 in omega arith)

-- the first byte that passes comes after those that don't
first_place_is : (p : ℕ → Bool) (line behind : List ℕ) (end : ℕ) → All (λ b. p b ≡ false) line → p end ≡ true → position_or_len p (line ++ end ∷ behind) ≡ length line
first_place_is p [] behind end clear is = ap (λ b. cond (not b) (1 + position_or_len p behind) 0) is
first_place_is p (b ∷ line) behind end clear is =
    ap (λ t. cond (not t) (1 + position_or_len p (line ++ end ∷ behind)) 0) (All-head (λ x. p x ≡ false) b line clear)
    ∙ ap (λ k. 1 + k) (first_place_is p line behind end (All-tail (λ x. p x ≡ false) b line clear) is)
    ∙ (omega arith)

first_place : (p : ℕ → Bool) (line behind : List ℕ) (end : ℕ) → All (λ b. p b ≡ false) line → p end ≡ true → position p (line ++ end ∷ behind) ≡ Some (length line)
first_place p line behind end clear is =
    let long = length-append line (end ∷ behind) in
    ap (λ k. cond (nat_lt k (length (line ++ end ∷ behind))) (Some k) None) (first_place_is p line behind end clear is)
    ∙ ap (λ t. cond t (Some (length line)) None) (lt-ltb (length line) (length (line ++ end ∷ behind)) (omega (arith, long)))

-- ---- a line of three fields

-- each byte of digits is visible
pub digits_visible : (ds : List ℕ) → AllDigits 10 ds → All IsVisible ds
digits_visible [] h = All-nil IsVisible
digits_visible (d ∷ ds) h =
    let range = digit_from_value d h.0 in
    let low = range.0 in let high = range.1 in
    All-cons IsVisible d ds (omega arith, omega arith) (digits_visible ds h.1)

pub plain_line : (a b c : List ℕ) → All IsVisible a → All IsVisible b → All IsVisible c → All IsPlain (line_of_three a b c)
plain_line a b c va vb vc =
    All-append IsPlain a (32 ∷ (b ++ (32 ∷ c))) (wide a va) (All-cons IsPlain 32 (b ++ (32 ∷ c)) space
    (All-append IsPlain b (32 ∷ c) (wide b vb) (All-cons IsPlain 32 c space (wide c vc))))
  where
    space : IsPlain 32
    space = (omega arith, omega arith)

    wide : (xs : List ℕ) → All IsVisible xs → All IsPlain xs
    wide xs h = All-weaker IsVisible IsPlain (λ x v. let low = v.0 in (omega arith, v.1)) xs h

pub three_fields : (a b c : List ℕ) → All IsVisible a → All IsVisible b → All IsVisible c → fields (line_of_three a b c) ≡ a ∷ b ∷ c ∷ []
three_fields a b c va vb vc =
    slice_split_at is_space a 32 (b ++ (32 ∷ c)) (clear a va) refl
    ∙ ap (λ more. a ∷ more) (slice_split_at is_space b 32 c (clear b vb) refl ∙ ap (λ more. b ∷ more) (slice_split_none is_space c (clear c vc)))
  where
    is_space : ℕ → Bool
    is_space b = b == 32

    clear : (xs : List ℕ) → All IsVisible xs → All (λ b. is_space b ≡ false) xs
    clear xs h = All-weaker IsVisible (λ b. is_space b ≡ false) no_space xs h

pub ascii_line : (line : List ℕ) → All IsPlain line → IsAscii line
ascii_line line h i =
    elim (cases_lt i (length line)) [
      | inl within ↦ let v = (h i 0 within).1 in omega arith
      | inr past ↦ let zero_there = get_or_past line i 0 past in omega arith
    ]

-- ---- a decimal is a length

pub length_is : (n : ℕ) → n < 2 ^ 64 - 1 → length_of (decimal n) ≡ Some n
length_is n small =
    let fits : n < 2 ^ 64 = omega arith in
    let digits : list_all is_ascii_digit (decimal n) ≡ true = digits_decimal own_digits n fits in
    let some = decimal_nonempty n fits in
    let numeral : is_numeral (decimal n) ≡ true = rw (lt-ltb 0 (length (decimal n)) some, digits) refl in
    let is : is_length (decimal n) ≡ true = rw (numeral, leading n fits) refl in
    rw (is, digits_value-decimal own_digits n fits) (ap Some (within n small))
  where
    within : (n : ℕ) → n < 2 ^ 64 - 1 → min n (2 ^ 64 - 1) ≡ n
    within n small = omega (arith, small)

    leading : (n : ℕ) → n < 2 ^ 64 → (not (slice_index (decimal n) 0 == 48) || length (decimal n) == 1) ≡ true
    leading zero fits = ap (λ ds. not (slice_index ds 0 == 48) || length ds == 1) (decimal_digit 0 (omega arith))
    leading (suc k) fits =
        let more = first_decimal (suc k) (omega arith) fits in
        ap (λ t. not t || length (decimal (suc k)) == 1) (ne_eqb (slice_index (decimal (suc k)) 0) 48 (λ e. omega (arith, more, e)))

-- ---- an entry of a page

pub address_visible : (at : AddressText) → IsAddress at → All IsVisible at
address_visible at is = All-weaker IsAddressByte IsVisible (λ b v. (v.0, v.1)) at is.plain

named_is : (at : AddressText) → IsAddress at → named at ≡ at
named_is at is = ap (λ r. result_unwrap_or r []) is.either

page_visible : All IsVisible (codes "page")
page_visible =
    All-cons IsVisible 112 (97 ∷ 103 ∷ 101 ∷ []) (omega arith, omega arith) (All-cons IsVisible 97 (103 ∷ 101 ∷ []) (omega arith, omega arith)
    (All-cons IsVisible 103 (101 ∷ []) (omega arith, omega arith) (All-cons IsVisible 101 [] (omega arith, omega arith) (All-nil IsVisible))))

-- bytes and a line feed after a line
pub has_bytes : (bytes after : List ℕ) → HasBytes (bytes ++ 10 ∷ after) (length bytes) bytes after
has_bytes bytes after =
    let long = length-append bytes (10 ∷ after) in
    record {
      ends = slice_get-get_or (bytes ++ 10 ∷ after) (length bytes) 0 (omega (arith, long)) ∙ ap Some (get_or-append_seam bytes 10 after 0);
      bytes_are = sym (take-append_seam bytes (10 ∷ after));
      after_is = sym (drop-append-add bytes (10 ∷ after) 1);
    }

-- the text of an entry with bytes, in front of what follows
pub entry_text : (word bytes after : List ℕ) (at : AddressText) → counted_entry word at bytes ++ after ≡ line_of_three word at (decimal (length bytes)) ++ 10 ∷ (bytes ++ 10 ∷ after)
entry_text word bytes after at =
    append_assoc (line_of_three word at (decimal (length bytes))) (10 ∷ (bytes ++ (10 ∷ []))) after
    ∙ ap (λ l. line_of_three word at (decimal (length bytes)) ++ 10 ∷ l) (append_assoc bytes (10 ∷ []) after)

-- a line in front of what follows its line feed
pub line_is : (line behind : List ℕ) → All IsPlain line → IsLine (line ++ 10 ∷ behind) line behind
line_is line behind plain = record {
  place = length line;
  first = first_place (λ b. b == 10) line behind 10 (All-weaker IsPlain (λ b. (b == 10) ≡ false) no_feed line plain) refl;
  line_is = sym (take-append_seam line (10 ∷ behind));
  behind_is = sym (drop-append-add line (10 ∷ behind) 1);
}

-- the answer of a response
abbrev pub answer_of : LinkRules → AddressText → ResponseParts → Answer BodyValue
answer_of links at r = record { outcome = digest_of links at r; body = body_of r.head r.body }

-- what is written of a page is one entry, which states the answer of its response, whatever follows it
page_is_one : (version : Version) (links : LinkRules) (at : AddressText) (r : ResponseParts) (after : List ℕ) → IsAddress at → CanBeGiven r → length (head_text r) ≤ MAX_HEADS
    → length (response_text r) < 2 ^ 64 - 1
    → IsOneEntry version links (counted_entry (codes "page") at (response_text r) ++ after) (answered at (answer_of links at r)) after
page_is_one version links at r after is given short small =
    let bytes = response_text r in
    let n = length bytes in
    let behind = bytes ++ 10 ∷ after in
    let line = line_of_three (codes "page") at (decimal n) in
    let digits = digits_visible (decimal n) (decimal_is_IsNumeral n (omega (arith, small))).0.1 in
    let plain = plain_line (codes "page") at (decimal n) page_visible (address_visible at is) digits in
    let same = named_is at is in
    subst (λ t. IsOneEntry version links t (answered at (answer_of links at r)) after) (sym (entry_text (codes "page") bytes after at))
    (one_entry version links (line ++ 10 ∷ behind) line behind (page at n) (answered at (answer_of links at r)) after (line_is line behind plain)
    (IsUtf8-from_ascii line (ascii_line line plain), (decimal n, three_fields (codes "page") at (decimal n) page_visible (address_visible at is) digits, length_is n small), refl)
    (subst (λ r. IsOk r) (sym is.either) refl) tt (
      bytes,
      answer_of links at r,
      has_bytes bytes after,
      inl (record {
        response = r;
        begins = ([], written_reads_back r given short);
        outcome = ap (λ a. digest_of links a r) (sym same);
        body = refl;
      }),
      ap (λ a. answered a (answer_of links at r)) (sym same),
    )
    (λ f rest other. only same f rest other))
  where
    only : named at ≡ at → (f : Entry) (rest : List ℕ) → States links (page at (length (response_text r))) (response_text r ++ 10 ∷ after) f rest
        → (f ≡ answered at (answer_of links at r)) × (rest ≡ after)
    only same f rest (bytes, a, has, read, stated) =
        let (answer, rests) = one_page links (named at) (response_text r ++ 10 ∷ after) (length (response_text r)) (response_text r) after bytes rest r a
        (has_bytes (response_text r) after) ([], written_reads_back r given short) has read in
        (stated ∙ ap (λ b. answered (named at) b) answer ∙ ap (λ t. answered t (answer_of links t r)) same, rests)

-- ---- an entry of a fault

pub all_visible : (bs : List ℕ) → list_all (λ b. nat_le 33 b && nat_le b 126) bs ≡ true → All IsVisible bs
all_visible [] h = All-nil IsVisible
all_visible (b ∷ bs) h =
    let (here, more) = and_parts (nat_le 33 b && nat_le b 126) (list_all (λ b. nat_le 33 b && nat_le b 126) bs) h in
    let (low, high) = and_parts (nat_le 33 b) (nat_le b 126) here in
    All-cons IsVisible b bs (leb-true 33 b low, leb-true b 126 high) (all_visible bs more)

is_visible : List ℕ → Bool
is_visible word = list_all (λ b. nat_le 33 b && nat_le b 126) word

words_visible : list_all is_visible words ≡ true
unfolding is_visible
words_visible = refl

pub word_visible : (kind : FaultKind) → All IsVisible (word_of kind)
unfolding word_of is_visible
word_visible kind = all_visible (get_or words (place_of kind) []) (AllPass-from_list_all is_visible words words_visible (place_of kind) [] (has_row kind))

-- what is written of a fault is one entry, whatever follows it
fault_is_one : (version : Version) (links : LinkRules) (at : AddressText) (kind : FaultKind) (after : List ℕ) → IsAddress at
    → IsOneEntry version links (worded_entry (codes "fault") kind at ++ after) (answered at (no_response kind)) after
fault_is_one version links at kind after is =
    let line = line_of_three (codes "fault") (word_of kind) at in
    let word = all_visible (codes "fault") refl in
    let plain = plain_line (codes "fault") (word_of kind) at word (word_visible kind) (address_visible at is) in
    let same = named_is at is in
    subst (λ t. IsOneEntry version links t (answered at (no_response kind)) after) (sym (append_assoc line (10 ∷ []) after))
    (one_entry version links (line ++ 10 ∷ after) line after (fault kind at) (answered at (no_response kind)) after (line_is line after plain)
    (IsUtf8-from_ascii line (ascii_line line plain), three_fields (codes "fault") (word_of kind) at word (word_visible kind) (address_visible at is), refl)
    (subst (λ r. IsOk r) (sym is.either) refl) tt (refl, ap (λ a. answered a (no_response kind)) (sym same))
    (λ f rest other. (other.1 ∙ ap (λ a. answered a (no_response kind)) same, other.0)))

-- ---- a hop of a chain

-- the text of a response that can be given is shorter than what counts as the greatest length
pub small_response : (r : ResponseParts) → CanBeGiven r → length (head_text r) ≤ MAX_HEADS → length (response_text r) < 2 ^ 64 - 1
unfolding response_text
small_response r given short =
    let body = given.1.1.body_len in
    let long = length-append (head_text r) r.body in
    omega (arith, long, body, short)

pub short_head : (told : Received) → is_short told ≡ true → length (received_head told) ≤ MAX_HEADS
short_head told h = leb-true (length (received_head told)) MAX_HEADS h

-- what is written of a hop is one, and no other, whatever follows it
told_is_one : (at : AddressText) (told : Received) (after : List ℕ) → IsReceivedFor at told → is_short told ≡ true → IsOneHop (hop_entry (at, told) ++ after) (at, told) after
told_is_one at (received.Whole r) after h few =
    let short = short_head (received.Whole r) few in
    let bytes = response_text r in
    let n = length bytes in
    let behind = bytes ++ 10 ∷ after in
    let small = small_response r h.1 short in
    let line = line_of_three (codes "hop") at (decimal n) in
    let word = all_visible (codes "hop") refl in
    let digits = digits_visible (decimal n) (decimal_is_IsNumeral n (omega (arith, small))).0.1 in
    let plain = plain_line (codes "hop") at (decimal n) word (address_visible at h.0) digits in
    subst (λ t. IsOneHop t (at, received.Whole r) after) (sym (entry_text (codes "hop") bytes after at))
    (one_hop (line ++ 10 ∷ behind) line behind (hop at n) at (received.Whole r) after (line_is line behind plain)
    (IsUtf8-from_ascii line (ascii_line line plain), (decimal n, three_fields (codes "hop") at (decimal n) word (address_visible at h.0) digits, length_is n small))
    (subst (λ r. IsOk r) (sym h.0.either) refl) (sym (named_is at h.0)) (bytes, has_bytes bytes after, ([], written_reads_back r h.1 short))
    (λ other rest tells. one_hop_told behind n bytes after tells.0 rest r other (has_bytes bytes after) ([], written_reads_back r h.1 short) tells.1 tells.2))
told_is_one at (received.Fault kind) after h few =
    let line = line_of_three (codes "hopfault") (word_of kind) at in
    let word = all_visible (codes "hopfault") refl in
    let plain = plain_line (codes "hopfault") (word_of kind) at word (word_visible kind) (address_visible at h) in
    subst (λ t. IsOneHop t (at, received.Fault kind) after) (sym (append_assoc line (10 ∷ []) after))
    (one_hop (line ++ 10 ∷ after) line after (hopfault kind at) at (received.Fault kind) after (line_is line after plain)
    (IsUtf8-from_ascii line (ascii_line line plain), three_fields (codes "hopfault") (word_of kind) at word (word_visible kind) (address_visible at h))
    (subst (λ r. IsOk r) (sym h.either) refl) (sym (named_is at h)) (refl, refl) (λ other rest tells. (tells.1, tells.0)))

-- what is written of hops is these, after others
hops_follow : (text : List ℕ) (above hops : List HopValue) (after : List ℕ) → All (λ (h : HopValue). IsReceivedFor h.0 h.1) hops → list_all (λ (h : HopValue). is_short h.1) hops ≡ true
    → AreHopsOf text above (flat_map hop_entry hops ++ after) → AreHopsOf text (above ++ hops) after
hops_follow text above [] after told short are = subst (λ l. AreHopsOf text l after) (sym (append-nil above)) are
hops_follow text above (h ∷ hops) after told short are =
    let (here, more) = and_parts (is_short h.1) (list_all (λ (h : HopValue). is_short h.1) hops) short in
    let rest = flat_map hop_entry hops ++ after in
    let whole : flat_map hop_entry (h ∷ hops) ++ after ≡ hop_entry h ++ rest = append_assoc (hop_entry h) (flat_map hop_entry hops) after in
    let begun = subst (λ t. AreHopsOf text above t) whole are in
    let is = (told_is_one h.0 h.1 rest (All-head (λ (h : HopValue). IsReceivedFor h.0 h.1) h hops told) here).0 in
    subst (λ l. AreHopsOf text l after) (append_assoc above (h ∷ []) hops)
    (hops_follow text (above ++ h ∷ []) hops after (All-tail (λ (h : HopValue). IsReceivedFor h.0 h.1) h hops told) more (more_hops above (hop_entry h ++ rest) h rest begun is))

-- and no others, as many
only_hops : (hops others : List HopValue) (after rest : List ℕ) → All (λ (h : HopValue). IsReceivedFor h.0 h.1) hops → list_all (λ (h : HopValue). is_short h.1) hops ≡ true
    → length others ≡ length hops → HopsRun (flat_map hop_entry hops ++ after) others rest → (others ≡ hops) × (rest ≡ after)
only_hops [] [] after rest told short long run = (refl, run)
only_hops [] (g ∷ others) after rest told short long run = absurd (omega (arith, long))
only_hops (h ∷ hops) [] after rest told short long run = absurd (omega (arith, long))
only_hops (h ∷ hops) (g ∷ others) after rest told short long (left, is, run) =
    let (here, more) = and_parts (is_short h.1) (list_all (λ (h : HopValue). is_short h.1) hops) short in
    let behind = flat_map hop_entry hops ++ after in
    let whole : flat_map hop_entry (h ∷ hops) ++ after ≡ hop_entry h ++ behind = append_assoc (hop_entry h) (flat_map hop_entry hops) after in
    let (same, lefts) = (told_is_one h.0 h.1 behind (All-head (λ (h : HopValue). IsReceivedFor h.0 h.1) h hops told) here).1 g left (subst (λ t. IsHop t g left) whole is) in
    let (alike, rests) = only_hops hops others after rest (All-tail (λ (h : HopValue). IsReceivedFor h.0 h.1) h hops told) more (omega (arith, long)) (subst (λ t. HopsRun t others rest) lefts run) in
    ((λ i. same i ∷ alike i), rests)

-- ---- an entry of a chain

-- so many hops are a chain
pub hop_count : (left : ℕ) (at : AddressText) (hops : List HopValue) → AreHops left at hops → (1 ≤ length hops) × (length hops ≤ left + 1)
hop_count left at [] led = absurd led
hop_count zero at (first ∷ []) led = (omega arith, omega arith)
hop_count (suc left) at (first ∷ []) led = (omega arith, omega arith)
hop_count zero at (first ∷ second ∷ more) led = absurd led
hop_count (suc left) at (first ∷ second ∷ more) led = let (some, few) = hop_count left second.0 (second ∷ more) led.2 in (omega arith, omega (arith, few))

-- an origin's root is its `/`, and of this origin
root_path : (of : OriginText) → IsOrigin of → path_query_of (of ++ codes "/") ≡ codes "/"
root_path of is =
    let split = is.address.split in
    let own : of ++ codes "/" ≡ of ++ path_query_of (of ++ codes "/") = split ∙ ap (λ o. o ++ path_query_of (of ++ codes "/")) is.origin in
    sym (append_cancel_left of (codes "/") (path_query_of (of ++ codes "/")) own)

-- what is written of a chain is one entry, whatever follows it
chain_is_one : (links : LinkRules) (of : OriginText) (hops : List HopValue) (after : List ℕ) → IsOrigin of → IsAdmitted of hops → All (λ (h : HopValue). IsReceivedFor h.0 h.1) hops
    → list_all (λ (h : HopValue). is_short h.1) hops ≡ true
    → IsOneEntry Second links ((chain_line of (length hops) ++ flat_map hop_entry hops) ++ after) (chained of hops) after
chain_is_one links of hops after is admitted told short =
    let n = length hops in
    let root = of ++ codes "/" in
    let count = hop_count max_redirects (robots_file of) hops admitted in
    let few : n < 2 ^ 64 - 1 = let most = count.1 in omega (arith, most) in
    let line = line_of_three (codes "chain") root (decimal n) in
    let behind = flat_map hop_entry hops ++ after in
    let word = all_visible (codes "chain") refl in
    let digits = digits_visible (decimal n) (decimal_is_IsNumeral n (omega (arith, few))).0.1 in
    let at = address_visible root is.address in
    let plain = plain_line (codes "chain") root (decimal n) word at digits in
    let same = named_is root is.address in
    let whole : (chain_line of n ++ flat_map hop_entry hops) ++ after ≡ line ++ 10 ∷ behind =
    append_assoc (chain_line of n) (flat_map hop_entry hops) after ∙ append_assoc line (10 ∷ []) behind in
    let origin : origin_of (named root) ≡ of = ap origin_of same ∙ is.origin in
    subst (λ t. IsOneEntry Second links t (chained of hops) after) (sym whole)
    (one_entry Second links (line ++ 10 ∷ behind) line behind (chain root n) (chained of hops) after (line_is line behind plain)
    (IsUtf8-from_ascii line (ascii_line line plain), (decimal n, three_fields (codes "chain") root (decimal n) word at digits, length_is n few, count), refl)
    (subst (λ r. IsOk r) (sym is.address.either) refl) (ap path_query_of same ∙ root_path of is)
    (hops, hops_follow behind [] hops after told short no_hops, refl, subst (λ o. IsAdmitted o hops) (sym origin) admitted, ap (λ o. chained o hops) (sym origin))
    (λ f rest other. only origin f rest other))
  where
    only : origin_of (named (of ++ codes "/")) ≡ of → (f : Entry) (rest : List ℕ) → States links (chain (of ++ codes "/") (length hops)) (flat_map hop_entry hops ++ after) f rest
        → (f ≡ chained of hops) × (rest ≡ after)
    only origin f rest (others, are, long, _, stated) =
        let (same, rests) = only_hops hops others after rest told short long (hops_run (flat_map hop_entry hops ++ after) others rest are) in
        (stated ∙ ap (λ l. chained (origin_of (named (of ++ codes "/"))) l) same ∙ ap (λ o. chained o hops) origin, rests)

-- ---- an entry of any note

-- what is written of a note is its entry and no other, whatever follows it
pub note_is_one : (links : LinkRules) (note : Noted) (after : List ℕ) → IsNote note → has_short_heads note ≡ true → IsOneEntry Second links (note_text note ++ after) (note_entry links note) after
note_is_one links (noted.Page at (received.Whole r)) after h short =
    let few = short_head (received.Whole r) short in
    page_is_one Second links at r after h.0 h.1 few (small_response r h.1 few)
note_is_one links (noted.Page at (received.Fault kind)) after h short = fault_is_one Second links at kind after h
note_is_one links (noted.Chain c) after h short = chain_is_one links c.of c.hops after h.0 h.1 h.2 short

pub note_is_entry : (links : LinkRules) (note : Noted) (after : List ℕ) → IsNote note → has_short_heads note ≡ true → IsEntry Second links (note_text note ++ after) (note_entry links note) after
note_is_entry links note after h short = (note_is_one links note after h short).0
