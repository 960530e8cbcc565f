-- A record that was cut at any byte is the entries of its first notes and a front of the next one's, within which it ends.
use Rattle.std.proofs.Common.{◌≡◌, ◌≢◌, ◌==◌, ℕ, zero, suc, ◌-◌, ◌^◌, ◌<◌, ◌≤◌, ◌⊎◌, ◌++◌, ◌∙◌, true, List, [], ◌∷◌, refl, sym, ap, subst, inl, inr, length, take, drop, arith, append_assoc, append-nil, length-append}
use Rattle.std.specs.Prelude.{codes, decimal, All, flat_map, get_or}
use Rattle.std.specs.List.{list_all}
use Rattle.std.proofs.lemmas.Bool.{cases_lt, eqb-true}
use Rattle.std.proofs.lemmas.List.{take-append-drop, take-append-le, append_cancel_left}
use Rattle.std.proofs.lemmas.List.Quantifiers.{position-Some}
use Rattle.std.proofs.lemmas.List.Elements.{All-nil, All-head, All-tail, All-take, All-drop}
use Rattle.std.proofs.lemmas.Str.{IsUtf8-from_ascii}
use Rattle.std.proofs.lemmas.Fmt.{decimal_is_IsNumeral}
use Rattle.std.proofs.Math.Seq.{take-append_seam}
use Rattle.address.specs.Address.{AddressText, OriginText, IsAddress, IsOrigin}
use Rattle.fetcher.specs.FaultWords.{word_of}
use Rattle.response_reader.specs.declared.limits.TheConstants.{MAX_HEADS}
use Rattle.response_reader.specs.Response.{ResponseParts, CanBeGiven}
use Rattle.response_reader.specs.Written.{head_text, response_text}
use Rattle.answer_notes.specs.RobotsAnswers.{max_redirects}
use Rattle.answer_notes.specs.HopChains.{HopValue, IsAdmitted, robots_file}
use Rattle.answer_notes.specs.declared.received.Received.TheVariants as received
use Rattle.answer_notes.specs.declared.noted.Noted.{Noted}
use Rattle.answer_notes.specs.declared.noted.Noted.TheVariants as noted
use Rattle.site_records.specs.declared.version.Version.TheVariants.{Second}
use Rattle.site_records.specs.EntryLines.{page, chain, hop, hopfault}
use Rattle.site_records.specs.Entries.{IsLine, HasBytes}
use Rattle.site_records.specs.Records.{IsFront, none}
use Rattle.site_records.specs.Fronts.{HasNoLine, IsTornRow, IsTornEntry, IsFrontOfFirst, IsReadCut}
use Rattle.site_records.specs.WrittenEntries.{line_of_three, counted_entry, chain_line, is_short, hop_entry, note_text, has_short_heads, IsReceivedFor, IsNote}
use Rattle.site_records.proofs.FormLaws.{and_parts}
use Rattle.site_records.proofs.WrittenEntryLaws.{IsPlain, plain_line, three_fields, ascii_line, line_is, has_bytes, length_is, small_response, short_head, all_visible, word_visible, address_visible, digits_visible, entry_text, hop_count}
use Rattle.site_records.proofs.WrittenRecordLaws.{AreShort, AreFresh, notes_follow}
use Rattle.html_links.specs.declared.rules.LinkRules.{LinkRules}

-- of two texts that begin alike the shorter one is a front of the other
front_of_front : (p q a b : List ℕ) → p ++ q ≡ a ++ b → length a ≤ length p → (rest : List ℕ) × (p ≡ a ++ rest) × (rest ++ q ≡ b)
front_of_front p q a b e le =
    let front : take (length a) p ≡ a = sym (take-append-le (length a) p q le) ∙ ap (take (length a)) e ∙ take-append_seam a b in
    let rest = drop (length a) p in
    let whole : p ≡ a ++ rest = sym (take-append-drop (length a) p) ∙ ap (λ l. l ++ rest) front in
    (rest, whole, append_cancel_left a (rest ++ q) b (sym (append_assoc a rest q) ∙ ap (λ l. l ++ q) (sym whole) ∙ e))

nothing_of : (p q : List ℕ) → p ++ q ≡ [] → (p ≡ []) × (q ≡ [])
nothing_of [] q e = (refl, e)
nothing_of (x ∷ p) q e = absurd cc

some_more : (xs : List ℕ) → xs ≢ [] → 0 < length xs
some_more [] h = absurd (h refl)
some_more (x ∷ xs) h = omega arith

-- ---- a line that is cut

pub plain_no_line : (text : List ℕ) → All IsPlain text → HasNoLine text
plain_no_line text plain line behind is =
    let at = position-Some (λ b. b == 10) text is.place 0 is.first in
    let low = (plain is.place 0 at.0).0 in
    let feed = eqb-true (get_or text is.place 0) 10 at.1 in
    omega (arith, low, feed)

-- a text that is cut ends within a line of it, or goes on after its line feed
line_cut : (torn more line tail : List ℕ) → All IsPlain line → torn ++ more ≡ line ++ 10 ∷ tail → HasNoLine torn ⊎ ((q : List ℕ) × (torn ≡ line ++ 10 ∷ q) × (q ++ more ≡ tail))
line_cut torn more line tail plain e =
    elim (cases_lt (length line) (length torn)) [
      | inl long ↦ beyond long
      | inr short ↦ inl (within short)
    ]
  where
    beyond : length line < length torn → HasNoLine torn ⊎ ((q : List ℕ) × (torn ≡ line ++ 10 ∷ q) × (q ++ more ≡ tail))
    beyond long =
        let one = length-append line (10 ∷ []) in
        let (rest, whole, back) = front_of_front torn more (line ++ 10 ∷ []) tail (e ∙ sym (append_assoc line (10 ∷ []) tail)) (omega (arith, one, long)) in
        inr (rest, whole ∙ append_assoc line (10 ∷ []) rest, back)

    within : length torn ≤ length line → HasNoLine torn
    within short =
        let (rest, whole, back) = front_of_front line (10 ∷ tail) torn more (sym e) short in
        let front : take (length torn) line ≡ torn = ap (take (length torn)) whole ∙ take-append_seam torn rest in
        plain_no_line torn (subst (All IsPlain) front (All-take IsPlain (length torn) line plain))

-- ---- an entry that is cut

page_torn : (at : AddressText) (r : ResponseParts) (torn more : List ℕ) → IsAddress at → CanBeGiven r → length (head_text r) ≤ MAX_HEADS
    → torn ++ more ≡ counted_entry (codes "page") at (response_text r) → more ≢ [] → IsTornEntry Second torn
page_torn at r torn more is given short e some =
    let bytes = response_text r in
    let n = length bytes in
    let small = small_response r given short in
    let line = line_of_three (codes "page") at (decimal n) in
    let word = all_visible (codes "page") refl in
    let digits = digits_visible (decimal n) (decimal_is_IsNumeral n (omega (arith, small))).0.1 in
    let plain = plain_line (codes "page") at (decimal n) word (address_visible at is) digits in
    elim (line_cut torn more line (bytes ++ 10 ∷ []) plain e) [
      | inl no_line ↦ inl no_line
      | inr h ↦
          let long = length-append h.0 more in
          let all = length-append bytes (10 ∷ []) in
          let same = ap length h.2 in
          let left = some_more more some in
          inr (
            page at n,
            h.0,
            record {
              line = line;
              is_line = subst (λ t. IsLine t line h.0) (sym h.1) (line_is line h.0 plain);
              form = (IsUtf8-from_ascii line (ascii_line line plain), (decimal n, three_fields (codes "page") at (decimal n) word (address_visible at is) digits, length_is n small), refl);
            },
            omega (arith, long, all, same, left),
          )
    ]

fault_torn : (line torn more : List ℕ) → All IsPlain line → torn ++ more ≡ line ++ 10 ∷ [] → more ≢ [] → HasNoLine torn
fault_torn line torn more plain e some =
    elim (line_cut torn more line [] plain e) [
      | inl no_line ↦ no_line
      | inr h ↦ absurd (some (nothing_of h.0 more h.2).1)
    ]

-- bytes after a line that are cut run out, or this holds of what follows them
bytes_torn : (q more bytes rest : List ℕ) (k : ℕ) → q ++ more ≡ bytes ++ 10 ∷ rest → ((after : List ℕ) → after ++ more ≡ rest → IsTornRow k after)
    → (length q ≤ length bytes) ⊎ ((b : List ℕ) × (after : List ℕ) × HasBytes q (length bytes) b after × IsTornRow k after)
bytes_torn q more bytes rest k e later =
    elim (cases_lt (length bytes) (length q)) [
      | inl long ↦ beyond long
      | inr short ↦ inl short
    ]
  where
    beyond : length bytes < length q → (length q ≤ length bytes) ⊎ ((b : List ℕ) × (after : List ℕ) × HasBytes q (length bytes) b after × IsTornRow k after)
    beyond long =
        let one = length-append bytes (10 ∷ []) in
        let (after, whole, back) = front_of_front q more (bytes ++ 10 ∷ []) rest (e ∙ sym (append_assoc bytes (10 ∷ []) rest)) (omega (arith, one, long)) in
        inr (bytes, after, subst (λ t. HasBytes t (length bytes) bytes after) (sym (whole ∙ append_assoc bytes (10 ∷ []) after)) (has_bytes bytes after), later after back)

-- hops that are cut
hops_torn : (hops : List HopValue) (torn more : List ℕ) → All (λ (h : HopValue). IsReceivedFor h.0 h.1) hops → list_all (λ (h : HopValue). is_short h.1) hops ≡ true
    → torn ++ more ≡ flat_map hop_entry hops → more ≢ [] → IsTornRow (length hops) torn
hops_torn [] torn more are short e some = absurd (some (nothing_of torn more e).1)
hops_torn ((at, received.Whole r) ∷ hops) torn more are short e some =
    let (here, later) = and_parts (is_short (received.Whole r)) (list_all (λ (h : HopValue). is_short h.1) hops) short in
    let is = All-head (λ (h : HopValue). IsReceivedFor h.0 h.1) (at, received.Whole r) hops are in
    let few = short_head (received.Whole r) here in
    let bytes = response_text r in
    let n = length bytes in
    let small = small_response r is.1 few in
    let line = line_of_three (codes "hop") at (decimal n) in
    let word = all_visible (codes "hop") refl in
    let digits = digits_visible (decimal n) (decimal_is_IsNumeral n (omega (arith, small))).0.1 in
    let plain = plain_line (codes "hop") at (decimal n) word (address_visible at is.0) digits in
    let rest = flat_map hop_entry hops in
    elim (line_cut torn more line (bytes ++ 10 ∷ rest) plain (e ∙ entry_text (codes "hop") bytes rest at)) [
      | inl no_line ↦ inl no_line
      | inr h ↦ inr (
        hop at n,
        h.0,
        record {
          line = line;
          is_line = subst (λ t. IsLine t line h.0) (sym h.1) (line_is line h.0 plain);
          form = (IsUtf8-from_ascii line (ascii_line line plain), (decimal n, three_fields (codes "hop") at (decimal n) word (address_visible at is.0) digits, length_is n small));
        },
        bytes_torn h.0 more bytes rest (length hops) h.2 (λ q back. hops_torn hops q more (All-tail (λ (h : HopValue). IsReceivedFor h.0 h.1) (at, received.Whole r) hops are) later back some),
      )
    ]
hops_torn ((at, received.Fault kind) ∷ hops) torn more are short e some =
    let (here, later) = and_parts (is_short (received.Fault kind)) (list_all (λ (h : HopValue). is_short h.1) hops) short in
    let is = All-head (λ (h : HopValue). IsReceivedFor h.0 h.1) (at, received.Fault kind) hops are in
    let line = line_of_three (codes "hopfault") (word_of kind) at in
    let word = all_visible (codes "hopfault") refl in
    let plain = plain_line (codes "hopfault") (word_of kind) at word (word_visible kind) (address_visible at is) in
    let rest = flat_map hop_entry hops in
    elim (line_cut torn more line rest plain (e ∙ append_assoc line (10 ∷ []) rest)) [
      | inl no_line ↦ inl no_line
      | inr h ↦ inr (
        hopfault kind at,
        h.0,
        record {
          line = line;
          is_line = subst (λ t. IsLine t line h.0) (sym h.1) (line_is line h.0 plain);
          form = (IsUtf8-from_ascii line (ascii_line line plain), three_fields (codes "hopfault") (word_of kind) at word (word_visible kind) (address_visible at is));
        },
        hops_torn hops h.0 more (All-tail (λ (h : HopValue). IsReceivedFor h.0 h.1) (at, received.Fault kind) hops are) later h.2 some,
      )
    ]

chain_torn : (of : OriginText) (hops : List HopValue) (torn more : List ℕ) → IsOrigin of → IsAdmitted of hops → All (λ (h : HopValue). IsReceivedFor h.0 h.1) hops
    → list_all (λ (h : HopValue). is_short h.1) hops ≡ true → torn ++ more ≡ chain_line of (length hops) ++ flat_map hop_entry hops → more ≢ [] → IsTornEntry Second torn
chain_torn of hops torn more is admitted told short e some =
    let n = length hops in
    let root = of ++ codes "/" in
    let count = hop_count max_redirects (robots_file of) hops admitted in
    let few : n < 2 ^ 64 - 1 = let most = count.1 in omega (arith, most) in
    let line = line_of_three (codes "chain") root (decimal n) in
    let word = all_visible (codes "chain") refl in
    let digits = digits_visible (decimal n) (decimal_is_IsNumeral n (omega (arith, few))).0.1 in
    let at = address_visible root is.address in
    let plain = plain_line (codes "chain") root (decimal n) word at digits in
    elim (line_cut torn more line (flat_map hop_entry hops) plain (e ∙ append_assoc line (10 ∷ []) (flat_map hop_entry hops))) [
      | inl no_line ↦ inl no_line
      | inr h ↦ inr (
        chain root n,
        h.0,
        record {
          line = line;
          is_line = subst (λ t. IsLine t line h.0) (sym h.1) (line_is line h.0 plain);
          form = (IsUtf8-from_ascii line (ascii_line line plain), (decimal n, three_fields (codes "chain") root (decimal n) word at digits, length_is n few, count), refl);
        },
        hops_torn hops h.0 more told short h.2 some,
      )
    ]

-- a proper front of what is written of a note ends within an entry
pub note_torn : (note : Noted) (torn more : List ℕ) → IsNote note → has_short_heads note ≡ true → torn ++ more ≡ note_text note → more ≢ [] → IsTornEntry Second torn
note_torn (noted.Page at (received.Whole r)) torn more is short e some = page_torn at r torn more is.0 is.1 (short_head (received.Whole r) short) e some
note_torn (noted.Page at (received.Fault kind)) torn more is short e some =
    inl (fault_torn (line_of_three (codes "fault") (word_of kind) at) torn more (plain_line (codes "fault") (word_of kind) at (all_visible (codes "fault") refl) (word_visible kind) (address_visible at is)) e some)
note_torn (noted.Chain c) torn more is short e some = chain_torn c.of c.hops torn more is.0 is.1 is.2 short e some

-- ---- a record that is cut

-- a front of what is written of notes is what is written of the first of them, and a proper front of that of the next
cut_behind : (notes : List Noted) (p q : List ℕ) → p ++ q ≡ flat_map note_text notes
    → (k : ℕ) × (torn : List ℕ) × (p ≡ flat_map note_text (take k notes) ++ torn) × IsFrontOfFirst torn (drop k notes)
cut_behind [] p q e = (0, [], (nothing_of p q e).0, refl)
cut_behind (note ∷ notes) p q e =
    elim (cases_lt (length p) (length (note_text note))) [
      | inl short ↦ within short
      | inr long ↦ beyond (front_of_front p q (note_text note) (flat_map note_text notes) e long) (λ r back. cut_behind notes r q back)
    ]
  where
    within : length p < length (note_text note) → (k : ℕ) × (torn : List ℕ) × (p ≡ flat_map note_text (take k (note ∷ notes)) ++ torn) × IsFrontOfFirst torn (drop k (note ∷ notes))
    within short =
        let (more, whole, back) = front_of_front (note_text note) (flat_map note_text notes) p q (sym e) (omega (arith, short)) in
        (0, p, refl, (more, sym whole, (λ none. let same = ap length (whole ∙ ap (λ l. p ++ l) none ∙ append-nil p) in omega (arith, same, short))))

    beyond : (rest : List ℕ) × (p ≡ note_text note ++ rest) × (rest ++ q ≡ flat_map note_text notes)
        → ((r : List ℕ) → r ++ q ≡ flat_map note_text notes → (k : ℕ) × (torn : List ℕ) × (r ≡ flat_map note_text (take k notes) ++ torn) × IsFrontOfFirst torn (drop k notes))
        → (k : ℕ) × (torn : List ℕ) × (p ≡ flat_map note_text (take k (note ∷ notes)) ++ torn) × IsFrontOfFirst torn (drop k (note ∷ notes))
    beyond (rest, whole, back) later =
        let (k, torn, is, front) = later rest back in
        (suc k, torn, whole ∙ ap (λ l. note_text note ++ l) is ∙ sym (append_assoc (note_text note) (flat_map note_text (take k notes)) torn), front)

-- the first of notes are as good as all
first_fresh : (above notes : List Noted) (k : ℕ) → AreFresh above notes → AreFresh above (take k notes)
first_fresh above notes zero fresh = tt
first_fresh above [] (suc k) fresh = tt
first_fresh above (note ∷ notes) (suc k) fresh = (fresh.0, first_fresh (above ++ note ∷ []) notes k fresh.1)

-- what is a front of the next note's entry ends within it
ends_within : (torn : List ℕ) (notes : List Noted) → All IsNote notes → AreShort notes → IsFrontOfFirst torn notes → IsTornEntry Second torn
ends_within torn [] are short front = inl (subst HasNoLine (sym front) (plain_no_line [] (All-nil IsPlain)))
ends_within torn (note ∷ notes) are short (more, is, some) =
    note_torn note torn more (All-head IsNote note notes are) (All-head (λ n. has_short_heads n ≡ true) note notes short) is some

-- a record of notes, each of an address or an origin of its own and with short heads, that is cut anywhere after its first line is the entries of the first of them, and a front of
-- the next one's
pub cut_record : (links : LinkRules) (notes : List Noted) → All IsNote notes → AreShort notes → AreFresh [] notes → IsReadCut links notes
cut_record links notes are short fresh front behind e =
    let (k, torn, whole, first) = cut_behind notes front behind e in
    let so = notes_follow links front [] (take k notes) torn (All-take IsNote k notes are) (All-take (λ n. has_short_heads n ≡ true) k notes short) (first_fresh [] notes k fresh)
    (subst (λ t. IsFront Second links front [] t) whole none) in (
      k,
      torn,
      record {
        version = Second;
        text = front;
        begins = refl;
        front = so;
        torn = ends_within torn (drop k notes) (All-drop IsNote k notes are) (All-drop (λ n. has_short_heads n ≡ true) k notes short) first;
      },
      first,
    )
