-- The text of a chain, from its lines, heads and bodies, and that it is that of one chain.
use Rattle.std.proofs.Common.{◌≡◌, ◌∙◌, ◌+◌, ◌<◌, ◌++◌, ℕ, Bool, true, false, List, [], ◌∷◌, Some, None, refl, sym, ap, subst, append_assoc, append-nil, get_or, length, length-append, map, take}
use Rattle.std.specs.Prelude.{All, codes, decimal, flat_map}
use Rattle.std.specs.List.{list_all}
use Rattle.std.proofs.lemmas.Grind.{flat_map-append}
use Rattle.std.proofs.lemmas.List.Elements.{All-cons, All-head, All-nil, All-push, All-tail}
use Rattle.address.specs.Address.{AddressText}
use Rattle.html_links.specs.Rules.{all_links}
use Rattle.response_reader.specs.Response.{ResponseParts}
use Rattle.response_reader.specs.Written.{head_text, response_text}
use Rattle.answer_notes.specs.HopChains.{ChainValue, HopValue}
use Rattle.answer_notes.specs.declared.noted.Noted.{Noted}
use Rattle.answer_notes.specs.declared.noted.Noted.TheVariants.{Chain}
use Rattle.answer_notes.specs.declared.received.Received.{Received}
use Rattle.answer_notes.specs.declared.received.Received.TheVariants.{Whole, Fault}
use Rattle.site_records.specs.Entries.{chained}
use Rattle.site_records.specs.Records.{IsRecord}
use Rattle.site_records.specs.WrittenEntries.{has_short_heads, hop_entry, is_short, line_of_three, note_entry, note_text, IsNote, IsReceivedFor}
use Rattle.site_records.specs.WrittenRecords.{record_entries, record_text, written_notes}
use Rattle.site_records.proofs.EntryTextLaws.{taken_more}
use Rattle.site_records.proofs.FormLaws.{and_parts}
use Rattle.site_records.proofs.OneRecordLaws.{written_record_is_one}
use Rattle.site_records.proofs.WrittenRecordLaws.{written_record_reads_back}
use Rattle.earlier_answers.specs.Texts.{AreWhole, IsWhole, are_readable, chain_text, is_readable}

-- the text of a hop
pub hop_text : (old line head body lined headed bodied all at : List ℕ) (r : ResponseParts) → line ≡ line_of_three (codes "hop") at (decimal (length head + length body)) ++ 10 ∷ []
    → head ≡ head_text r → body ≡ r.body → lined ≡ old ++ line → headed ≡ lined ++ head → bodied ≡ headed ++ body → all ≡ bodied ++ 10 ∷ [] → all ≡ old ++ hop_entry (at, Whole r)
unfolding response_text
hop_text old line head body lined headed bodied all at r l h b m k n a =
    let long : decimal (length head + length body) ≡ decimal (length (head_text r ++ r.body)) = rw (h, b) (ap decimal (sym (length-append (head_text r) r.body))) in
    a ∙ ap (λ t. t ++ 10 ∷ []) (n ∙ ap (λ t. t ++ body) (k ∙ ap (λ t. t ++ head) (m ∙ ap (λ t. old ++ t) (l ∙ ap (λ t. line_of_three (codes "hop") at t ++ 10 ∷ []) long))))
    ∙ ap (λ t. (((old ++ (line_of_three (codes "hop") at (decimal (length (head_text r ++ r.body))) ++ 10 ∷ [])) ++ t) ++ body) ++ 10 ∷ []) h
    ∙ ap (λ t. (((old ++ (line_of_three (codes "hop") at (decimal (length (head_text r ++ r.body))) ++ 10 ∷ [])) ++ head_text r) ++ t) ++ 10 ∷ []) b
    ∙ regroup old (line_of_three (codes "hop") at (decimal (length (head_text r ++ r.body)))) (head_text r) r.body
  where
    regroup : (p l h b : List ℕ) → (((p ++ (l ++ 10 ∷ [])) ++ h) ++ b) ++ 10 ∷ [] ≡ p ++ (l ++ (10 ∷ ((h ++ b) ++ (10 ∷ []))))
    regroup p l h b = simp append_assoc

-- a line with its end
pub line_fed : (word at count : List ℕ) → word ++ (32 ∷ (at ++ (32 ∷ (count ++ 10 ∷ [])))) ≡ line_of_three word at count ++ 10 ∷ []
line_fed word at count = simp append_assoc

all_push : (hops : List HopValue) (h : HopValue) → are_readable hops ≡ true → is_readable h.1 ≡ true → are_readable (hops ++ h ∷ []) ≡ true
all_push [] h all one = rw one refl
all_push (g ∷ hops) h all one = let both = and_parts (is_readable g.1) (are_readable hops) all in rw (both.0, all_push hops h both.1 one) refl

-- the hops so far are added and can be read again
pub record AreAdded (base now : List ℕ) (hops : List HopValue) : Type 0 where
  pub is : are_readable hops ≡ true
  pub text : now ≡ base ++ flat_map hop_entry hops
  pub told : All (λ (h : HopValue). IsReceivedFor h.0 h.1) hops

-- one more hop
pub one_added : (hops : List HopValue) (i : ℕ) (h : HopValue) (r : ResponseParts) (base old new : List ℕ) → i < length hops → h ≡ get_or hops i h → h.1 ≡ Whole r
    → is_readable (Whole r) ≡ true → new ≡ old ++ hop_entry (h.0, Whole r) → IsReceivedFor h.0 (Whole r) → AreAdded base old (take i hops) → AreAdded base new (take (i + 1) hops)
one_added hops i h r base old new within here whole readable more told was = subst (AreAdded base new) (sym (taken_more hops i h within here)) (record {
  is = all_push (take i hops) h was.is (ap is_readable whole ∙ readable);
  text = more ∙ ap (λ t. t ++ hop_entry (h.0, Whole r)) was.text ∙ append_assoc base (flat_map hop_entry (take i hops)) (hop_entry (h.0, Whole r))
      ∙ ap (λ x. base ++ (flat_map hop_entry (take i hops) ++ hop_entry (h.0, x))) (sym whole)
      ∙ ap (λ t. base ++ t) (sym (flat_map-append hop_entry (take i hops) (h ∷ []) ∙ ap (λ t. flat_map hop_entry (take i hops) ++ t) (append-nil (hop_entry h))));
  told = All-push (λ (g : HopValue). IsReceivedFor g.0 g.1) (take i hops) h was.told (subst (IsReceivedFor h.0) (sym whole) told);
})

-- ---- a chain whose hops can be read again

-- each of its hops is a response
pub are_whole : (hops : List HopValue) → are_readable hops ≡ true → All (λ (h : HopValue). IsReceivedFor h.0 h.1) hops → AreWhole hops
are_whole [] readable told = All-nil (λ (h : HopValue). IsWhole h.1)
are_whole (h ∷ hops) readable told =
    let both = and_parts (is_readable h.1) (are_readable hops) readable in
    All-cons (λ (g : HopValue). IsWhole g.1) h hops (one h.0 h.1 both.0 (All-head (λ (g : HopValue). IsReceivedFor g.0 g.1) h hops told))
    (are_whole hops both.1 (All-tail (λ (g : HopValue). IsReceivedFor g.0 g.1) h hops told))
  where
    one : (at : AddressText) (received : Received) → is_readable received ≡ true → IsReceivedFor at received → IsWhole received
    one at (Whole r) readable told = told.1
    one at (Fault kind) readable told = absurd cc

-- its heads are short
short_heads : (hops : List HopValue) → are_readable hops ≡ true → list_all (λ (h : HopValue). is_short h.1) hops ≡ true
short_heads [] readable = refl
short_heads (h ∷ hops) readable =
    let both = and_parts (is_readable h.1) (are_readable hops) readable in
    rw (one h.1 both.0, short_heads hops both.1) refl
  where
    one : (received : Received) → is_readable received ≡ true → is_short received ≡ true
    one (Whole r) readable = readable
    one (Fault kind) readable = absurd cc

-- what a chain with a text is
pub record HasText (c : ChainValue) (own : List ℕ) : Type 0 where
  pub short : has_short_heads (Chain c) ≡ true
  pub text : note_text (Chain c) ≡ own

has_text : (c : ChainValue) (text : List ℕ) → chain_text c ≡ Some text → HasText c text
has_text c text is = by (are_readable c.hops) refl
  where
    by : (b : Bool) → are_readable c.hops ≡ b → HasText c text
    by true readable =
        let own : Some (note_text (Chain c)) ≡ Some text = rw readable at is in
        let same : note_text (Chain c) ≡ text = cc in
        record { short = short_heads c.hops readable; text = same }
    by false long = absurd (let none : chain_text c ≡ None = rw long refl in cc)

-- a record with one chain has one note
one_written : (c : ChainValue) → has_short_heads (Chain c) ≡ true → written_notes (Chain c ∷ []) ≡ Chain c ∷ []
one_written c short = rw short refl

chain_same : (c d : ChainValue) → chained d.of d.hops ∷ [] ≡ chained c.of c.hops ∷ [] → d ≡ c
chain_same c d is =
    let of : d.of ≡ c.of = cc in
    let hops : d.hops ≡ c.hops = cc in
    λ i. record { of = of i; hops = hops i }

-- a text is that of one chain
pub one_chain : (c d : ChainValue) (text : List ℕ) → IsNote (Chain c) → IsNote (Chain d) → chain_text c ≡ Some text → chain_text d ≡ Some text → d ≡ c
one_chain c d text is other own same =
    let first = has_text c text own in
    let second = has_text d text same in
    let one : written_notes (Chain c ∷ []) ≡ Chain c ∷ [] = one_written c first.short in
    let two : written_notes (Chain d ∷ []) ≡ Chain d ∷ [] = one_written d second.short in
    let e : note_text (Chain c) ≡ note_text (Chain d) = first.text ∙ sym second.text in
    let texts : record_text (Chain d ∷ []) ≡ record_text (Chain c ∷ []) =
    ap (λ (ns : List Noted). codes "wgetr-record 2" ++ 10 ∷ flat_map note_text ns) two ∙ ap (λ t. codes "wgetr-record 2" ++ 10 ∷ (t ++ [])) (sym e)
    ∙ ap (λ (ns : List Noted). codes "wgetr-record 2" ++ 10 ∷ flat_map note_text ns) (sym one) in
    let links = all_links false in
    let reads : IsRecord links (record_text (Chain d ∷ [])) (record_entries links (Chain d ∷ [])) =
    written_record_reads_back links (Chain d ∷ []) (subst (All IsNote) (sym two) (All-cons IsNote (Chain d) [] other (All-nil IsNote))) in
    let only : record_entries links (Chain d ∷ []) ≡ record_entries links (Chain c ∷ []) =
    written_record_is_one links (Chain c ∷ []) (record_entries links (Chain d ∷ [])) (subst (All IsNote) (sym one) (All-cons IsNote (Chain c) [] is (All-nil IsNote)))
    (subst (λ t. IsRecord links t (record_entries links (Chain d ∷ []))) texts reads) in
    chain_same c d (ap (map (note_entry links)) (sym two) ∙ only ∙ ap (map (note_entry links)) one)
