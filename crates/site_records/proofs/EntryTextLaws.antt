-- The text of an entry, from the pieces that are pushed for it.
use Rattle.std.proofs.Common.{◌≡◌, ℕ, ◌+◌, ◌<◌, ◌++◌, ◌∙◌, Bool, true, false, cond, List, [], ◌∷◌, Result, Ok, Err, OnOk, refl, sym, ap, subst, length, take, get_or, append_assoc, append-nil, length-append, add-one}
use Rattle.std.specs.Prelude.{codes, decimal, All, flat_map}
use Rattle.std.specs.List.{list_all}
use Rattle.std.proofs.Math.Seq.{take-suc}
use Rattle.std.proofs.lemmas.List.Elements.{All-push}
use Rattle.std.proofs.lemmas.List.Folds.{list_all_at}
use Rattle.std.proofs.lemmas.Grind.{flat_map-append}
use Rattle.response_reader.specs.Response.{ResponseParts}
use Rattle.response_reader.specs.Written.{head_text, response_text}
use Rattle.answer_notes.specs.HopChains.{HopValue}
use Rattle.answer_notes.specs.declared.noted.Noted.TheVariants.{Chain}
use Rattle.site_records.specs.WrittenEntries.{line_of_three, counted_entry, chain_line, is_short, received_text, hop_entry, written_note, IsReceivedFor}

-- what follows of a fact does if a call succeeds
pub on_ok : {T E : Type 0} {P Q : Type 0} (r : Result T E) → (P → Q) → OnOk r P → OnOk r Q
on_ok (Ok x) f p = f p
on_ok (Err e) f p = p

-- one element more of a list
pub taken_more : {X : Type 0} (xs : List X) (i : ℕ) (x : X) → i < length xs → x ≡ get_or xs i x → take (i + 1) xs ≡ take i xs ++ x ∷ []
taken_more xs i x within is = rw add-one (take-suc xs i x within ∙ ap (λ y. take i xs ++ y ∷ []) (sym is))

-- the pieces of a response
pub whole_text : (pieces line front made lent all word at head body count : List ℕ) (r : ResponseParts) → head ≡ head_text r → body ≡ r.body → count ≡ decimal (length head + length body)
    → line ≡ line_of_three word at count ++ 10 ∷ [] → front ≡ line ++ head → made ≡ pieces ++ front → lent ≡ made ++ body → all ≡ lent ++ 10 ∷ []
    → all ≡ pieces ++ counted_entry word at (response_text r)
unfolding response_text
whole_text pieces line front made lent all word at head body count r h b n l f m k a =
    let long : decimal (length head + length body) ≡ decimal (length (head_text r ++ r.body)) = rw (h, b) (ap decimal (sym (length-append (head_text r) r.body))) in
    let text : front ≡ (line_of_three word at (decimal (length (head_text r ++ r.body))) ++ 10 ∷ []) ++ head_text r =
    f ∙ ap (λ t. t ++ head) (l ∙ ap (λ t. line_of_three word at t ++ 10 ∷ []) (n ∙ long)) ∙ ap (λ t. (line_of_three word at (decimal (length (head_text r ++ r.body))) ++ 10 ∷ []) ++ t) h in
    a ∙ ap (λ t. t ++ 10 ∷ []) (k ∙ ap (λ t. t ++ body) (m ∙ ap (λ t. pieces ++ t) text) ∙ ap (λ t. (pieces ++ ((line_of_three word at (decimal (length (head_text r ++ r.body))) ++ 10 ∷ []) ++ head_text r)) ++ t) b)
    ∙ regroup pieces (line_of_three word at (decimal (length (head_text r ++ r.body)))) (head_text r) r.body
  where
    regroup : (p l h b : List ℕ) → ((p ++ ((l ++ 10 ∷ []) ++ h)) ++ b) ++ 10 ∷ [] ≡ p ++ (l ++ (10 ∷ ((h ++ b) ++ (10 ∷ []))))
    regroup p l h b = simp append_assoc

-- each of them is short
pub one_short : (hops : List HopValue) (i : ℕ) (h : HopValue) → i < length hops → h ≡ get_or hops i h → list_all (λ (h : HopValue). is_short h.1) hops ≡ true → is_short h.1 ≡ true
one_short hops i h within is short = by (is_short h.1) refl
  where
    by : (b : Bool) → is_short h.1 ≡ b → b ≡ true
    by true e = refl
    by false e =
        let gone = list_all_at (λ (h : HopValue). is_short h.1) hops i h within (ap (λ (x : HopValue). is_short x.1) (sym is) ∙ e) in
        absurd (let a = short in let b = gone in cc)

-- one hop more
pub hops_grow : (hops : List HopValue) (i : ℕ) (h : HopValue) (pieces old new : List ℕ) → i < length hops → h ≡ get_or hops i h → list_all (λ (h : HopValue). is_short h.1) hops ≡ true
    → old ≡ pieces ++ flat_map hop_entry (take i hops) → new ≡ old ++ cond (is_short h.1) (received_text (codes "hop") (codes "hopfault") h.0 h.1) []
    → new ≡ pieces ++ flat_map hop_entry (take (i + 1) hops)
hops_grow hops i h pieces old new within is short was now =
    let here = one_short hops i h within is short in
    let more = taken_more hops i h within is in
    now ∙ ap (λ t. old ++ cond t (hop_entry h) []) here ∙ ap (λ t. t ++ hop_entry h) was ∙ append_assoc pieces (flat_map hop_entry (take i hops)) (hop_entry h)
    ∙ ap (λ t. pieces ++ t) (sym (ap (flat_map hop_entry) more ∙ flat_map-append hop_entry (take i hops) (h ∷ []) ∙ single))
  where
    single : flat_map hop_entry (take i hops) ++ flat_map hop_entry (h ∷ []) ≡ flat_map hop_entry (take i hops) ++ hop_entry h
    single = ap (λ t. flat_map hop_entry (take i hops) ++ t) (append-nil (hop_entry h))

-- one more hop was received
pub told_more : (hops : List HopValue) (i : ℕ) (h : HopValue) → i < length hops → h ≡ get_or hops i h → list_all (λ (h : HopValue). is_short h.1) hops ≡ true
    → All (λ (h : HopValue). IsReceivedFor h.0 h.1) (take i hops) → (is_short h.1 ≡ true → IsReceivedFor h.0 h.1) → All (λ (h : HopValue). IsReceivedFor h.0 h.1) (take (i + 1) hops)
told_more hops i h within is short was now =
    subst (All (λ (h : HopValue). IsReceivedFor h.0 h.1)) (sym (taken_more hops i h within is))
    (All-push (λ (h : HopValue). IsReceivedFor h.0 h.1) (take i hops) h was (now (one_short hops i h within is short)))

-- the pieces of a chain
pub chain_text : (pieces line made all of : List ℕ) (hops : List HopValue) → line ≡ chain_line of (length hops) → made ≡ pieces ++ line → all ≡ made ++ flat_map hop_entry hops
    → list_all (λ (h : HopValue). is_short h.1) hops ≡ true → all ≡ pieces ++ written_note (Chain (record { of = of; hops = hops }))
chain_text pieces line made all of hops l m a short =
    a ∙ ap (λ t. t ++ flat_map hop_entry hops) (m ∙ ap (λ t. pieces ++ t) l) ∙ append_assoc pieces (chain_line of (length hops)) (flat_map hop_entry hops)
    ∙ ap (λ t. pieces ++ cond t (chain_line of (length hops) ++ flat_map hop_entry hops) []) (sym short)
