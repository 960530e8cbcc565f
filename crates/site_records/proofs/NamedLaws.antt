-- The addresses and the origins of notes, with those of one more.
use Rattle.std.proofs.Common.{◌≡◌, ℕ, ◌++◌, ◌∙◌, Bool, true, false, ◌||◌, cond, List, [], ◌∷◌, Bor, refl, sym, ap}
use Rattle.std.specs.List.{list_any}
use Rattle.std.specs.Str.{bytes_eq}
use Rattle.std.proofs.lemmas.List.Folds.{list_any-append}
use Rattle.answer_notes.specs.HopChains.{ChainValue}
use Rattle.answer_notes.specs.declared.received.Received.{Received}
use Rattle.answer_notes.specs.declared.noted.Noted.{Noted}
use Rattle.answer_notes.specs.declared.noted.Noted.TheVariants.{Page, Chain}
use Rattle.site_records.specs.WrittenRecords.{is_page_of, is_chain_of}

abbrev pub has_text : List (Bor (List ℕ)) → Bor (List ℕ) → Bool
has_text keys q = list_any (λ (k : Bor (List ℕ)). bytes_eq q.now k.now) keys

either : (b x : Bool) → cond b true x ≡ (x || (b || false))
either true true = refl
either true false = refl
either false true = refl
either false false = refl

neither : (x : Bool) → x ≡ (x || (false || false))
neither true = refl
neither false = refl

pub page_added : (old new : List (Bor (List ℕ))) (value : Bor (List ℕ)) (at : List ℕ) (told : Received) (notes : List Noted) → value.now ≡ at
    → ((q : Bor (List ℕ)) → has_text new q ≡ cond (bytes_eq value.now q.now) true (has_text old q)) → ((q : Bor (List ℕ)) → has_text old q ≡ list_any (is_page_of q.now) notes)
    → (q : Bor (List ℕ)) → has_text new q ≡ list_any (is_page_of q.now) (notes ++ Page at told ∷ [])
page_added old new value at told notes is more h q =
    more q ∙ ap (cond (bytes_eq value.now q.now) true) (h q) ∙ ap (λ t. cond (bytes_eq t q.now) true (list_any (is_page_of q.now) notes)) is
    ∙ either (bytes_eq at q.now) (list_any (is_page_of q.now) notes) ∙ sym (list_any-append (is_page_of q.now) notes (Page at told ∷ []))

pub chain_added : (old new : List (Bor (List ℕ))) (value : Bor (List ℕ)) (c : ChainValue) (notes : List Noted) → value.now ≡ c.of
    → ((q : Bor (List ℕ)) → has_text new q ≡ cond (bytes_eq value.now q.now) true (has_text old q)) → ((q : Bor (List ℕ)) → has_text old q ≡ list_any (is_chain_of q.now) notes)
    → (q : Bor (List ℕ)) → has_text new q ≡ list_any (is_chain_of q.now) (notes ++ Chain c ∷ [])
chain_added old new value c notes is more h q =
    more q ∙ ap (cond (bytes_eq value.now q.now) true) (h q) ∙ ap (λ t. cond (bytes_eq t q.now) true (list_any (is_chain_of q.now) notes)) is
    ∙ either (bytes_eq c.of q.now) (list_any (is_chain_of q.now) notes) ∙ sym (list_any-append (is_chain_of q.now) notes (Chain c ∷ []))

pub pages_stay : (notes : List Noted) (c : ChainValue) (at : List ℕ) → list_any (is_page_of at) notes ≡ list_any (is_page_of at) (notes ++ Chain c ∷ [])
pages_stay notes c at = neither (list_any (is_page_of at) notes) ∙ sym (list_any-append (is_page_of at) notes (Chain c ∷ []))

pub chains_stay : (notes : List Noted) (at : List ℕ) (told : Received) (of : List ℕ) → list_any (is_chain_of of) notes ≡ list_any (is_chain_of of) (notes ++ Page at told ∷ [])
chains_stay notes at told of = neither (list_any (is_chain_of of) notes) ∙ sym (list_any-append (is_chain_of of) notes (Page at told ∷ []))
