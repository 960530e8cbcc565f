-- What holds of kept entries holds after one more is put, and of the one that is found.
use Rattle.std.proofs.Common.{◌≡◌, Bool, true, false, List, [], ◌∷◌, Option, Some, None, IfSome, refl, sym, subst}
use Rattle.std.specs.Prelude.{All, bytes_eq, option_map}
use Rattle.std.specs.Borrow.{Bor}
use Rattle.std.specs.Map.{lookup}
use Rattle.std.proofs.lemmas.Map.Entries.{All-lookup}
use Rattle.std.proofs.lemmas.List.Elements.{All-nil, All-cons, All-head, All-tail}
use Rattle.std.proofs.lemmas.Slice.Eq.{bytes_eq-Decides}
use Rattle.indexmap.specs.IndexMap.{insert_entry}
use Rattle.answer_notes.specs.HopChains.{ChainValue}
use Rattle.answer_notes.specs.declared.noted.Noted.{Noted}
use Rattle.answer_notes.specs.declared.noted.Noted.TheVariants.{Chain}
use Rattle.site_records.specs.WrittenEntries.{IsNote}
use Rattle.earlier_answers.specs.Texts.{AreWhole, Text, chain_text}
use Rattle.earlier_answers.specs.inner.Kept.{IsOneChain, first_chain}

-- one more is put, in the place of that of the same key
pub kept_inserted : {V : Type 0} (P : Text × V → Type 0) (es : List (Text × V)) (k : Text) (v : V)
    → ((key : Text) → bytes_eq k key ≡ true → P (key, v)) → P (k, v) → All P es → All P (insert_entry bytes_eq es k v)
kept_inserted P [] k v same here all = All-cons P (k, v) [] here (All-nil P)
kept_inserted P (e ∷ es) k v same here all = by (bytes_eq k e.0) refl (kept_inserted P es k v same here (All-tail P e es all))
  where
    by : (b : Bool) → bytes_eq k e.0 ≡ b → All P (insert_entry bytes_eq es k v) → All P (insert_entry bytes_eq (e ∷ es) k v)
    by true is later = rw is (All-cons P (e.0, v) es (same e.0 is) (All-tail P e es all))
    by false is later = rw is (All-cons P e (insert_entry bytes_eq es k v) (All-head P e es all) later)

-- what is found has its key
pub found_at : {V : Type 0} (P : Text × V → Type 0) (es : List (Text × V)) (k : Text) (v : V) → All P es → lookup (bytes_eq k) es ≡ Some v
    → (key : Text) × (bytes_eq k key ≡ true) × P (key, v)
found_at P [] k v all found = absurd cc
found_at P (e ∷ es) k v all found = by (bytes_eq k e.0) refl (λ later. found_at P es k v (All-tail P e es all) later)
  where
    by : (b : Bool) → bytes_eq k e.0 ≡ b → (lookup (bytes_eq k) es ≡ Some v → (key : Text) × (bytes_eq k key ≡ true) × P (key, v))
        → (key : Text) × (bytes_eq k key ≡ true) × P (key, v)
    by true is later =
        let this : Some e.1 ≡ Some v = rw is at found in
        let value : e.1 ≡ v = cc in
        (e.0, is, subst (λ w. P (e.0, w)) value (All-head P e es all))
    by false is later = later (rw is at found)

-- what is lent is what was found
pub found_has : {V : Type 0} (P : V → Type 0) (es : List (Text × V)) (k : Text) (r : Option (Bor V)) → All (λ (e : Text × V). P e.1) es
    → option_map (λ (v : Bor V). v.now) r ≡ lookup (bytes_eq k) es → IfSome r (λ v. P v.now)
found_has P es k None all is = tt
found_has P es k (Some v) all is = let f : IfSome (lookup (bytes_eq k) es) P = All-lookup P (bytes_eq k) es all in subst (λ o. IfSome o P) (sym is) f

-- keys that pass the test are the same
pub key_is : (k key : Text) → bytes_eq k key ≡ true → k ≡ key
key_is k key is = (bytes_eq-Decides k key).0 is

-- the one note is of the chain whose text this is
pub one_noted : (notes : List Noted) (c : ChainValue) (text : Text) → notes ≡ Chain c ∷ [] → IsNote (Chain c) → AreWhole c.hops → chain_text c ≡ Some text
    → IsOneChain notes × (chain_text (first_chain notes) ≡ Some text)
one_noted notes c text one note whole own =
    subst (λ (ns : List Noted). IsOneChain ns × (chain_text (first_chain ns) ≡ Some text)) (sym one) (record { one = refl; note = note; whole = whole }, own)
