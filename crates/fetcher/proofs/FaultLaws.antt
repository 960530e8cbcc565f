-- The table of faults once more, so that a wrong row doesn't check; and that a word is that of one fault.
use Rattle.std.proofs.Common.{rules, ◌≡◌, ◌≢◌, ℕ, ◌+◌, ◌<◌, ◌≤◌, ◌∙◌, Bool, false, List, [], ◌∷◌, Option, Some, None, refl, sym, ap, subst, length, MatchOption}
use Rattle.std.specs.Prelude.{codes, map, get_or, option_map, slice_get, find, take, unwrap_or, All}
use Rattle.std.specs.Str.{bytes_eq}
use Rattle.std.proofs.lemmas.List.{get_or-map, map_more, take_all}
use Rattle.std.proofs.lemmas.List.Elements.{All-push}
use Rattle.std.proofs.lemmas.Option.{slice_get-map, slice_get-get_or}
use Rattle.fetcher.specs.declared.fault_kind.FaultClass.{FaultClass}
use Rattle.fetcher.specs.declared.fault_kind.FaultClass.TheVariants.{Network, Protocol}
use Rattle.fetcher.specs.declared.fault_kind.FaultKind.{FaultKind}
use Rattle.fetcher.specs.declared.fault_kind.FaultKind.TheVariants.{Connect, Device, Ended, Head, HeadLong, Length, Coding, Chunk, BodyLong}
use Rattle.fetcher.specs.declared.fault_kind.KindRow.{KindRow}
use Rattle.fetcher.specs.declared.fault_kind.TheConstants.{TABLE}
use Rattle.fetcher.specs.FaultWords.{place_of, kinds, words, word_of, class_of}

-- what the table says
rows : map {B = FaultKind × List ℕ × FaultClass} (λ row. (row.kind, row.word.now, row.class)) TABLE
    ≡ (Connect, codes "connect", Network) ∷ (Device, codes "device", Network) ∷ (Ended, codes "ended", Network)
    ∷ (Head, codes "head", Protocol) ∷ (HeadLong, codes "head-long", Protocol) ∷ (Length, codes "length", Protocol)
    ∷ (Coding, codes "coding", Protocol) ∷ (Chunk, codes "chunk", Protocol) ∷ (BodyLong, codes "body-long", Protocol) ∷ []
rows = refl

-- each fault has a row
pub has_row : (kind : FaultKind) → place_of kind < length words
has_row kind = search rules

-- each row is in its fault's place
own_places : map word_of kinds ≡ words
unfolding word_of
own_places = refl

-- ---- what the code reads in a table

pub word_at : {T : Type 0} (read : T → List ℕ) (rows : List (KindRow T)) (at : ℕ) (d : KindRow T) → at < length rows
    → read (get_or rows at d).word ≡ get_or (map (λ row. read row.word) rows) at []
word_at {T} read rows at d within = sym (get_or-map (λ (row : KindRow T). read row.word) rows at d [] within)

pub class_at : {T : Type 0} (rows : List (KindRow T)) (at : ℕ) (d : KindRow T) → at < length rows
    → (get_or rows at d).class ≡ get_or (map (λ row. row.class) rows) at Protocol
class_at {T} rows at d within = sym (get_or-map (λ (row : KindRow T). row.class) rows at d Protocol within)

-- one text more isn't the word
pub none_more : {T : Type 0} (w : List ℕ) (f : T → List ℕ) (xs : List T) (i : ℕ) (d : T) → i < length xs → All (λ text. w ≢ text) (map f (take i xs)) → w ≢ f (get_or xs i d)
    → All (λ text. w ≢ text) (map f (take (i + 1) xs))
none_more w f xs i d within none here =
    subst (λ texts. All (λ text. w ≢ text) texts) (sym (map_more f xs i d within)) (All-push (λ text. w ≢ text) (map f (take i xs)) (f (get_or xs i d)) none here)

-- two texts that compare as different are
pub differs : (r : Bool) (text w : List ℕ) → r ≡ bytes_eq text w → r ≡ false → w ≢ text
differs r text w is unequal = search rules

-- none of all texts is
pub none_of_all : {T : Type 0} (w : List ℕ) (f : T → List ℕ) (xs : List T) (i : ℕ) → length xs ≤ i → All (λ text. w ≢ text) (map f (take i xs)) → All (λ text. w ≢ text) (map f xs)
none_of_all w f xs i past none = subst (λ rows. All (λ text. w ≢ text) (map f rows)) (take_all i xs past) none

-- what is in a place of a list is there in its image
in_image : {T A : Type 0} (f : T → A) (xs : List T) (i : ℕ) (d : T) (a : A) → i < length xs → f (get_or xs i d) ≡ a → slice_get (map f xs) i ≡ Some a
in_image f xs i d a within same = slice_get-map f xs i ∙ ap (option_map f) (slice_get-get_or xs i d within) ∙ ap Some same

-- the row in a place has the word
pub row_found : {T : Type 0} (read : T → List ℕ) (rows : List (KindRow T)) (i : ℕ) (d : KindRow T) (w : List ℕ) (kind : FaultKind) → i < length rows → (get_or rows i d).kind ≡ kind → w ≡ read (get_or rows i d).word
    → (k : ℕ) × (slice_get (map (λ row. read row.word) rows) k ≡ Some w) × (slice_get (map (λ row. row.kind) rows) k ≡ Some kind)
row_found {T} read rows i d w kind within same word =
    (i, in_image (λ (row : KindRow T). read row.word) rows i d w within (sym word), in_image (λ (row : KindRow T). row.kind) rows i d kind within same)

-- ---- a word is that of one fault

-- a word that isn't among the words is that of no fault
no_word : (w : List ℕ) → All (λ text. w ≢ text) words → (kind : FaultKind) → w ≢ word_of kind
unfolding word_of
no_word w none kind same = none (place_of kind) [] (has_row kind) same

-- the word in a fault's row is that of the fault
own_word : (w : List ℕ) (kind : FaultKind) (k : ℕ) → slice_get words k ≡ Some w → slice_get kinds k ≡ Some kind → w ≡ word_of kind
own_word w kind k word at =
    let same : slice_get (map word_of kinds) k ≡ slice_get words k = ap (λ texts. slice_get texts k) own_places in
    ap (λ found. unwrap_or found []) (sym word ∙ sym same ∙ slice_get-map word_of kinds k ∙ ap (option_map word_of) at)

-- a row that has the word gives its fault, and if none has it, it is that of no fault
pub found : (w : List ℕ) (r : Option FaultKind)
    → MatchOption r (All (λ text. w ≢ text) words) (λ kind. (k : ℕ) × (slice_get words k ≡ Some w) × (slice_get kinds k ≡ Some kind))
    → MatchOption r ((kind : FaultKind) → w ≢ word_of kind) (λ kind. w ≡ word_of kind)
found w None h = no_word w h
found w (Some kind) (k, word, at) = own_word w kind k word at

-- the fault of a word, if it is one
unfoldable pub kind_of : List ℕ → Option FaultKind
kind_of word = option_map (λ row. row.kind) (find (λ row. bytes_eq word row.word.now) TABLE)

-- no two faults share a word
pub kind_of-word_of : (kind : FaultKind) → kind_of (word_of kind) ≡ Some kind
unfolding kind_of word_of
kind_of-word_of Connect = refl
kind_of-word_of kind = refl
