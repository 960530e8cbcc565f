-- Names, and those of attributes that are kept.
use Rattle.std.proofs.Common.{◌≡◌, ℕ, Bool, true, false, ◌||◌, ◌≤◌, List, [], ◌∷◌, ◌++◌, ◌==◌, if◌then◌else◌, length, get_or, refl, ap, arith}
use Rattle.std.specs.Prelude.{codes}
use Rattle.std.specs.Str.{bytes_eq}
use Rattle.html_links.specs.declared.asked.AskedName.{AskedName}
use Rattle.html_links.specs.Asked.{is_asked_attribute, is_styling, asked_name}
use Rattle.html_links.specs.Links.{styling}
use Rattle.std.specs.List.{list_any}
use Rattle.std.proofs.lemmas.Slice.Eq.{bytes_eq-Decides}
use Rattle.html_links.specs.inner.Rows.{begins_styling}
use Rattle.html_links.proofs.Rows.{differs}

-- names of different lengths are different names
pub lengths_differ : (name other : List ℕ) → (length name ≡ length other → ⊥) → bytes_eq name other ≡ false
lengths_differ name other h = go (bytes_eq name other) refl where
  go : (t : Bool) → bytes_eq name other ≡ t → t ≡ false
  go true e = absurd (h (ap length ((bytes_eq-Decides name other).0 e)))
  go false e = refl

-- the names of attributes that a rule names are kept
pub asked_is_asked : (n : AskedName) → is_asked_attribute (asked_name n) ≡ true
asked_is_asked n = grind arith

-- whether a rule names all of these attributes
abbrev all_asked : List (List ℕ) → Bool
all_asked [] = true
all_asked (n ∷ others) = if is_asked_attribute n then all_asked others else false

asked_of_all : (name : List ℕ) (names : List (List ℕ)) → all_asked names ≡ true → is_asked_attribute name ≡ false → list_any (bytes_eq name) names ≡ false
asked_of_all name [] h none = refl
asked_of_all name (n ∷ others) h none = go (is_asked_attribute n) refl h (bytes_eq name n) refl (asked_of_all name others) where
  go : (t : Bool) → is_asked_attribute n ≡ t → (if t then all_asked others else false) ≡ true → (s : Bool) → bytes_eq name n ≡ s
      → (all_asked others ≡ true → is_asked_attribute name ≡ false → list_any (bytes_eq name) others ≡ false)
      → (s || list_any (bytes_eq name) others) ≡ false
  go true e h true same g = let equal : name ≡ n = (bytes_eq-Decides name n).0 same in absurd (cc)
  go true e h false same g = g h none
  go false e h s same g = absurd (cc)

-- what no rule names isn't read like a style sheet
pub styling_is_asked : (name : List ℕ) → is_asked_attribute name ≡ false → is_styling name ≡ false
unfolding is_styling styling
styling_is_asked name none = asked_of_all name styling refl none

-- none of the tests holds
record AreFalse (a b c d : Bool) : Type 0 where
  first : a ≡ false
  second : b ≡ false
  third : c ≡ false
  fourth : d ≡ false

none_holds : (a b c d : Bool) → (a || b || c || d) ≡ false → AreFalse a b c d
none_holds false false false d h = record { first = refl; second = refl; third = refl; fourth = h }
none_holds false false true d h = absurd (cc)
none_holds false true c d h = absurd (cc)
none_holds true b c d h = absurd (cc)

-- nor is what begins with another letter
never_styling : (first : ℕ) (name : List ℕ) → begins_styling first ≡ false → is_styling (first ∷ name) ≡ false
unfolding is_styling styling
never_styling first name h =
    let tests : AreFalse (first == 115) (first == 102) (first == 109) (first == 99) = none_holds _ _ _ _ h in
    rw (
      differs first name (codes "style") tests.first,
      differs first name (codes "fill") tests.second,
      differs first name (codes "stroke") tests.first,
      differs first name (codes "filter") tests.second,
      differs first name (codes "mask") tests.third,
      differs first name (codes "clip-path") tests.fourth,
      differs first name (codes "cursor") tests.fourth,
      differs first name (codes "marker-start") tests.third,
      differs first name (codes "marker-mid") tests.third,
      differs first name (codes "marker-end") tests.third,
    ) refl

pub begun_otherwise : (came : List ℕ) (other : ℕ) → 1 ≤ length came → begins_styling (get_or came 0 other) ≡ false
    → (name : List ℕ) → is_styling (came ++ name) ≡ false
begun_otherwise [] other h none name = absurd (omega arith)
begun_otherwise (first ∷ more) other h none name = never_styling first (more ++ name) none
