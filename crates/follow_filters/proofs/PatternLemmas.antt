-- What a pattern matches, as a test, and how its parts are read from the left.
use Rattle.std.proofs.Common.{zero, suc, ◌≡◌, ◌∙◌, ℕ, ◌+◌, ◌≤◌, Bool, true, false, List, [], ◌∷◌, ◌++◌, map, length, take, drop, Option, None, Some, option_map, is_some, if◌then◌else◌, refl, sym, ap, arith}
use Rattle.std.proofs.lemmas.Bool.{ne_eqb}
use Rattle.std.specs.List.{list_any, position}
use Rattle.std.specs.Option.{option_and_then}
use Rattle.part_match.specs.Cuts.{is_match, some_end, first_and}
use Rattle.follow_filters.specs.declared.pattern.PatternPart.{PatternPart}
use Rattle.follow_filters.specs.declared.pattern.PatternPart.TheVariants as part
use Rattle.follow_filters.specs.ClassValues.{ClassValue}
use Rattle.follow_filters.specs.Classes.{bracketed_class}
use Rattle.follow_filters.specs.Wildcards.{is_wildcard}
use Rattle.follow_filters.specs.Patterns.{is_run, takes, takes_any_case, takes_in, matches_read, is_file_match, read_pattern, is_end, unit_of, first_part, parts_within, parts_spelled}
use Rattle.follow_filters.proofs.ClassLemmas.{behind, behind-more, behind-nothing}

-- what an element matches is what its parts match
pub is_file_match-parts : (ignores_case : Bool) (element file : List ℕ) (parts : List PatternPart) → read_pattern element ≡ Some parts → is_file_match ignores_case element file ≡ is_match is_run (takes_in ignores_case) parts file
unfolding is_file_match
is_file_match-parts ignores_case element file parts reads = ap (λ read. matches_read ignores_case read file) reads

-- parts that are seen through a function match as what they are seen as
is_match-map : {P Q : Type 0} (r : Q → Bool) (t : Q → ℕ → Bool) (f : P → Q) (parts : List P) (text : List ℕ) → is_match (λ p. r (f p)) (λ p byte. t (f p) byte) parts text ≡ is_match r t (map f parts) text
unfolding is_match
is_match-map r t f [] text = refl
is_match-map r t f (p ∷ parts) text = λ i.
    if r (f p) then some_end (λ rest. is_match-map r t f parts rest i) text else first_and (λ byte. t (f p) byte) (λ rest. is_match-map r t f parts rest i) text

-- parts of which letters match in either case
pub any_case-matches : {P : Type 0} (f : P → PatternPart) (list : List P) (exact parts : List PatternPart) (text : List ℕ) (ignores_case : Bool) → ignores_case ≡ true → map f list ≡ exact → exact ≡ parts → is_match (λ p. is_run (f p)) (λ p byte. takes_any_case (f p) byte) list text ≡ is_match is_run (takes_in ignores_case) parts text
any_case-matches f list exact parts text ignores_case ignored same seen =
    is_match-map is_run takes_any_case f list text ∙ ap (λ ps. is_match is_run takes_any_case ps text) (same ∙ seen) ∙ ap (λ b. is_match is_run (takes_in b) parts text) (sym ignored)

-- parts of which letters match as they are
pub exact-matches : (exact parts : List PatternPart) (text : List ℕ) (ignores_case : Bool) → ignores_case ≡ false → exact ≡ parts → is_match is_run takes exact text ≡ is_match is_run (takes_in ignores_case) parts text
exact-matches exact parts text ignores_case counted seen =
    ap (λ ps. is_match is_run takes ps text) seen ∙ ap (λ b. is_match is_run (takes_in b) parts text) (sym counted)

-- the part that a byte begins with: a class, nothing if there is no `]`, or a byte outside of a class
pub part_class : (byte : ℕ) (text : List ℕ) (end : ℕ) (class : ClassValue) → byte ≡ 91 → Some end ≡ position is_end text → bracketed_class (take end text) ≡ Some class → first_part byte text ≡ Some (part.Class class, drop (end + 1) text)
part_class byte text end class opens stands reads = rw (opens, sym stands, reads) refl

pub part_unclosed : (byte : ℕ) (text : List ℕ) → byte ≡ 91 → None ≡ position is_end text → first_part byte text ≡ None
part_unclosed byte text opens stands = rw (opens, sym stands) refl

pub part_bad : (byte : ℕ) (text : List ℕ) (end : ℕ) → byte ≡ 91 → Some end ≡ position is_end text → is_some (bracketed_class (take end text)) ≡ false → first_part byte text ≡ None
part_bad byte text end opens stands bad = rw (opens, sym stands) (go (bracketed_class (take end text)) bad)
  where
    go : (o : Option ClassValue) → is_some o ≡ false → option_map {U = PatternPart × List ℕ} (λ class. (part.Class class, drop (end + 1) text)) o ≡ None
    go None none = refl
    go (Some class) none = cc

pub part_good : (byte : ℕ) (text : List ℕ) (end : ℕ) → byte ≡ 91 → Some end ≡ position is_end text → is_some (bracketed_class (take end text)) ≡ true → (p : PatternPart) × (first_part byte text ≡ Some (p, drop (end + 1) text))
part_good byte text end opens stands good = go (bracketed_class (take end text)) refl good
  where
    go : (o : Option ClassValue) → bracketed_class (take end text) ≡ o → is_some o ≡ true → (p : PatternPart) × (first_part byte text ≡ Some (p, drop (end + 1) text))
    go None is some = cc
    go (Some class) is some = (part.Class class, rw (opens, sym stands, is) refl)

pub part_unit : (byte : ℕ) (text : List ℕ) → (byte ≡ 91 → ⊥) → first_part byte text ≡ Some (unit_of byte, text)
part_unit byte text other = rw (ne_eqb byte 91 other) refl

-- one more part is read
pub parts_within-more : (most : ℕ) (front : List PatternPart) (first : ℕ) (rest : List ℕ) (p : PatternPart) (after : List ℕ) → length (first ∷ rest) ≤ most → first_part first rest ≡ Some (p, after) → length after ≤ length rest → (m : ℕ) × (length after ≤ m) × (behind (front ++ p ∷ []) (parts_within m after) ≡ behind front (parts_within most (first ∷ rest)))
parts_within-more zero front first rest p after within is shorter = absurd (omega arith)
parts_within-more (suc m) front first rest p after within is shorter = (
  m,
  omega arith,
  behind-more front p (parts_within m after)
      ∙ ap (λ split. behind front (option_and_then (λ s. option_map (λ ps. s.0 ∷ ps) (parts_within m s.1)) split)) (sym is),
)

pub parts_spelled-within : (text : List ℕ) → behind [] (parts_within (length text) text) ≡ parts_spelled text
unfolding parts_spelled
parts_spelled-within text = behind-nothing (parts_within (length text) text)

-- one more part is found
pub parts_within-some : (most : ℕ) (first : ℕ) (rest : List ℕ) (p : PatternPart) (after : List ℕ) → length (first ∷ rest) ≤ most → first_part first rest ≡ Some (p, after) → length after ≤ length rest → (m : ℕ) × (length after ≤ m) × (is_some (parts_within m after) ≡ is_some (parts_within most (first ∷ rest)))
parts_within-some zero first rest p after within is shorter = absurd (omega arith)
parts_within-some (suc m) first rest p after within is shorter = (
  m,
  omega arith,
  mapped (parts_within m after) ∙ ap (λ split. is_some (option_and_then (λ s. option_map (λ ps. s.0 ∷ ps) (parts_within m s.1)) split)) (sym is),
)
  where
    mapped : (o : Option (List PatternPart)) → is_some o ≡ is_some (option_map (λ (ps : List PatternPart). p ∷ ps) o)
    mapped None = refl
    mapped (Some ps) = refl

-- and none if the text begins with none
pub parts_within-none : (most : ℕ) (first : ℕ) (rest : List ℕ) → length (first ∷ rest) ≤ most → first_part first rest ≡ None → is_some (parts_within most (first ∷ rest)) ≡ false
parts_within-none zero first rest within is = absurd (omega arith)
parts_within-none (suc m) first rest within is = ap (λ split. is_some (option_and_then (λ s. option_map (λ ps. s.0 ∷ ps) (parts_within m s.1)) split)) is

-- nothing spells no parts
pub parts_within-end : (most : ℕ) (rest : List ℕ) → length rest ≡ 0 → is_some (parts_within most rest) ≡ true
parts_within-end zero rest none = refl
parts_within-end (suc m) [] none = refl
parts_within-end (suc m) (x ∷ rest) none = absurd (omega arith)

-- a text spells parts if its first ones, as many as it has bytes, are parts
pub parts_spelled-length : (text : List ℕ) → is_some (parts_within (length text) text) ≡ is_some (parts_spelled text)
unfolding parts_spelled
parts_spelled-length text = refl

-- an element with a wildcard, and one without
pub read_pattern-spelled : (element : List ℕ) → list_any is_wildcard element ≡ true → read_pattern element ≡ parts_spelled element
unfolding read_pattern
read_pattern-spelled element has = ap (λ b. if b then parts_spelled element else Some (part.Run ∷ map (λ b. part.Byte b) element)) has

pub read_pattern-suffix : (element : List ℕ) → list_any is_wildcard element ≡ false → read_pattern element ≡ Some (part.Run ∷ map (λ b. part.Byte b) element)
unfolding read_pattern
read_pattern-suffix element none = ap (λ b. if b then parts_spelled element else Some (part.Run ∷ map (λ b. part.Byte b) element)) none
