-- Names of directories, from the left.
use Rattle.std.proofs.Common.{◌≡◌, ◌≢◌, ◌∙◌, ℕ, Bool, true, false, cond, List, [], ◌∷◌, ◌++◌, codes, if◌then◌else◌, Option, Some, None, option_map, is_some, refl, sym, ap, subst, inl, inr, Bor, MatchOption}
use Rattle.std.proofs.lemmas.Bool.{and_from, and_parts, and_right}
use Rattle.std.specs.Bool.{Decides}
use Rattle.std.specs.List.{AllZip, slice_split, onto_first}
use Rattle.std.specs.Option.{option_and_then}
use Rattle.part_match.specs.Cuts.{Matches, is_match}
use Rattle.part_match.proofs.Decided.{is_match-cuts}
use Rattle.follow_filters.specs.declared.elements.ElementFault.{ElementFault}
use Rattle.follow_filters.specs.declared.pattern.PatternPart.{PatternPart}
use Rattle.follow_filters.specs.Elements.{IsFaultOf}
use Rattle.follow_filters.specs.Patterns.{is_run, takes_in, parts_spelled}
use Rattle.follow_filters.specs.Lists.{read_all}
use Rattle.follow_filters.specs.Directories.{is_slash, names_in, read_names, begins_with_names, begins_with_read, is_in_directory, read_directory, is_rooted, rooted, without_closing_slashes}
use Rattle.follow_filters.proofs.ClassLemmas.{behind, behind-more}

-- ---- the test says what is meant

-- the names match the first of those one by one, and more follow
abbrev pub Begins : Bool → List (List PatternPart) → List (List ℕ) → Type 0
Begins ignores_case names all = (front rest : List (List ℕ)) × (all ≡ front ++ rest) × (rest ≢ []) × AllZip (Matches is_run (takes_in ignores_case)) names front

begins_to : (ignores_case : Bool) (names : List (List PatternPart)) (all : List (List ℕ)) → begins_with_names ignores_case names all ≡ true → Begins ignores_case names all
begins_to ignores_case [] [] h = cc
begins_to ignores_case [] (x ∷ xs) h = ([], x ∷ xs, refl, (λ none. cc), tt)
begins_to ignores_case (name ∷ names) [] h = cc
begins_to ignores_case (name ∷ names) (x ∷ xs) h =
    let both = and_parts (is_match is_run (takes_in ignores_case) name x) (begins_with_names ignores_case names xs) h in
    let later = begins_to ignores_case names xs both.1 in
    (x ∷ later.0, later.1, ap (λ ys. x ∷ ys) later.2, later.3, ((is_match-cuts is_run (takes_in ignores_case) name x).0 both.0, later.4))

begins_from : (ignores_case : Bool) (names : List (List PatternPart)) (all front rest : List (List ℕ)) → all ≡ front ++ rest → rest ≢ []
    → AllZip (Matches is_run (takes_in ignores_case)) names front → begins_with_names ignores_case names all ≡ true
begins_from ignores_case [] [] [] rest is some zip = absurd (some (sym is))
begins_from ignores_case [] (x ∷ xs) [] rest is some zip = refl
begins_from ignores_case [] all (y ∷ ys) rest is some zip = absurd zip
begins_from ignores_case (name ∷ names) all [] rest is some zip = absurd zip
begins_from ignores_case (name ∷ names) [] (y ∷ ys) rest is some zip = cc
begins_from ignores_case (name ∷ names) (x ∷ xs) (y ∷ ys) rest is some (here, later) =
    let first : y ≡ x = cc in
    let others : xs ≡ ys ++ rest = cc in
    and_from _ _ ((is_match-cuts is_run (takes_in ignores_case) name x).1 (subst (Matches is_run (takes_in ignores_case) name) first here)) (begins_from ignores_case names xs ys rest others some later)

pub begins_with_read-Decides : (ignores_case : Bool) (read : Option (List (List PatternPart))) (all : List (List ℕ)) → Decides (begins_with_read ignores_case read all) ((names : List (List PatternPart)) × (front rest : List (List ℕ)) × (read ≡ Some names) × (all ≡ front ++ rest) × (rest ≢ []) × AllZip (Matches is_run (takes_in ignores_case)) names front)
begins_with_read-Decides ignores_case None all = (λ yes. cc, λ begins. let none = begins.3 in cc)
begins_with_read-Decides ignores_case (Some names) all = (
  λ yes. let begins = begins_to ignores_case names all yes in (names, begins.0, begins.1, refl, begins.2, begins.3, begins.4),
  λ (others, front, rest, same, is, some, zip).
      let named : others ≡ names = cc in
      begins_from ignores_case names all front rest is some (subst (λ ns. AllZip (Matches is_run (takes_in ignores_case)) ns front) named zip),
)

-- what an element has is what its names begin
pub is_in_directory-names : (ignores_case : Bool) (element directory : List ℕ) (names : List (List PatternPart)) → read_names element ≡ Some names → is_in_directory ignores_case element directory ≡ begins_with_names ignores_case names (names_in directory)
unfolding is_in_directory
is_in_directory-names ignores_case element directory names reads = ap (λ read. begins_with_read ignores_case read (names_in directory)) reads

-- ---- one name after another

-- a text has a name
pub some_names : (ignores_case : Bool) (text : List ℕ) → begins_with_names ignores_case [] (names_in text) ≡ true
some_names ignores_case [] = refl
some_names ignores_case (x ∷ xs) = go (is_slash x) (slice_split is_slash xs)
  where
    go : (b : Bool) (parts : List (List ℕ)) → begins_with_names ignores_case [] (cond b ([] ∷ parts) (onto_first x parts)) ≡ true
    go true parts = refl
    go false [] = refl
    go false (part ∷ parts) = refl

-- the last name is there, and none after it
pub begins-last : (ignores_case : Bool) (name : List PatternPart) (names : List (List PatternPart)) (x : List ℕ) → begins_with_names ignores_case (name ∷ names) (x ∷ []) ≡ false
begins-last ignores_case name [] x = and_right _ _ refl
begins-last ignores_case name (n ∷ names) x = and_right _ _ refl

-- a name is read, and the names after it
pub names-more : (front : List (List PatternPart)) (text first rest : List ℕ) (name : List PatternPart) → names_in text ≡ first ∷ names_in rest → parts_spelled first ≡ Some name → behind (front ++ name ∷ []) (read_names rest) ≡ behind front (read_names text)
names-more front text first rest name cut is =
    behind-more front name (read_names rest)
    ∙ ap (λ r. behind front (option_and_then (λ y. option_map (λ ys. y ∷ ys) (read_names rest)) r)) (sym is)
    ∙ ap (λ names. behind front (read_all parts_spelled names)) (sym cut)

-- a name that spells parts, and the names after it
pub names-some : (text first rest : List ℕ) → names_in text ≡ first ∷ names_in rest → is_some (parts_spelled first) ≡ true → is_some (read_names rest) ≡ is_some (read_names text)
names-some text first rest cut spelled =
    go (parts_spelled first) (read_names rest) spelled ∙ ap (λ names. is_some (read_all parts_spelled names)) (sym cut)
  where
    go : (o : Option (List PatternPart)) (others : Option (List (List PatternPart))) → is_some o ≡ true → is_some others ≡ is_some (option_and_then (λ y. option_map (λ ys. y ∷ ys) others) o)
    go None others some = cc
    go (Some y) None some = refl
    go (Some y) (Some ys) some = refl

-- the last name that spells parts
pub names-some-last : (text first : List ℕ) → names_in text ≡ first ∷ [] → is_some (parts_spelled first) ≡ true → is_some (read_names text) ≡ true
names-some-last text first cut spelled = ap (λ names. is_some (read_all parts_spelled names)) cut ∙ go (parts_spelled first) spelled
  where
    go : (o : Option (List PatternPart)) → is_some o ≡ true → is_some (option_and_then (λ (y : List PatternPart). option_map (λ (ys : List (List PatternPart)). y ∷ ys) (Some [])) o) ≡ true
    go None some = cc
    go (Some y) some = refl

-- a name that spells none
pub names-none : (text first : List ℕ) (others : List (List ℕ)) → names_in text ≡ first ∷ others → is_some (parts_spelled first) ≡ false → is_some (read_names text) ≡ false
names-none text first others cut none = ap (λ names. is_some (read_all parts_spelled names)) cut ∙ go (parts_spelled first) none
  where
    go : (o : Option (List PatternPart)) → is_some o ≡ false → is_some (option_and_then (λ (y : List PatternPart). option_map (λ (ys : List (List PatternPart)). y ∷ ys) (read_all parts_spelled others)) o) ≡ false
    go None h = refl
    go (Some y) h = cc

-- a name that is bad
pub names-bad : (text first : List ℕ) (others : List (List ℕ)) → names_in text ≡ first ∷ others → parts_spelled first ≡ None → read_names text ≡ None
names-bad text first others cut bad =
    ap (read_all parts_spelled) cut ∙ ap (λ r. option_and_then (λ y. option_map (λ ys. y ∷ ys) (read_all parts_spelled others)) r) bad

-- the last name
pub names-last : (front : List (List PatternPart)) (text first : List ℕ) (name : List PatternPart) → names_in text ≡ first ∷ [] → parts_spelled first ≡ Some name → behind front (read_names text) ≡ Some (front ++ name ∷ [])
names-last front text first name cut is =
    ap (λ names. behind front (read_all parts_spelled names)) cut ∙ ap (λ r. behind front (option_and_then (λ y. option_map (λ ys. y ∷ ys) (Some [])) r)) is

-- a text begins with its first name, whatever follows
pub first_name : (names : List (List ℕ)) (first : List ℕ) (short : List ℕ → Type 0) (o : Option (Bor (List ℕ))) → MatchOption o (names ≡ first ∷ []) (λ r. (names ≡ first ∷ names_in r.now) × short r.now) → (others : List (List ℕ)) × (names ≡ first ∷ others)
first_name names first short None cut = ([], cut)
first_name names first short (Some r) cut = (names_in r.now, cut.0)

-- a bad name, or memory that ran out, is reported for the text
pub names_fault : (front : List (List PatternPart)) (text rest first : List ℕ) (others : List (List ℕ)) (fault : ElementFault) → behind front (read_names rest) ≡ read_names text → names_in rest ≡ first ∷ others → IsFaultOf (parts_spelled first) fault → IsFaultOf (read_names text) fault
names_fault front text rest first others fault so_far cut (inl (bad, none)) = inl (bad, sym so_far ∙ ap (behind front) (names-bad rest first others cut none))
names_fault front text rest first others fault so_far cut (inr memory) = inr memory

-- ---- what is read of a text

pub none_of : {X : Type 0} (o : Option X) → is_some o ≡ false → o ≡ None
none_of None h = refl
none_of (Some x) h = cc

mapped : {X Y : Type 0} (f : X → Y) (o : Option X) → is_some (option_map f o) ≡ is_some o
mapped f None = refl
mapped f (Some x) = refl

-- a slash in front adds a name that is empty
slash_some : (text : List ℕ) → is_some (read_names (codes "/" ++ text)) ≡ is_some (read_names text)
unfolding parts_spelled
slash_some text = mapped (λ ys. [] ∷ ys) (read_names text)

rooted_some : (text : List ℕ) → is_some (read_names (rooted text)) ≡ is_some (read_names text)
unfolding rooted
rooted_some text = go (is_rooted text)
  where
    go : (b : Bool) → is_some (read_names (if b then text else codes "/" ++ text)) ≡ is_some (read_names text)
    go true = refl
    go false = slash_some text

-- a text is a directory if its names are good
pub directory_some : (text : List ℕ) → is_some (read_directory text) ≡ is_some (read_names (without_closing_slashes text))
unfolding read_directory
directory_some text = mapped (λ names. rooted (without_closing_slashes text)) (read_names (rooted (without_closing_slashes text))) ∙ rooted_some (without_closing_slashes text)

pub directory_read : (text whole : List ℕ) (names : List (List PatternPart)) → whole ≡ rooted (without_closing_slashes text) → read_names whole ≡ Some names → read_directory text ≡ Some whole
unfolding read_directory
directory_read text whole names is reads = ap (λ o. option_map (λ ns. rooted (without_closing_slashes text)) o) (ap read_names (sym is) ∙ reads) ∙ ap Some (sym is)

pub directory_fault : (text whole : List ℕ) (fault : ElementFault) → whole ≡ rooted (without_closing_slashes text) → IsFaultOf (read_names whole) fault → IsFaultOf (read_directory text) fault
unfolding read_directory
directory_fault text whole fault is (inl (bad, none)) = inl (bad, ap (λ o. option_map (λ ns. rooted (without_closing_slashes text)) o) (ap read_names (sym is) ∙ none))
directory_fault text whole fault is (inr memory) = inr memory
