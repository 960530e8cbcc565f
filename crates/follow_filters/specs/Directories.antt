-- Directories, and the directories below them (GNU Wget manual, section Directory-Based Limits).
use Rattle.std.specs.Prelude.{◌≡◌, ◌≢◌, ℕ, ◌-◌, Bool, true, false, ◌&&◌, ◌||◌, ◌==◌, List, [], ◌∷◌, ◌++◌, take, length, codes, nat_eq, Option, Some, None, option_map, if◌then◌else◌}
use Rattle.std.specs.List.{AllZip, starts_with, slice_split, suffix_len}
use Rattle.part_match.specs.Cuts.{Matches, is_match}
use Rattle.follow_filters.specs.declared.pattern.PatternPart.{PatternPart}
use Rattle.follow_filters.specs.Patterns.{is_run, takes_in, parts_spelled}
use Rattle.follow_filters.specs.Lists.{read_all}

abbrev pub is_slash : ℕ → Bool
is_slash byte = byte == 47

-- what is between the slashes of a text, before the first and after the last
abbrev pub names_in : List ℕ → List (List ℕ)
names_in text = slice_split is_slash text

-- the parts that an element's names spell, none if one is bad; no part matches a slash, since no name has one
abbrev pub read_names : List ℕ → Option (List (List PatternPart))
read_names element = read_all parts_spelled (names_in element)

-- the directory's names begin with names that the element's match one by one, and more follow: it is a directory of the
-- element, or below one. The case of letters is ignored or not.
abbrev pub IsInDirectory : Bool → List ℕ → List ℕ → Type 0
IsInDirectory ignores_case element directory =
    (names : List (List PatternPart)) × (front rest : List (List ℕ)) × (read_names element ≡ Some names)
    × (names_in directory ≡ front ++ rest) × (rest ≢ []) × AllZip (Matches is_run (takes_in ignores_case)) names front

-- ---- the same as a test

-- the names match the first of those one by one, and more follow
abbrev pub begins_with_names : Bool → List (List PatternPart) → List (List ℕ) → Bool
begins_with_names ignores_case [] [] = false
begins_with_names ignores_case [] (first ∷ others) = true
begins_with_names ignores_case (name ∷ names) [] = false
begins_with_names ignores_case (name ∷ names) (first ∷ others) =
    is_match is_run (takes_in ignores_case) name first && begins_with_names ignores_case names others

-- the same of the names that were read
abbrev pub begins_with_read : Bool → Option (List (List PatternPart)) → List (List ℕ) → Bool
begins_with_read ignores_case None directory = false
begins_with_read ignores_case (Some names) directory = begins_with_names ignores_case names directory

unfoldable pub is_in_directory : Bool → List ℕ → List ℕ → Bool
is_in_directory ignores_case element directory = begins_with_read ignores_case (read_names element) (names_in directory)

-- ---- how a directory is written

-- the text without the slashes at its end
unfoldable pub without_closing_slashes : List ℕ → List ℕ
without_closing_slashes text = take (length text - suffix_len (λ b. b == 47) text) text

-- the text is empty or begins with a slash
abbrev pub is_rooted : List ℕ → Bool
is_rooted text = length text == 0 || starts_with nat_eq text (codes "/")

-- the text with the slash that it may lack in front
unfoldable pub rooted : List ℕ → List ℕ
rooted text = if is_rooted text then text else codes "/" ++ text

-- the directory that a text is, from its leading slash to its last name, none if one of its names is bad
unfoldable pub read_directory : List ℕ → Option (List ℕ)
read_directory text = option_map (λ names. rooted (without_closing_slashes text)) (read_names (rooted (without_closing_slashes text)))
