-- File names that may be followed whatever the accept and reject lists say (GNU Wget manual, section Types of Files).
use Rattle.std.specs.Prelude.{◌≡◌, ◌⊎◌, ℕ, Bool, ◌||◌, List, [], codes, nat_eq, bytes_eq}
use Rattle.std.specs.List.{ends_with}
use Rattle.follow_filters.specs.Texts.{EndsIn}

-- the file name is empty or ends in `.htm` or `.html`
abbrev pub IsExempt : List ℕ → Type 0
IsExempt file = (file ≡ []) ⊎ EndsIn file (codes ".htm") ⊎ EndsIn file (codes ".html")

-- the same as a test
abbrev pub is_exempt_file : List ℕ → Bool
is_exempt_file file = bytes_eq file [] || (ends_with nat_eq file (codes ".htm") || ends_with nat_eq file (codes ".html"))
