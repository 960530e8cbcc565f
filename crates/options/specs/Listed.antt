-- What is read of words before they are known to be an order: the files that are read before a run, one whose addresses are starts too
-- and one of cookies, and whether nothing is to be printed (GNU Wget manual, chapters Logging and Input File Options, HTTP Options).
use Rattle.std.specs.Prelude.{Bool, false, List, Option, None, Some, codes, bytes_eq, option_map, string_bytes, if◌then◌else◌}
use Rattle.clap.specs.Walk.{Text}
use Rattle.options.specs.declared.listed.StartList.{StartList}
use Rattle.options.specs.declared.said.Saying.{Saying}
use Rattle.options.specs.Said.{sayings}
use Rattle.options.specs.Written.{value_from}

-- a file of starts: its path, whether it is HTML, and what its texts are relative to
pub record ListSaid : Type 0 where
  pub path : Text
  pub is_html : Bool
  pub base : Option Text

-- what a list says
abbrev pub list_said : StartList → ListSaid
list_said list = record { path = string_bytes list.path; is_html = list.is_html; base = option_map string_bytes list.base }

-- the value that counts of what is said of an option
abbrev pub last_said : Text → List (Saying Text) → Option Text
last_said name said = value_from name false None said

-- the option was put on last
abbrev pub is_on : Option Text → Bool
is_on None = false
is_on (Some value) = bytes_eq value (codes "on")

-- the file of starts that is named, if one is
abbrev pub list_in : List (Saying Text) → Option ListSaid
list_in said =
    option_map (λ path. record { path = path; is_html = is_on (last_said (codes "force-html") said); base = last_said (codes "base") said })
    (last_said (codes "input-file") said)

-- the file of starts that words name, if they name one
abbrev pub list_of_words : List Text → Option ListSaid
list_of_words words = list_in (sayings words)

-- the cookie file that is named, unless no cookies are sent
abbrev pub cookie_file_in : List (Saying Text) → Option Text
cookie_file_in said = if is_on (last_said (codes "no-cookies") said) then None else last_said (codes "load-cookies") said

-- the cookie file that words name, if they name one
abbrev pub cookie_file_of_words : List Text → Option Text
cookie_file_of_words words = cookie_file_in (sayings words)

-- words say that nothing is to be printed, whatever else is wrong with them
abbrev pub are_quiet : List Text → Bool
are_quiet words = is_on (last_said (codes "quiet") (sayings words))
