-- What shapes names, as the options say it (GNU Wget manual, chapters Directory Options, HTTP Options and Download Options).
use Rattle.std.specs.Prelude.{◌&&◌, ◌||◌, ◌==◌, ℕ, Bool, true, false, not, List, [], ◌∷◌, Option, Some, None, bytes_eq, codes, length, nat_lt, option_and_then, option_map, string_bytes, if◌then◌else◌}
use Rattle.std.specs.List.{list_any}
use Rattle.std.specs.Option.{option_map_or}
use Rattle.clap.specs.Walk.{Row, Text, first_of}
use Rattle.follow_filters.specs.Levels.{number_in}
use Rattle.local_names.specs.Rules.{usual_chars}
use Rattle.local_names.specs.declared.rules.CharRules.{CharRules}
use Rattle.local_names.specs.declared.rules.LetterCase.TheVariants.{Lower, Upper}
use Rattle.options.specs.Given.{is_set, list_of}
use Rattle.options.specs.declared.naming.Mode.{Mode}
use Rattle.options.specs.declared.naming.Mode.TheVariants as mode
use Rattle.options.specs.declared.naming.PageNames.{PageNames}

-- what the options say of names, field by field
pub record Naming : Type 0 where
  pub has_directories : Bool
  pub has_protocol : Bool
  pub has_host : Bool
  pub cut_dirs : ℕ
  pub default_page : Option Text
  pub chars : CharRules
  pub has_originals : Bool
  pub has_endings : Bool

-- what is said of how files are named
abbrev pub naming_by : PageNames → Naming
naming_by names = record {
  has_directories = names.rules.has_directories;
  has_protocol = names.rules.has_protocol;
  has_host = names.rules.has_host;
  cut_dirs = names.rules.cut_dirs;
  default_page = option_map string_bytes names.rules.default_page;
  chars = names.rules.chars;
  has_originals = names.rules.has_originals;
  has_endings = names.has_endings;
}

-- ---- directories that are left out

-- so many, none if the option isn't given; nothing if its value is no number
unfoldable pub cut_by : Option Text → Option ℕ
cut_by value = option_map_or number_in value (Some 0)

-- ---- the name of a page whose path ends in `/`

-- a slash, or a control byte
abbrev pub is_unsafe : ℕ → Bool
is_unsafe byte = byte == 47 || nat_lt byte 32 || byte == 127

-- the name is that of a file in its directory
abbrev pub is_file_name : Text → Bool
is_file_name name = not (length name == 0 || bytes_eq name (codes ".") || bytes_eq name (codes "..") || list_any is_unsafe name)

-- the name that a value gives, if it gives one; nothing if it is no name of a file
unfoldable pub page_by : Option Text → Option (Option Text)
page_by None = Some None
page_by (Some name) = if is_file_name name then Some (Some name) else None

-- ---- characters

-- a mode as it is written
unfoldable pub read_mode : Text → Option Mode
read_mode text =
    if bytes_eq text (codes "unix") then Some mode.Unix
    else (if bytes_eq text (codes "windows") then Some mode.Windows
    else (if bytes_eq text (codes "nocontrol") then Some mode.NoControl
    else (if bytes_eq text (codes "ascii") then Some mode.Ascii
    else (if bytes_eq text (codes "lowercase") then Some mode.Lowercase
    else (if bytes_eq text (codes "uppercase") then Some mode.Uppercase else None)))))

-- the characters with this mode; control bytes stay escaped whatever the mode
abbrev pub with_mode : CharRules → Mode → CharRules
with_mode chars mode.Unix = record chars { is_windows = false }
with_mode chars mode.Windows = record chars { is_windows = true }
with_mode chars mode.NoControl = chars
with_mode chars mode.Ascii = record chars { is_ascii = true }
with_mode chars mode.Lowercase = record chars { letter_case = Lower }
with_mode chars mode.Uppercase = record chars { letter_case = Upper }

-- the characters with these modes: of two that decide one thing the last counts
abbrev pub with_modes : CharRules → List Mode → CharRules
with_modes chars [] = chars
with_modes chars (mode ∷ modes) = with_modes (with_mode chars mode) modes

-- the characters that the options choose; nothing if a mode isn't known
unfoldable pub chars_of : List Row → Option CharRules
chars_of found = option_map (with_modes usual_chars) (list_of read_mode (codes "restrict-file-names") found)

-- ---- all of it

-- names end as the kinds of bodies say if either name of the option is said
abbrev pub has_endings : List Row → Bool
has_endings found = is_set (codes "adjust-extension") found || is_set (codes "html-extension") found

-- the bodies of files whose links change are kept beside them, which needs both options
abbrev pub has_originals : List Row → Bool
has_originals found = is_set (codes "convert-links") found && is_set (codes "backup-converted") found

-- the directories are those of the address, unless options say otherwise
abbrev pub naming : List Row → ℕ → Option Text → CharRules → Naming
naming found cut page chars = record {
  has_directories = not (is_set (codes "no-directories") found);
  has_protocol = is_set (codes "protocol-directories") found;
  has_host = not (is_set (codes "no-host-directories") found);
  cut_dirs = cut;
  default_page = page;
  chars = chars;
  has_originals = has_originals found;
  has_endings = has_endings found;
}

-- what the options say of names; nothing if a value can't be
unfoldable pub naming_of : List Row → Option Naming
naming_of found =
    option_and_then (λ cut. option_and_then (λ chars. option_map (λ page. naming found cut page chars)
    (page_by (first_of (codes "default-page") found))) (chars_of found)) (cut_by (first_of (codes "cut-dirs") found))
