-- What is found for an option: flags, levels, numbers and lists.
use Rattle.std.specs.Prelude.{ℕ, Bool, ◌&&◌, List, [], nat_lt, nat_le, codes, Option, Some, None, unwrap_or, bytes_eq, if◌then◌else◌}
use Rattle.std.specs.Option.{option_eq, option_map_or}
use Rattle.clap.specs.Walk.{Row, Text, first_of}
use Rattle.follow_filters.specs.declared.limit.Limit.{Limit}
use Rattle.follow_filters.specs.declared.limit.Limit.TheVariants.{AtMost}
use Rattle.follow_filters.specs.Levels.{number_in, read_level}
use Rattle.follow_filters.specs.Lists.{read_list}

-- the flag is given
abbrev pub is_set : Text → List Row → Bool
is_set id found = option_eq bytes_eq (first_of id found) (Some (codes "true"))

-- the limit that the option sets, 5 if it isn't given; none if it is no level
unfoldable pub level_of : List Row → Option Limit
level_of found = option_map_or read_level (first_of (codes "level") found) (Some (AtMost 5))

-- ---- numbers

-- the number, from 1 to the most
abbrev pub number_within : ℕ → Option ℕ → Option ℕ
number_within most None = None
number_within most (Some n) = if nat_lt 0 n && nat_le n most then Some n else None

-- the number that an option gives, or the default if it isn't given; none if it is no number from 1 to the most
unfoldable pub number_given : Text → ℕ → ℕ → List Row → Option ℕ
number_given id most default found = option_map_or (λ text. number_within most (number_in text)) (first_of id found) (Some default)

-- what the elements of an option's list read as; an option that isn't given has none
unfoldable pub list_of : {X : Type 0} → (Text → Option X) → Text → List Row → Option (List X)
list_of read id found = read_list read (unwrap_or (first_of id found) [])
