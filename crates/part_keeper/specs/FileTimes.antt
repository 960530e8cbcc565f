-- Which time the file of a page gets (RFC 9110, section 8.8.2).
use Rattle.std.specs.Prelude.{ℕ, Bool, List, Option, Some, None, if◌then◌else◌, nat_lt, option_and_then}
use Rattle.httpdate.specs.Date.{parse_secs}
use Rattle.part_keeper.specs.declared.file_time.TheConstants.{END_OF_TIMES}

-- a time that a file gets
abbrev pub storable : ℕ → Option ℕ
storable seconds = if nat_lt seconds END_OF_TIMES then Some seconds else None

-- the seconds since 1970 that a Last-Modified says, in one of the three formats of a date (RFC 9110, section 5.6.7)
abbrev pub time_of : List ℕ → Option ℕ
time_of last_modified = option_and_then storable (parse_secs last_modified)

-- the time that the file of a page gets whose response has this Last-Modified, if it has one
abbrev pub time_said : Bool → Option (List ℕ) → Option ℕ
time_said takes_times last_modified = if takes_times then option_and_then time_of last_modified else None
