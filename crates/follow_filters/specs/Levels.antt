-- Numbers and levels, as they are written (GNU Wget manual, option `--level`).
use Rattle.std.specs.Prelude.{ℕ, ◌^◌, slice_index, Bool, ◌&&◌, ◌==◌, List, length, nat_lt, codes, Option, Some, None, bytes_eq, if◌then◌else◌}
use Rattle.std.specs.List.{list_all}
use Rattle.std.specs.Char.{digit_value}
use Rattle.std.specs.Str.Parse.{digits_value, without_leading_plus}
use Rattle.follow_filters.specs.declared.limit.Limit.{Limit}
use Rattle.follow_filters.specs.declared.limit.Limit.TheVariants.{AtMost, Unlimited}
use Rattle.follow_filters.specs.declared.limit.TheConstants.{MAX_LEVEL}

-- one or more decimal digits, whose number fits 32 bits
abbrev pub is_level_number : List ℕ → Bool
is_level_number digits =
    nat_lt 0 (length digits) && list_all (λ d. nat_lt (digit_value d) 10) digits
    && nat_lt (digits_value 10 digits) (2 ^ 32)

-- the number that a text is: decimal digits, perhaps after a `+`
unfoldable pub number_in : List ℕ → Option ℕ
number_in text =
    if is_level_number (without_leading_plus text) then Some (digits_value 10 (without_leading_plus text))
    else None

-- the limit of a level: 0 is none, and a level has a most
abbrev pub limit_of_level : Option ℕ → Option Limit
limit_of_level None = None
limit_of_level (Some level) =
    if nat_lt MAX_LEVEL level then None else (if level == 0 then Some Unlimited else Some (AtMost level))

-- a level as it is written: `inf`, or decimal digits without a `+`
unfoldable pub read_level : List ℕ → Option Limit
read_level text =
    if bytes_eq text (codes "inf") then Some Unlimited
    else (if slice_index text 0 == 43 then None else limit_of_level (number_in text))
