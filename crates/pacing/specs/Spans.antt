-- Lengths of time, as they are written (GNU Wget manual, option `--wait`).
use Rattle.std.specs.Prelude.{ℕ, ◌+◌, ◌-◌, ◌*◌, ◌^◌, ◌&&◌, ◌==◌, List, Option, Some, None, length, nat_lt, take, slice_index, option_and_then, if◌then◌else◌}
use Rattle.std.specs.List.{after_first, before_first, list_all}
use Rattle.std.specs.Option.{option_map_or}
use Rattle.std.specs.Char.{is_ascii_digit}
use Rattle.std.specs.Str.Parse.{digits_value}
use Rattle.pacing.specs.declared.span.TheConstants.{MAX_SPAN}

-- the number that digits write, 0 if there are none; nothing if it takes more than 64 bits
abbrev pub digits_in : List ℕ → Option ℕ
digits_in text =
    if list_all is_ascii_digit text && nat_lt (digits_value 10 text) (2 ^ 64) then Some (digits_value 10 text) else None

-- the nanoseconds of the last of so many decimal places of a second; there are nine at most
abbrev pub place_value : ℕ → Option ℕ
place_value places = if nat_lt 9 places then None else Some (10 ^ (9 - places))

-- so many nanoseconds, unless they are more than a length of time may have
abbrev pub within : ℕ → Option ℕ
within nanos = if nat_lt MAX_SPAN nanos then None else Some nanos

-- the nanoseconds of a number with these digits before and after its point, by a unit of so many seconds
abbrev pub span_by : List ℕ → List ℕ → ℕ → Option ℕ
span_by whole fraction unit =
    if length whole == 0 && length fraction == 0 then None
    else option_and_then (λ seconds. option_and_then (λ parts. option_and_then (λ place. within ((seconds * 1_000_000_000 + parts * place) * unit))
    (place_value (length fraction))) (digits_in fraction)) (digits_in whole)

-- what is before a unit, if the text ends with it
abbrev pub cut_by : ℕ → List ℕ → Option (List ℕ)
cut_by unit text = if slice_index text (length text - 1) == unit then Some (take (length text - 1) text) else None

-- a number, and how many seconds its unit has: `s`, `m`, `h`, `d`, or none, which is `s`
abbrev pub split_unit : List ℕ → List ℕ × ℕ
split_unit text =
    option_map_or (λ number. (number, 1)) (cut_by 115 text)
    (option_map_or (λ number. (number, 60)) (cut_by 109 text)
    (option_map_or (λ number. (number, 3_600)) (cut_by 104 text)
    (option_map_or (λ number. (number, 86_400)) (cut_by 100 text) (text, 1))))

-- the nanoseconds of a number with a unit of so many seconds
abbrev pub span_of : List ℕ × ℕ → Option ℕ
span_of split = span_by (before_first (λ byte. byte == 46) split.0) (after_first (λ byte. byte == 46) split.0) split.1

-- the nanoseconds that a text writes, if it writes a length of time
unfoldable pub span_in : List ℕ → Option ℕ
span_in text = span_of (split_unit text)
