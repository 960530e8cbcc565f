-- Numbers of bytes a second, as they are written (GNU Wget manual, option `--limit-rate`).
use Rattle.std.specs.Prelude.{ℕ, ◌+◌, ◌*◌, ◌/◌, ◌&&◌, ◌==◌, List, Option, Some, None, length, nat_lt, option_and_then, if◌then◌else◌}
use Rattle.std.specs.List.{after_first, before_first}
use Rattle.pacing.specs.Sizes.{split_size}
use Rattle.pacing.specs.Spans.{digits_in, place_value}
use Rattle.pacing.specs.declared.size.TheConstants.{MAX_SIZE}

-- so many bytes a second, unless they are more than can be written
abbrev pub rate_within : ℕ → Option ℕ
rate_within rate = if nat_lt MAX_SIZE rate then None else Some rate

-- the bytes of a number of so many units, of which the parts are billionths, rounded up
abbrev pub bytes_in : ℕ → ℕ → ℕ → ℕ
bytes_in whole parts unit = whole * unit + (parts * unit + 999_999_999) / 1_000_000_000

-- the bytes a second of a number with these digits before and after its point, by a unit of so many bytes
abbrev pub rate_by : List ℕ → List ℕ → ℕ → Option ℕ
rate_by whole fraction unit =
    if length whole == 0 && length fraction == 0 then None
    else option_and_then (λ units. option_and_then (λ parts. option_and_then (λ place. rate_within (bytes_in units (parts * place) unit))
    (place_value (length fraction))) (digits_in fraction)) (digits_in whole)

-- the bytes a second of a number with a unit
abbrev pub rate_of : List ℕ × ℕ → Option ℕ
rate_of split = rate_by (before_first (λ byte. byte == 46) split.0) (after_first (λ byte. byte == 46) split.0) split.1

-- the bytes a second that a text writes, if it writes some
unfoldable pub rate_in : List ℕ → Option ℕ
rate_in text = rate_of (split_size text)
