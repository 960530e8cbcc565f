-- Numbers of bytes, as they are written (GNU Wget manual, option `--quota`).
use Rattle.std.specs.Prelude.{ℕ, ◌*◌, ◌==◌, ◌||◌, List, Option, Some, None, nat_lt, option_and_then, if◌then◌else◌}
use Rattle.std.specs.Option.{option_map_or}
use Rattle.pacing.specs.Spans.{cut_by, digits_in}
use Rattle.pacing.specs.declared.size.TheConstants.{MAX_SIZE}

-- a number, and how many bytes its unit has: `k`, `m`, `g`, or none, which is a byte
abbrev pub split_size : List ℕ → List ℕ × ℕ
split_size text =
    option_map_or (λ number. (number, 1_024)) (cut_by 107 text)
    (option_map_or (λ number. (number, 1_048_576)) (cut_by 109 text)
    (option_map_or (λ number. (number, 1_073_741_824)) (cut_by 103 text) (text, 1)))

-- so many bytes, unless they are none or more than can be written
abbrev pub size_within : ℕ → Option ℕ
size_within size = if size == 0 || nat_lt MAX_SIZE size then None else Some size

-- the number of bytes that a text writes, if it writes one
unfoldable pub size_in : List ℕ → Option ℕ
size_in text = option_and_then (λ number. size_within (number * (split_size text).1)) (digits_in (split_size text).0)
