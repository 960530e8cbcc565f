-- Wildcards (GNU Wget manual, section Types of Files).
use Rattle.std.specs.Prelude.{ℕ, Bool, ◌||◌, ◌==◌}

-- the byte is `*`, `?`, `[` or `]`
abbrev pub is_wildcard : ℕ → Bool
is_wildcard byte = byte == 42 || byte == 63 || byte == 91 || byte == 93
