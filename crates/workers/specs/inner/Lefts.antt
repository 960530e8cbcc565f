-- What is left of a quota.
use Rattle.std.specs.Prelude.{◌≡◌, ◌+◌, ℕ, Option, Some, None}

-- so many bytes are left of the quota, if there is one, after these
abbrev pub IsLeft : Option ℕ → ℕ → ℕ → Type 0
IsLeft None bytes left = Unit {0}
IsLeft (Some most) bytes left = left + bytes ≡ most
