-- What is kept of a value may be sent.
use Rattle.std.proofs.Common.{◌≡◌, Bool, true, false, Option, Some, None, refl, if◌then◌else◌}
use Rattle.std.specs.Option.{option_map_or}
use Rattle.requests.specs.Lines.{Text}
use Rattle.requests.specs.Conditions.{if_sendable, is_sendable}

pub kept_sendable : (value : Option Text) → option_map_or is_sendable (if_sendable value) true ≡ true
kept_sendable None = refl
kept_sendable (Some value) = go (is_sendable value) refl
  where
    go : (b : Bool) → is_sendable value ≡ b → option_map_or is_sendable (if b then Some value else None) true ≡ true
    go true e = e
    go false e = refl
