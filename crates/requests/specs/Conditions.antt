-- Conditions of requests (RFC 9110, section 13.1): a page is sent only if it isn't the one that is kept.
use Rattle.std.specs.Prelude.{◌≡◌, ◌&&◌, ◌||◌, ◌==◌, ◌++◌, Bool, true, not, [], Option, Some, None, bytes_eq, codes, is_some, length, nat_le, if◌then◌else◌}
use Rattle.std.specs.Option.{option_map_or}
use Rattle.address.specs.Address.{AddressText}
use Rattle.requests.specs.Lines.{Text, is_clean}
use Rattle.requests.specs.declared.line.TheConstants.{MAX_FIELD_LINE}

-- what the server said of the page that is kept: its tag, and when it was last changed
pub record Condition : Type 0 where
  pub at : AddressText
  pub tag : Option Text
  pub since : Option Text

-- a value that may be sent as it came: it isn't empty, has no control byte, and isn't too long
abbrev pub is_sendable : Text → Bool
is_sendable value = not (length value == 0) && (is_clean value && nat_le (length value) MAX_FIELD_LINE)

abbrev pub if_sendable : Option Text → Option Text
if_sendable None = None
if_sendable (Some value) = if is_sendable value then Some value else None

-- a condition that says something
abbrev pub some_condition : AddressText → Option Text → Option Text → Option Condition
some_condition at tag since = if is_some tag || is_some since then Some (record { at = at; tag = tag; since = since }) else None

-- that of the page at an address which came with these values of `ETag` and `Last-Modified`
abbrev pub condition_of : AddressText → Option Text → Option Text → Option Condition
condition_of at etag modified = some_condition at (if_sendable etag) (if_sendable modified)

-- both values may be sent
pub record IsSendable (condition : Condition) : Type 0 where
  pub tag : option_map_or is_sendable condition.tag true ≡ true
  pub since : option_map_or is_sendable condition.since true ≡ true

-- it, if it is of the page at this address
abbrev pub condition_at : Option Condition → AddressText → Option Condition
condition_at None at = None
condition_at (Some condition) at = if bytes_eq condition.at at then Some condition else None

-- its lines (sections 13.1.2 and 13.1.3)
abbrev pub tag_line : Option Text → Text
tag_line None = []
tag_line (Some tag) = codes "If-None-Match: " ++ (tag ++ codes "\r\n")

abbrev pub since_line : Option Text → Text
since_line None = []
since_line (Some date) = codes "If-Modified-Since: " ++ (date ++ codes "\r\n")

abbrev pub condition_lines : Option Condition → Text
condition_lines None = []
condition_lines (Some condition) = tag_line condition.tag ++ since_line condition.since
