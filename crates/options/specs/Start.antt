-- START as it is typed: `http://` is put before what has no scheme.
use Rattle.std.specs.Prelude.{◌&&◌, ◌||◌, ◌==◌, ◌++◌, Bool, not, Ok, Err, Option, None, bytes_eq, codes, is_some, length, nat_le, if◌then◌else◌}
use Rattle.std.specs.Char.{is_ascii_digit}
use Rattle.std.specs.List.{after_first, before_first, list_all, list_any}
use Rattle.clap.specs.Walk.{Text}
use Rattle.percent_encoding.specs.Percent.{percent_decode}
use Rattle.url.specs.declared.slicing.Position.TheVariants.{AfterFragment, BeforeHost}
use Rattle.url.specs.Parser.{Parsed, parse_url}
use Rattle.url.specs.Parts.{Parts, has_credentials, text_between}
use Rattle.address.specs.declared.address.TheConstants.{MAX_ADDRESS}
use Rattle.requests.specs.Fields.{login_of}

-- what is before a path, a query, a fragment
abbrev pub before_path : Text → Text
before_path text = before_first (λ byte. byte == 47) text

abbrev pub before_query : Text → Text
before_query text = before_first (λ byte. byte == 63) text

abbrev pub before_fragment : Text → Text
before_fragment text = before_first (λ byte. byte == 35) text

-- digits, one at least
abbrev pub are_digits : Text → Bool
are_digits text = not (length text == 0) && list_all is_ascii_digit text

-- a host and its port: after a scheme there are no digits
abbrev pub is_pair : Text → Text → Bool
is_pair host port = not (length host == 0) && are_digits port

-- a host, or one with a port
abbrev pub is_bare : Text → Bool
is_bare front =
    if list_any (λ byte. byte == 58) front
    then is_pair (before_first (λ byte. byte == 58) front) (after_first (λ byte. byte == 58) front) else not (length front == 0)

-- a host is at the beginning, where otherwise a scheme or a slash is
abbrev pub lacks_scheme : Text → Bool
lacks_scheme text = is_bare (before_fragment (before_query (before_path text)))

-- a START with its scheme
unfoldable pub with_scheme : Text → Text
with_scheme text = if lacks_scheme text then codes "http://" ++ text else text

-- ---- user and password

-- a colon ends a user name (RFC 7617, section 2)
abbrev pub has_colon : Text → Bool
has_colon user = list_any (λ byte. byte == 58) user

abbrev pub is_web : Text → Bool
is_web scheme = bytes_eq scheme (codes "http") || bytes_eq scheme (codes "https")

-- the credentials for a user and a password that may have escapes, if they can be sent
abbrev pub escaped_login : Text → Text → Option Text
escaped_login user password =
    if has_colon (percent_decode user) then None else login_of (percent_decode user) (percent_decode password)

-- the credentials of a URL, if it has any that can be sent
abbrev pub login_of_url : Parts → Option Text
login_of_url url = if is_web url.scheme && has_credentials url then escaped_login url.username url.password else None

-- the text of a URL without user and password
abbrev pub plain_url : Parts → Text
plain_url url = url.scheme ++ (codes "://" ++ text_between url BeforeHost AfterFragment)

-- a longer text is no address
abbrev pub is_short : Text → Bool
is_short text = nat_le (length text) MAX_ADDRESS

abbrev pub login_of_parsed : Parsed Parts → Option Text
login_of_parsed (Err e) = None
login_of_parsed (Ok url) = login_of_url url

abbrev pub plain_of_parsed : Text → Parsed Parts → Text
plain_of_parsed text (Err e) = text
plain_of_parsed text (Ok url) = if is_some (login_of_url url) then plain_url url else text

-- the credentials of a START with its scheme
unfoldable pub login_in : Text → Option Text
login_in text = if is_short text then login_of_parsed (parse_url None text) else None

-- it without them
unfoldable pub without_login : Text → Text
without_login text = if is_short text then plain_of_parsed text (parse_url None text) else text

-- a START that is typed: with its scheme, and without user and password
abbrev pub typed : Text → Text
typed text = without_login (with_scheme text)

-- its credentials
abbrev pub typed_login : Text → Option Text
typed_login text = login_in (with_scheme text)
