-- The request for an address (RFC 9112, section 3.2), with what a run says besides.
use Rattle.std.specs.Prelude.{◌≡◌, ◌++◌, ◌||◌, ℕ, Bool, true, false, not, List, [], ◌∷◌, Option, Some, None, is_some, bytes_eq, codes, if◌then◌else◌}
use Rattle.std.specs.List.{Contains, list_any}
use Rattle.address.specs.Address.{AddressText, OriginText, authority_of, host_of, origin_of, scheme_of}
use Rattle.cookie_files.specs.Lines.{Cookie}
use Rattle.cookie_files.specs.Matches.{Goes, asked_of, sent, some_value}
use Rattle.response_reader.specs.Request.{target_by}
use Rattle.requests.specs.Conditions.{Condition, IsSendable, condition_at, condition_lines}
use Rattle.requests.specs.Fields.{Sent}
use Rattle.requests.specs.Lines.{Text}
use Rattle.requests.specs.Proxies.{Proxies, Proxy, proxy_for}

-- the origin of a start, and the credentials that the start has
pub record Home : Type 0 where
  pub origin : OriginText
  pub login : Option Text

abbrev pub home_of : AddressText → Option Text → Home
home_of start login = record { origin = origin_of start; login = login }

abbrev pub has_login : Home → Bool
has_login home = is_some home.login

-- the cookies of a file, and the time by which they are too old, in seconds since 1970
pub record Jar : Type 0 where
  pub cookies : List Cookie
  pub time : ℕ

-- what a run sends, the origins of its starts, the cookies of a file if there is one, the proxies, and the condition of the next request
pub record Sending : Type 0 where
  pub sent : Sent
  pub homes : List Home
  pub jar : Option Jar
  pub proxies : Proxies
  pub condition : Option Condition

-- the host and port of the address, or what is sent in their place
abbrev pub host_by : Option Text → AddressText → Text
host_by None at = authority_of at
host_by (Some host) at = host

-- the address is at an origin of a start
abbrev pub is_home : List Home → AddressText → Bool
is_home homes at = list_any (λ home. bytes_eq home.origin (origin_of at)) homes

-- the first of these that is there
abbrev pub or_login : Option Text → Option Text → Option Text
or_login None other = other
or_login (Some login) other = Some login

-- the credentials of a start, if the address is at its origin
abbrev pub login_here : Home → AddressText → Option Text
login_here home at = if bytes_eq home.origin (origin_of at) then home.login else None

-- those of the first start at the address's origin that has any
abbrev pub login_at : List Home → AddressText → Option Text
login_at [] at = None
login_at (home ∷ homes) at = or_login (login_here home at) (login_at homes at)

-- the credentials for an address: at an origin of a start those of the start, or else those for all of them, unless a line has others
abbrev pub login_for : Sending → AddressText → Option Text
login_for sending at =
    if sending.sent.signs || not (is_home sending.homes at) then None else or_login (login_at sending.homes at) sending.sent.login

-- their line (RFC 9110, section 11.6.2)
abbrev pub login_line : Option Text → Text
login_line None = []
login_line (Some login) = codes "Authorization: " ++ (login ++ codes "\r\n")

-- secret lines go to origins of starts, and to no other
abbrev pub secret_for : Sending → AddressText → Text
secret_for sending at = if is_home sending.homes at then sending.sent.secret else []

-- the field about the connection: it is to close after the response, unless it is kept (RFC 9112, sections 9.3 and 9.6)
abbrev pub closing : Bool → Text
closing true = []
closing false = codes "Connection: close\r\n"

-- ---- cookies of a file

-- those that a request for the address holds (RFC 6265, section 5.4)
abbrev pub cookies_in : Option Jar → AddressText → List Cookie
cookies_in None at = []
cookies_in (Some jar) at = sent (asked_of at) jar.time jar.cookies

-- none if a line has others
abbrev pub cookies_for : Sending → AddressText → List Cookie
cookies_for sending at = if sending.sent.has_cookie then [] else cookies_in sending.jar at

-- their line (section 4.2.1), if there are any
abbrev pub cookie_line : Option Text → Text
cookie_line None = []
cookie_line (Some value) = codes "Cookie: " ++ (value ++ codes "\r\n")

-- a cookie is in the file, and goes there at that time: its host and its path are those, and so on
abbrev pub IsThere : Jar → AddressText → Cookie → Type 0
IsThere jar at cookie = Contains jar.cookies cookie × Goes (asked_of at) jar.time cookie

-- cookies of the file go where it says, and nowhere else
abbrev pub GoWhereNamed : Sending → AddressText → Type 0
GoWhereNamed sending at = (cookie : Cookie) → Contains (cookies_for sending at) cookie → (jar : Jar) × (sending.jar ≡ Some jar) × IsThere jar at cookie

-- ---- conditions

-- that of a request for the address, unless a line has another
abbrev pub condition_for : Sending → AddressText → Option Condition
condition_for sending at = if sending.sent.has_condition then None else condition_at sending.condition at

-- it is of this very page, and its values may be sent
pub record IsOf (at : AddressText) (condition : Condition) : Type 0 where
  pub page : condition.at ≡ at
  pub sendable : IsSendable condition

-- a request has no condition of another page
abbrev pub HasNoOther : Sending → AddressText → Type 0
HasNoOther sending at = (condition : Condition) → condition_for sending at ≡ Some condition → IsOf at condition

-- ---- proxies

-- the proxy that is used for an address, if one is
abbrev pub proxy_at : Sending → AddressText → Option Proxy
proxy_at sending at = proxy_for sending.proxies (scheme_of at) (host_of at)

-- what is requested: of a proxy the whole address (RFC 9112, section 3.2.2), of a server path and query (section 3.2.1). There is no
-- connection to a server of https
abbrev pub target_at : Option Proxy → AddressText → Text
target_at None at = target_by (scheme_of at) at
target_at (Some proxy) at = at

-- the line of its credentials (RFC 9110, section 11.7.2), if there are any
abbrev pub proxy_login_line : Option Text → Text
proxy_login_line None = []
proxy_login_line (Some login) = codes "Proxy-Authorization: " ++ (login ++ codes "\r\n")

-- a proxy's go to it, and none to a server
abbrev pub proxy_line : Option Proxy → Text
proxy_line None = []
proxy_line (Some proxy) = proxy_login_line proxy.login

-- ---- the head

-- a GET of the address: host, the lines to each server, those to origins of starts if it is at one, credentials first, those for a
-- proxy if one is asked, and the connection
abbrev pub front_of : Sending → Bool → AddressText → Text
front_of sending keeps at =
    codes "GET " ++ (target_at (proxy_at sending at) at ++ (codes " HTTP/1.1\r\nHost: " ++ (host_by sending.sent.host at
    ++ (codes "\r\n" ++ (sending.sent.common ++ (login_line (login_for sending at) ++ (secret_for sending at ++ (proxy_line (proxy_at sending at) ++ closing keeps))))))))

-- the same with the cookies of a file and the condition, in one head
abbrev pub request_of : Sending → Bool → AddressText → Text
request_of sending keeps at = front_of sending keeps at ++ (cookie_line (some_value (cookies_for sending at)) ++ (condition_lines (condition_for sending at) ++ codes "\r\n"))
