-- What the words order, or why they are refused: one function of the words.
use Rattle.std.specs.Prelude.{◌≡◌, ◌⊎◌, ◌==◌, ℕ, length, option_and_then, Bool, true, false, not, ◌&&◌, ◌||◌, List, [], ◌∷◌, ◌++◌, codes, Option, Some, None, is_some, nat_eq, nat_lt, unwrap_or, bytes_eq, drop, map, option_map, Result, Ok, Err, MatchResult, if◌then◌else◌}
use Rattle.std.specs.Char.{is_ascii_digit}
use Rattle.std.specs.List.{list_all, list_any, starts_with}
use Rattle.clap.specs.Kinds.{Kinds}
use Rattle.clap.specs.Walk.{Row, Text, first_of}
use Rattle.address.specs.Address.{read_address, read_either, host_of, origin_of, path_query_of, scheme_of, is_robots_file}
use Rattle.address.specs.declared.fault.AddressFault.{AddressFault}
use Rattle.address.specs.declared.fault.AddressFault.TheVariants.{UserInfo}
use Rattle.address.specs.declared.scheme.Scheme.{Scheme}
use Rattle.address.specs.declared.scheme.Scheme.TheVariants.{Http, Https}
use Rattle.follow_filters.specs.declared.limit.Limit.{Limit}
use Rattle.follow_filters.specs.declared.limit.Limit.TheVariants.{AtMost}
use Rattle.follow_filters.specs.declared.plan.TheConstants.{MAX_PER_HOST, MAX_URLS}
use Rattle.follow_filters.specs.Domains.{read_domain}
use Rattle.follow_filters.specs.Directories.{read_directory}
use Rattle.follow_filters.specs.Patterns.{read_element}
use Rattle.html_links.specs.Rules.{has_unknown, taken_by}
use Rattle.html_links.specs.declared.rules.LinkRules.{LinkRules}
use Rattle.html_links.specs.declared.rules.RowSet.{RowSet}
use Rattle.options.specs.declared.order.TheConstants.{DEFAULT_MAX_URLS, DEFAULT_PER_HOST, DEFAULT_WORKERS, MAX_WORKERS}
use Rattle.options.specs.declared.order.Source.{Source}
use Rattle.options.specs.declared.order.Source.TheVariants.{Map, Recorded, Live}
use Rattle.options.specs.declared.order.Log.{Log}
use Rattle.options.specs.declared.order.Order.{Order}
use Rattle.options.specs.declared.order.Upkeep.{Upkeep}
use Rattle.options.specs.declared.fault.LineFault.{LineFault}
use Rattle.options.specs.declared.fault.LineFault.TheVariants as fault
use Rattle.options.specs.Asked.{refusal_of, without_kind, words_refused}
use Rattle.options.specs.Line.{rows, refusals}
use Rattle.options.specs.Given.{is_set, level_of, number_given, list_of}
use Rattle.pacing.specs.Manners.{Mannered, mannered}
use Rattle.options.specs.Manners.{manner_of, quota_by}
use Rattle.pacing.specs.Retries.{Retried, retries_by}
use Rattle.options.specs.Retries.{retries_of}
use Rattle.options.specs.Naming.{Naming, naming_by, naming_of}
use Rattle.options.specs.Sought.{IsUnsaid, expressions_by, is_type}
use Rattle.requests.specs.Fields.{Sent, login_of as login_value_of, read_fields}
use Rattle.requests.specs.declared.fields.FieldsFault.{FieldsFault}
use Rattle.requests.specs.declared.fields.FieldsFault.TheVariants as unsent
use Rattle.requests.specs.Proxies.{Proxies, Proxy, proxies_of as proxies_with}
use Rattle.requests.specs.Requests.{Home, Sending, home_of}
use Rattle.options.specs.declared.said.Saying.{Saying}
use Rattle.options.specs.Said.{sayings}
use Rattle.options.specs.Start.{has_colon, typed, typed_login}
use Rattle.options.specs.Written.{SayTheSame, first_unread, others_in, starts_in, written}

-- ---- words that `clap` takes and that are refused all the same

-- no encoding of bodies is requested: `--compression` isn't given, or its value is `none`
abbrev pub is_plain_value : Option Text → Bool
is_plain_value None = true
is_plain_value (Some value) = bytes_eq value (codes "none")

-- what becomes of what earlier runs left
unfoldable pub upkeep_of : List Row → Upkeep
upkeep_of found =
    record { timestamps = is_set (codes "timestamping") found; skips = is_set (codes "no-clobber") found; continues = is_set (codes "continue") found; deletes_gone = is_set (codes "delete-gone") found }

-- it can all be so, perhaps with a record: pages aren't both requested and not, no record is resumed or saved beside, and what is gone is known
abbrev pub agrees : Bool → Upkeep → Bool
agrees has_record u = not (u.timestamps && u.skips) && not (has_record && (u.timestamps || u.skips || u.continues)) && (not u.deletes_gone || u.timestamps || u.skips)

-- `--compression` and `--regex-type` have values that they may have, what becomes of what earlier runs left can be so, and what failed is
-- requested again of a record that is resumed
unfoldable pub are_good : List Row → Bool
are_good found =
    is_plain_value (first_of (codes "compression") found) && is_type (first_of (codes "regex-type") found)
    && agrees (is_some (first_of (codes "resume") found) || is_some (first_of (codes "save") found)) (upkeep_of found)
    && (not (is_set (codes "retry-failed") found) || is_some (first_of (codes "resume") found))

-- ---- which links of pages are taken

-- what is taken by the two lists of elements, unless one names an attribute that has no link
abbrev pub taken_if : Text → Text → Option RowSet
taken_if followed ignored = if has_unknown followed || has_unknown ignored then None else Some (taken_by followed ignored)

-- where links of pages are taken from
unfoldable pub rows_taken : List Row → Option RowSet
rows_taken found = taken_if (unwrap_or (first_of (codes "follow-tags") found) []) (unwrap_or (first_of (codes "ignore-tags") found) [])

-- ---- the order

-- what an order says, field by field
pub record Ordered : Type 0 where
  pub start : List ℕ
  pub others : List (List ℕ)
  pub logins : List (Option Text)
  pub limit : Limit
  pub span_hosts : Bool
  pub no_parent : Bool
  pub domains : List (List ℕ)
  pub exclude_domains : List (List ℕ)
  pub include_dirs : List (List ℕ)
  pub exclude_dirs : List (List ℕ)
  pub accept : List (List ℕ)
  pub reject : List (List ℕ)
  pub accept_expressions : List (List ℕ)
  pub reject_expressions : List (List ℕ)
  pub ignore_case : Bool
  pub robots : Bool
  pub page_requisites : Bool
  pub span_requisites : Bool
  pub max_urls : ℕ
  pub per_host : ℕ
  pub workers : ℕ
  pub links : LinkRules
  pub keeps_connections : Bool
  pub source : Source
  pub quota : Option ℕ
  pub trace : Bool
  pub quiet : Bool
  pub log : Option (Text × Bool)
  pub prefix : List ℕ
  pub names : Naming
  pub converts : Bool
  pub backs_up : Bool
  pub takes_times : Bool
  pub upkeep : Upkeep
  pub fields : Sent
  pub manner : Mannered
  pub retries : Retried
  pub proxies : Proxies
  pub trusts : Bool
  pub resume : Option Text
  pub retries_failed : Bool
  pub save : Option Text
  pub rejected_log : Option Text

-- the value that was found, or the fault, and what follows from it
abbrev pub found_or : {X Y : Type 0} → Option X → LineFault → (X → Result Y LineFault) → Result Y LineFault
found_or None unless next = Err unless
found_or (Some x) unless next = next x

-- both values, if both were found
abbrev pub both : {X Y : Type 0} → Option X → Option Y → Option (X × Y)
both None second = None
both (Some x) None = None
both (Some x) (Some y) = Some (x, y)

-- the patterns of the accept and the reject list
unfoldable pub patterns_of : List Row → Option (List (List ℕ) × List (List ℕ))
patterns_of found = both (list_of read_element (codes "accept") found) (list_of read_element (codes "reject") found)

-- the directories that are included and excluded
unfoldable pub directories_of : List Row → Option (List (List ℕ) × List (List ℕ))
directories_of found =
    both (list_of read_directory (codes "include-directories") found) (list_of read_directory (codes "exclude-directories") found)

-- the domains that are followed and excluded
unfoldable pub domains_of : List Row → Option (List (List ℕ) × List (List ℕ))
domains_of found = both (list_of read_domain (codes "domains") found) (list_of read_domain (codes "exclude-domains") found)

-- the numbers of workers, requests out to an origin, and addresses, and the quota
pub record Counts : Type 0 where
  pub workers : ℕ
  pub per_host : ℕ
  pub max_urls : ℕ
  pub quota : Option ℕ

-- these numbers, the usual ones if they aren't given
unfoldable pub counts_of : List Row → Option Counts
counts_of found =
    option_and_then (λ w. option_and_then (λ p. option_and_then (λ u. option_map (λ q. record { workers = w; per_host = p; max_urls = u; quota = q })
    (quota_by (first_of (codes "quota") found))) (number_given (codes "max-urls") MAX_URLS DEFAULT_MAX_URLS found)) (number_given (codes "per-host") MAX_PER_HOST DEFAULT_PER_HOST found)) (number_given (codes "workers") MAX_WORKERS DEFAULT_WORKERS found)

-- why what was read names no proxy
abbrev pub proxy_fault : AddressFault → LineFault
proxy_fault UserInfo = fault.ProxyUser
proxy_fault other = fault.NoProxy

-- the origin of an http address that is no more than that
abbrev pub root_origin : Result (List ℕ) AddressFault → Result (List ℕ) LineFault
root_origin (Err why) = Err (proxy_fault why)
root_origin (Ok address) = if bytes_eq (path_query_of address) (codes "/") then Ok (origin_of address) else Err fault.NoProxy

-- the proxy at an origin, with these credentials
abbrev pub proxy_with : Option Text → Result (List ℕ) LineFault → Result Proxy LineFault
proxy_with login (Err why) = Err why
proxy_with login (Ok origin) = Ok (record { origin = origin; login = login })

-- the proxy that a text names, with its user and password, or why it names none; `http` is its scheme if it has none
abbrev pub proxy_at : Text → Result Proxy LineFault
proxy_at text = proxy_with (typed_login text) (root_origin (read_address (typed text)))

abbrev pub if_proxy : Result Proxy LineFault → Result (Option Proxy) LineFault
if_proxy (Err why) = Err why
if_proxy (Ok proxy) = Ok (Some proxy)

-- the same of a value, if there is one
unfoldable pub proxy_by : Option Text → Result (Option Proxy) LineFault
proxy_by None = Ok None
proxy_by (Some value) = if_proxy (proxy_at value)

-- a value that isn't empty
abbrev pub unless_empty : Option Text → Option Text
unless_empty None = None
unless_empty (Some value) = if length value == 0 then None else Some value

-- the expressions that are found in what is followed, and that aren't; an empty value is none
unfoldable pub expressions_of : List Row → Option (List (List ℕ) × List (List ℕ))
expressions_of found =
    both (expressions_by (is_set (codes "ignore-case") found) (unless_empty (first_of (codes "accept-regex") found)))
    (expressions_by (is_set (codes "ignore-case") found) (unless_empty (first_of (codes "reject-regex") found)))

-- an expression is looked for in addresses
unfoldable pub seeks : List Row → Bool
seeks found = is_some (unless_empty (first_of (codes "accept-regex") found)) || is_some (unless_empty (first_of (codes "reject-regex") found))

-- the value that names a proxy by this option, unless none is to be asked; an empty one names none
abbrev pub proxy_value : Text → List Row → Option Text
proxy_value option found = if is_set (codes "no-proxy") found then None else unless_empty (first_of option found)

-- the proxies for https and for http, and the list of hosts that are requested without one, or why the first that is none is none
abbrev pub both_proxies : Text → Result (Option Proxy) LineFault → Result (Option Proxy) LineFault → Result Proxies LineFault
both_proxies without (Err why) http = Err why
both_proxies without (Ok https) (Err why) = Err why
both_proxies without (Ok https) (Ok http) = Ok (proxies_with https http without)

-- the proxies, or why what is given for one is none
abbrev pub proxies_of : List Row → Result Proxies LineFault
proxies_of found =
    both_proxies (unwrap_or (first_of (codes "without-proxy") found) []) (proxy_by (proxy_value (codes "https-proxy") found))
    (proxy_by (proxy_value (codes "http-proxy") found))

-- the proxies, and what follows from them
abbrev pub proxied_by : {Y : Type 0} → Result Proxies LineFault → (Proxies → Result Y LineFault) → Result Y LineFault
proxied_by (Err why) next = Err why
proxied_by (Ok proxies) next = next proxies

-- a start; https is accepted if a proxy for it is given
abbrev pub read_start : Bool → Text → Result (List ℕ) AddressFault
read_start false text = read_address text
read_start true text = read_either text

-- why requests can't say what they are to say
abbrev pub fields_fault : FieldsFault → LineFault
fields_fault unsent.Agent = fault.Agent
fields_fault unsent.Referer = fault.Referer
fields_fault unsent.Line = fault.Header
fields_fault unsent.Size = fault.Fields
fields_fault unsent.Memory = fault.Memory

-- what was read of fields, or the fault of the words
abbrev pub fields_read : Result Sent FieldsFault → Result Sent LineFault
fields_read (Err why) = Err (fields_fault why)
fields_read (Ok fields) = Ok fields

-- what one option says, or else the other
abbrev pub said_or : Option Text → Option Text → Option Text
said_or None other = other
said_or (Some value) other = Some value

-- credentials, unless they are too long
abbrev pub login_read : Option Text → Result (Option Text) LineFault
login_read None = Err fault.Fields
login_read (Some login) = Ok (Some login)

-- a user and a password that are sent unasked; no challenge is answered
abbrev pub login_with : Bool → Text → Text → Result (Option Text) LineFault
login_with unasked user password =
    if not unasked || has_colon user then Err fault.Login else login_read (login_value_of user password)

-- what is sent of a user and a password, of which none or both are given
abbrev pub login_by : Bool → Option Text → Option Text → Result (Option Text) LineFault
login_by unasked None None = Ok None
login_by unasked None (Some password) = Err fault.Login
login_by unasked (Some user) None = Err fault.Login
login_by unasked (Some user) (Some password) = login_with unasked user password

-- the user and the password: those for http count before those for all protocols
abbrev pub user_of : List Row → Option Text
user_of found = said_or (first_of (codes "http-user") found) (first_of (codes "user") found)

abbrev pub password_of : List Row → Option Text
password_of found = said_or (first_of (codes "http-password") found) (first_of (codes "password") found)

-- the user and the password that are sent, or why they aren't
unfoldable pub login_of : List Row → Result (Option Text) LineFault
login_of found = login_by (is_set (codes "auth-no-challenge") found) (user_of found) (password_of found)

-- the fields that go with a user and a password
abbrev pub fields_with : List Row → Result (Option Text) LineFault → Result Sent LineFault
fields_with found (Err why) = Err why
fields_with found (Ok login) =
    fields_read (read_fields (first_of (codes "user-agent") found) (first_of (codes "referer") found) (is_set (codes "no-cache") found) login
    (unwrap_or (first_of (codes "header") found) []))

-- what requests say besides their addresses, or why they can't
abbrev pub fields_of : List Row → Result Sent LineFault
fields_of found = fields_with found (login_of found)

-- what requests say, and what follows from it
abbrev pub fielded_by : {Y : Type 0} → Result Sent LineFault → (Sent → Result Y LineFault) → Result Y LineFault
fielded_by (Err why) next = Err why
fielded_by (Ok fields) next = next fields

-- the start, or why it is no address; `http` is its scheme if it has none, and user and password are left out
unfoldable pub start_of : List Row → Result (List ℕ) AddressFault
start_of found =
    read_start (is_some (proxy_value (codes "https-proxy") found)) (typed (unwrap_or (first_of (codes "start") found) []))

-- the start, and what follows from it
abbrev pub started_at : {Y : Type 0} → Result (List ℕ) AddressFault → (List ℕ → Result Y LineFault) → Result Y LineFault
started_at (Err why) next = Err (fault.Start why)
started_at (Ok start) next = if is_robots_file start then Err fault.StartIsRobots else next start

-- where the site is: a map before a record, and the network if neither is chosen
abbrev pub source_of : List Row → Source
source_of found = if is_set (codes "map") found then Map else (if is_set (codes "record") found then Recorded else Live)

-- robots files are honoured: links are followed, and they aren't turned off
abbrev pub honours_robots : List Row → Bool
honours_robots found = is_set (codes "recursive") found && not (is_set (codes "no-robots") found)

-- which links of pages are taken, of those that are taken by their place
abbrev pub links_of : RowSet → List Row → LinkRules
links_of taken found = record { robots = honours_robots found; relative = is_set (codes "relative") found; rows = taken }

-- the limit of the level, or no hop if links aren't followed
abbrev pub limit_within : Limit → List Row → Limit
limit_within level found = if is_set (codes "recursive") found then level else AtMost 0

-- the folder that a value names, `.` if it is empty or isn't given
abbrev pub folder_of : Option Text → Text
folder_of None = codes "."
folder_of (Some path) = if length path == 0 then codes "." else path

-- the folder below which files are put
abbrev pub prefix_of : List Row → Text
prefix_of found = folder_of (first_of (codes "directory-prefix") found)

-- the file that takes the text of the run, and whether it keeps what it has
unfoldable pub log_of : List Row → Option (Text × Bool)
log_of found = option_map (λ path. (path, is_some (first_of (codes "append-output") found))) (first_of (codes "output-file") found)

-- what the options order with these numbers, these proxies, these names, these fields, this manner, these retries, this level, these lists, these expressions, what is taken and this start; without `-r` no link is followed and
-- no robots file is honoured
abbrev pub ordered : List Row → Counts → Proxies → Naming → Sent → Mannered → Retried → Limit → (patterns directories domains expressions : List (List ℕ) × List (List ℕ)) → RowSet → List ℕ → Ordered
ordered found counts proxies names fields manner retries level patterns directories domains expressions taken start = record {
  start = start;
  others = [];
  logins = [];
  limit = limit_within level found;
  span_hosts = is_set (codes "span-hosts") found;
  no_parent = is_set (codes "no-parent") found;
  domains = domains.0;
  exclude_domains = domains.1;
  include_dirs = directories.0;
  exclude_dirs = directories.1;
  accept = patterns.0;
  reject = patterns.1;
  accept_expressions = expressions.0;
  reject_expressions = expressions.1;
  ignore_case = is_set (codes "ignore-case") found;
  robots = honours_robots found;
  page_requisites = is_set (codes "page-requisites") found;
  span_requisites = is_set (codes "span-requisites") found;
  max_urls = counts.max_urls;
  per_host = counts.per_host;
  workers = counts.workers;
  links = links_of taken found;
  keeps_connections = not (is_set (codes "no-http-keep-alive") found);
  source = source_of found;
  quota = counts.quota;
  trace = is_set (codes "trace") found;
  quiet = is_set (codes "quiet") found;
  log = log_of found;
  prefix = prefix_of found;
  names = names;
  converts = is_set (codes "convert-links") found;
  backs_up = is_set (codes "backup-converted") found;
  takes_times = not (is_set (codes "no-use-server-timestamps") found);
  upkeep = upkeep_of found;
  fields = fields;
  manner = manner;
  retries = retries;
  proxies = proxies;
  trusts = is_set (codes "trust-proxy") found;
  resume = first_of (codes "resume") found;
  retries_failed = is_set (codes "retry-failed") found;
  save = first_of (codes "save") found;
  rejected_log = first_of (codes "rejected-log") found;
}

-- what the options order, or the lowest fault
unfoldable pub order_of_rows : List Row → Result Ordered LineFault
order_of_rows found =
    if not (are_good found) then Err words_refused
    else found_or (counts_of found) words_refused (λ counts.
    found_or (manner_of found) words_refused (λ manner.
    found_or (naming_of found) words_refused (λ names.
    found_or (retries_of found) words_refused (λ retries.
    proxied_by (proxies_of found) (λ proxies.
    fielded_by (fields_of found) (λ fields.
    found_or (level_of found) fault.Depth (λ level.
    found_or (patterns_of found) fault.Pattern (λ patterns.
    found_or (directories_of found) fault.Directory (λ directories.
    found_or (domains_of found) fault.Domain (λ domains.
    found_or (expressions_of found) (fault.Expression 0) (λ expressions.
    found_or (rows_taken found) fault.Tags (λ taken.
    started_at (start_of found) (λ start. Ok (ordered found counts proxies names fields manner retries level patterns directories domains expressions taken start))))))))))))))

-- words with no kind of refusal are taken
abbrev pub are_taken : Kinds → Bool
are_taken [] = true
are_taken (kind ∷ kinds) = false

-- what words that are written out order, or the lowest fault
unfoldable pub order_of_written : List Text → Result Ordered LineFault
order_of_written words = if are_taken (refusals words) then order_of_rows (rows words) else Err words_refused

-- these starts after those that were read before, or what is wrong with the first that is none
abbrev pub starts_after : List (List ℕ) → Bool → List Text → Result (List (List ℕ)) LineFault
starts_after before by_proxy [] = Ok before
starts_after before by_proxy (text ∷ texts) =
    started_at (read_start by_proxy (typed text)) (λ start. starts_after (before ++ start ∷ []) by_proxy texts)

-- the order with these starts besides its own; all of them are among the addresses that it may hold
abbrev pub besides : Ordered → List (List ℕ) → Result Ordered LineFault
besides order others = if nat_lt (length others) order.max_urls then Ok (record order { others = others }) else Err words_refused

abbrev pub started_besides : Ordered → Result (List (List ℕ)) LineFault → Result Ordered LineFault
started_besides order (Err why) = Err why
started_besides order (Ok others) = besides order others

-- the order with the starts that these texts name besides its own; of these too https is one if a proxy is given
abbrev pub with_others : List Text → Result Ordered LineFault → Result Ordered LineFault
with_others texts (Err why) = Err why
with_others texts (Ok order) = started_besides order (starts_after [] (is_some order.proxies.https) texts)

-- ---- whom https is entrusted to

-- a digit or a dot
abbrev pub is_numeric : ℕ → Bool
is_numeric byte = is_ascii_digit byte || byte == 46

-- the host is this machine: `localhost`, `::1`, or an address in 127.0.0.0/8 (RFC 1122, section 3.2.1.3; RFC 4291, section 2.5.3). A host
-- of digits and dots is an IPv4 address (URL Standard, section 3.5)
abbrev pub is_loopback : Text → Bool
is_loopback host =
    bytes_eq host (codes "localhost") || bytes_eq host (codes "[::1]") || (starts_with nat_eq host (codes "127.") && list_all is_numeric host)

-- there is no proxy, or it is on this machine, or trusted
abbrev pub is_trusted : Bool → Option Proxy → Bool
is_trusted trusts None = true
is_trusted trusts (Some proxy) = trusts || is_loopback (host_of (proxy.origin ++ codes "/"))

abbrev pub is_secure : Scheme → Bool
is_secure Http = false
is_secure Https = true

-- an https address
abbrev pub is_https : List ℕ → Bool
is_https address = is_secure (scheme_of address)

-- some start is https
abbrev pub has_https : Ordered → Bool
has_https order = is_https order.start || list_any is_https order.others

-- the order, unless https would go to a proxy on another machine that isn't trusted: the way there has no TLS
abbrev pub guarded : Result Ordered LineFault → Result Ordered LineFault
guarded (Err why) = Err why
guarded (Ok order) = if is_trusted order.trusts order.proxies.https || not (has_https order) then Ok order else Err fault.FarProxy

-- ---- user and password in starts

-- the order with the credentials of these starts
abbrev pub logged : List Text → Result Ordered LineFault → Result Ordered LineFault
logged starts (Err why) = Err why
logged starts (Ok order) = Ok (record order { logins = map typed_login starts })

-- ---- all words

-- the fault of the first word that isn't read, or this
abbrev pub read_or : Option Text → Result Ordered LineFault → Result Ordered LineFault
read_or None result = result
read_or (Some word) result = Err (refusal_of word)

-- what is ordered by what is said, or the lowest fault, that of the first start before those of others: each word is read, and the first that
-- isn't may request the help
unfoldable pub order_said : List (Saying Text) → Result Ordered LineFault
order_said said =
    read_or (first_unread said) (logged (starts_in said) (guarded (with_others (others_in said) (order_of_written (written said)))))

-- what the words order, or the lowest fault
abbrev pub order_of : List Text → Result Ordered LineFault
order_of words = order_said (sayings words)

-- words that say the same of each option last order the same as these
abbrev pub OrdersBySayings : List Text → Type 0
OrdersBySayings words = (others : List Text) → SayTheSame words others → order_of words ≡ order_of others

-- ---- what `read_order` answers

-- what a log says
abbrev pub log_by : Log → Text × Bool
log_by log = (log.path, log.appends)

-- what an order says
abbrev pub ordered_by : Order → Ordered
ordered_by order = record {
  start = order.plan.start;
  others = order.plan.others;
  logins = order.logins.items;
  limit = order.plan.limit;
  span_hosts = order.plan.span_hosts;
  no_parent = order.plan.no_parent;
  domains = order.plan.domains;
  exclude_domains = order.plan.exclude_domains;
  include_dirs = order.plan.include_dirs;
  exclude_dirs = order.plan.exclude_dirs;
  accept = order.plan.accept;
  reject = order.plan.reject;
  accept_expressions = order.plan.accept_expressions;
  reject_expressions = order.plan.reject_expressions;
  ignore_case = order.plan.ignore_case;
  robots = order.plan.robots;
  page_requisites = order.plan.page_requisites;
  span_requisites = order.plan.span_requisites;
  max_urls = order.plan.max_urls;
  per_host = order.plan.per_host;
  workers = order.workers;
  links = order.links;
  keeps_connections = order.keeps_connections;
  source = order.source;
  quota = order.quota;
  trace = order.trace;
  quiet = order.quiet;
  log = option_map log_by order.log;
  prefix = order.prefix;
  names = naming_by order.names;
  converts = order.converts;
  backs_up = order.backs_up;
  takes_times = order.takes_times;
  upkeep = order.upkeep;
  fields = order.fields;
  manner = mannered order.manner;
  retries = retries_by order.retries;
  proxies = order.proxies;
  trusts = order.trusts_proxy;
  resume = order.resume;
  retries_failed = order.retries_failed;
  save = order.save;
  rejected_log = order.rejected_log;
}

-- how many connections to a server may be open at a time, if they are kept
abbrev pub kept_of : Order → Option ℕ
kept_of order = if order.keeps_connections then Some order.plan.per_host else None

-- the first of these credentials
abbrev pub first_login : List (Option Text) → Option Text
first_login [] = None
first_login (login ∷ logins) = login

-- the origins of these starts, each with its credentials
abbrev pub homes_of : List (List ℕ) → List (Option Text) → List Home
homes_of [] logins = []
homes_of (start ∷ starts) logins = home_of start (first_login logins) ∷ homes_of starts (drop 1 logins)

-- what is sent with each request: secret fields and credentials go to the origins of the starts alone, and those of a proxy to it
abbrev pub sending_of : Order → Sending
sending_of order =
    record { sent = order.fields; homes = homes_of (order.plan.start ∷ order.plan.others) order.logins.items; jar = None; proxies = order.proxies; condition = None }

-- the result is the expected order, or the expected fault, unless memory ran out
abbrev pub AnswersOrder : Result Order LineFault → Result Ordered LineFault → Type 0
AnswersOrder result expected =
    MatchResult result (λ order. expected ≡ Ok (ordered_by order)) (λ f. (expected ≡ Err (without_kind f)) ⊎ (f ≡ fault.Memory))

-- the same of what is found for each option, unless an expression would cost too much
abbrev pub AnswersRows : List Row → Result Order LineFault → Result Ordered LineFault → Type 0
AnswersRows found result expected =
    MatchResult result (λ order. expected ≡ Ok (ordered_by order)) (λ f. (expected ≡ Err (without_kind f)) ⊎ IsUnsaid (seeks found) f)

-- the words look for an expression in addresses
abbrev pub seeks_in : List Text → Bool
seeks_in words = seeks (rows (written (sayings words)))

-- the result is what the words order, or the lowest fault, unless memory ran out or an expression would cost too much
abbrev pub AnswersWords : List Text → Result Order LineFault → Type 0
AnswersWords words result = AnswersRows (rows (written (sayings words))) result (order_of words)
