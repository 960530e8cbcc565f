-- The parts of a URL that keeps the rules of addresses.
use Rattle.std.proofs.Common.{Bool, true, ◌∷◌, ◌++◌, append-nil, get_or, lit<, lit≤, ◌≢◌, ◌==◌, ◌||◌, ◌&&◌, ◌⊎◌, inl, inr, ⊎_elim, ◌≡◌, ℕ, ◌≤◌, ◌<◌, not, leb, List, [], length, Some, None, All, sym, refl, ap, ◌∙◌, subst, arith}
use Rattle.std.proofs.lemmas.List.Elements.{All-nil, All-weaker, All-from_get_or}
use Rattle.std.proofs.lemmas.Bool.Decides.{nat_tests}
use Rattle.std.proofs.lemmas.Fmt.{length-decimal-le, digits_decimal}
use Rattle.std.proofs.lemmas.Str.Parse.{numerals_by_value, tells_by_index}
use Rattle.std.specs.Prelude.{Option, is_some, unwrap_or, option_map, decimal, codes, IfSome}
use Rattle.std.specs.List.{list_all}
use Rattle.percent_encoding.specs.declared.ascii_set.AsciiSet.{AsciiSet}
use Rattle.percent_encoding.specs.declared.ascii_set.TheConstants.{CONTROLS}
use Rattle.percent_encoding.specs.Percent.{IsKept}
use Rattle.url.specs.declared.host.Host.{Host}
use Rattle.url.specs.declared.host.Host.TheVariants.{Domain}
use Rattle.url.specs.declared.scheme.SchemeType.TheVariants.{SpecialNotFile}
use Rattle.url.specs.declared.sets.TheConstants.{PATH, SPECIAL_QUERY, FORBIDDEN_HOST, FORBIDDEN_DOMAIN}
use Rattle.url.specs.declared.slicing.Position.TheVariants.{BeforeScheme, BeforeHost, BeforePath, AfterPort, AfterQuery}
use Rattle.url.specs.Host.{host_text, IsHostOf}
use Rattle.url.specs.Input.{when}
use Rattle.url.specs.Path.{IsSegmentList}
use Rattle.url.specs.Scheme.{is_special, default_port}
use Rattle.url.specs.Parts.{Parts, kind_of, host_or_empty, has_authority, pieces, text_between, IsPortOf}
use Rattle.url.proofs.HostLemmas.{All-host_text}
use Rattle.url.proofs.InputLemmas.{Passes, All_from_list_all}
use Rattle.url.proofs.PathLemmas.{rooted}
use Rattle.url.proofs.PiecesLemmas.{option_cases, concat-split}
use Rattle.url.proofs.SetLemmas.{outside_pass, passes_from_kept, All_kept_differs}
use Rattle.url.proofs.SetterLemmas.{own_host}
use Rattle.url.proofs.TextLemmas.{All-concat, All_one, All_part}
use Rattle.url.proofs.ValidLemmas.{special_has_authority, base_from_authority, hierarchical, segment_list_kept}
use Rattle.address.specs.declared.scheme.Scheme.{Scheme}
use Rattle.address.specs.declared.scheme.Scheme.TheVariants.{Http, Https}
use Rattle.address.specs.Address.{scheme_text, scheme_in, url_text_of, port_text, IsOwnPort, IsAddressByte}
use Rattle.address.specs.Layout.{IsHttp}
use Rattle.address.proofs.UrlLemmas.{http_kind}

-- the http URL of these parts
abbrev pub http_url : Scheme → Host (List ℕ) → Option ℕ → List ℕ → Option (List ℕ) → Parts
http_url scheme host port path query = record { scheme = scheme_text scheme; username = []; password = []; host = Some host; port = port; path = path; query = query; fragment = None }

-- a URL is the one of its host, port, path and query
pub record Normal (url : Parts) : Type 0 where
  pub host : Host (List ℕ)
  pub same : url ≡ http_url (scheme_in url) host url.port url.path url.query
  pub named : url.host ≡ Some host
  pub is_host : IsHostOf SpecialNotFile host

pub normal : (url : Parts) → IsHttp url → Normal url
normal url http =
    let kind = http_kind url http.scheme in
    let authority = special_has_authority url http.valid.head (ap is_special kind) in
    ⊎_elim
    (λ none. absurd (let e = ap is_some none in cc))
    (λ some. record {
      host = some.0;
      same = λ i. record { scheme = http.scheme i; username = http.username i; password = http.password i; host = some.1 i; port = url.port; path = url.path; query = url.query; fragment = http.fragment i };
      named = some.1;
      is_host = subst (λ k. IsHostOf k some.0) kind (subst (λ o. IsHostOf (kind_of url) (unwrap_or o (Domain []))) some.1 (own_host url http.valid.head authority));
    })
    (option_cases url.host)

-- ---- the origin's text

port_pieces : (port : Option ℕ) → when (is_some port) (codes ":") ++ (unwrap_or (option_map decimal port) [] ++ []) ≡ port_text port
port_pieces None = refl
port_pieces (Some n) = ap (λ t. 58 ∷ t) (append-nil (decimal n))

pub authority_text : (url : Parts) → text_between url BeforeHost AfterPort ≡ host_text (host_or_empty url) ++ port_text url.port
authority_text url = ap (λ t. host_text (host_or_empty url) ++ t) (port_pieces url.port)

pub own_port : (scheme : Scheme) (port : Option ℕ) → IsPortOf (scheme_text scheme) port → IfSome port (IsOwnPort scheme)
unfolding default_port
own_port scheme None valid = tt
own_port Http (Some n) valid = (valid.0, λ is_80. valid.1 (ap Some (sym is_80)))
own_port Https (Some n) valid = (valid.0, λ is_443. valid.1 (ap Some (sym is_443)))

-- `:` and a port are at most six bytes
pub short_port : (scheme : Scheme) (port : Option ℕ) → IfSome port (IsOwnPort scheme) → length (port_text port) ≤ 6
short_port scheme None valid = lit≤ tt
short_port scheme (Some n) valid = let few = length-decimal-le 5 n (lit< tt) (omega (arith, valid.0)) (omega (arith, valid.0)) in omega arith

-- ---- the bytes of the text

abbrev is_address_byte : ℕ → Bool
is_address_byte b = leb 33 b && leb b 126 && not (b == 35)

address_byte : (b : ℕ) → is_address_byte b ≡ true → IsAddressByte b
address_byte b passes = grind (arith, nat_tests)

kept : (set : AsciiSet) → outside_pass set is_address_byte ≡ true → (b : ℕ) → IsKept set b → IsAddressByte b
kept set all b inside = address_byte b (passes_from_kept set is_address_byte all b inside)

kept_in_host : (b : ℕ) → IsKept FORBIDDEN_HOST b → IsKept CONTROLS b → IsAddressByte b
kept_in_host b allowed visible =
    let mark = passes_from_kept FORBIDDEN_HOST (λ x. not (x == 32 || x == 35)) refl b allowed in
    let above = passes_from_kept CONTROLS (λ x. leb 32 x && leb x 126) refl b visible in
    grind (arith, nat_tests)

plain_host : (host : Host (List ℕ)) → IsHostOf SpecialNotFile host → All IsAddressByte (host_text host)
plain_host host = All-host_text IsAddressByte SpecialNotFile host (kept FORBIDDEN_DOMAIN refl) kept_in_host (λ b digit. grind arith) (λ b hex. grind arith) (address_byte 91 refl) (address_byte 93 refl)

plain_port : (scheme : Scheme) (port : Option ℕ) → IfSome port (IsOwnPort scheme) → All IsAddressByte (unwrap_or (option_map decimal port) [])
plain_port scheme None valid = All-nil IsAddressByte
plain_port scheme (Some n) valid =
    All-from_get_or IsAddressByte (decimal n) 0 (λ i inside. let digit = digits_decimal (numerals_by_value _ tells_by_index) n (omega (arith, valid.0)) i inside in grind arith)

plain_all : (xs : List ℕ) → list_all is_address_byte xs ≡ true → All IsAddressByte xs
plain_all xs all = All-weaker (Passes is_address_byte) IsAddressByte address_byte xs (All_from_list_all is_address_byte xs all)

plain_scheme : (scheme : Scheme) → All IsAddressByte (scheme_text scheme)
plain_scheme Http = plain_all (codes "http") refl
plain_scheme Https = plain_all (codes "https") refl

pub plain_text : (scheme : Scheme) (host : Host (List ℕ)) (port : Option ℕ) (path : List ℕ) (query : Option (List ℕ)) → IsHostOf SpecialNotFile host → IfSome port (IsOwnPort scheme) → All (IsKept PATH) path → IfSome query (All (IsKept SPECIAL_QUERY)) → All IsAddressByte (url_text_of (http_url scheme host port path query))
unfolding url_text_of
plain_text scheme host port path query is_host is_port is_path is_query =
    let P = IsAddressByte in
    let none = All-nil P in
    All-concat P (pieces (http_url scheme host port path query)) (plain_scheme scheme, (plain_all (codes "://") refl, (none, (none, (none, (none, (plain_host host is_host, (All_one P _ 58 (address_byte 58 refl), (plain_port scheme port is_port, (none, (All-weaker (IsKept PATH) P (kept PATH refl) path is_path, (All_one P _ 63 (address_byte 63 refl), (All_part P SPECIAL_QUERY query (kept SPECIAL_QUERY refl) is_query, (none, (none, tt)))))))))))))))

-- ---- the path and the query

-- the text is scheme, host and port, and path and query
pub text_split : (url : Parts) → has_authority url ≡ true → url.fragment ≡ None → url_text_of url ≡ text_between url BeforeScheme AfterPort ++ text_between url BeforePath AfterQuery
unfolding url_text_of
text_split url authority fragment =
    concat-split (pieces url) 9 ∙ ap (λ tail. text_between url BeforeScheme AfterPort ++ tail) (rw (authority, fragment) (simp append-nil))

pub authority_is : (url : Parts) → IsHttp url → has_authority url ≡ true
authority_is url http = special_has_authority url http.valid.head (ap is_special (http_kind url http.scheme))

pub origin_text : (url : Parts) → IsHttp url → text_between url BeforeScheme AfterPort ≡ scheme_text (scheme_in url) ++ (codes "://" ++ text_between url BeforeHost AfterPort)
origin_text url http =
    (rw (authority_is url http, http.username, http.password) refl)
    ∙ ap (λ s. s ++ (codes "://" ++ text_between url BeforeHost AfterPort)) http.scheme

-- a scheme is at most five bytes
pub short_scheme : (scheme : Scheme) → length (scheme_text scheme) ≤ 5
short_scheme Http = lit≤ tt
short_scheme Https = lit≤ tt

-- the path of such a URL is a list of segments, and not empty
pub path_list : (url : Parts) → IsHttp url → IsSegmentList SpecialNotFile url.path × (0 < length url.path)
path_list url http =
    let kind = http_kind url http.scheme in
    let special = ap is_special kind in
    let authority = special_has_authority url http.valid.head special in
    let path = hierarchical url http.valid.path (base_from_authority url authority) in
    (subst (λ k. IsSegmentList k url.path) kind path.0, path.1 special)

pub first_is_slash : (path : List ℕ) → IsSegmentList SpecialNotFile path → 0 < length path → get_or path 0 0 ≡ 47
first_is_slash path list some =
    ⊎_elim (λ none. let empty : length path ≡ 0 = ap length none in absurd (omega arith)) (λ e. e) (rooted SpecialNotFile path list)

pub no_question_mark : (path : List ℕ) → IsSegmentList SpecialNotFile path → All (λ b. b ≢ 63) path
no_question_mark path list = All_kept_differs PATH 63 refl path (segment_list_kept SpecialNotFile path list)

pub query_begins : (query : Option (List ℕ)) → (when (is_some query) (codes "?") ++ (unwrap_or query [] ++ []) ≡ []) ⊎ (get_or (when (is_some query) (codes "?") ++ (unwrap_or query [] ++ [])) 0 0 ≡ 63)
query_begins None = inl refl
query_begins (Some xs) = inr refl
