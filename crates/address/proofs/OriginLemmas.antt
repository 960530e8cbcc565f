-- The addresses of `/` and of `/robots.txt` at the origin of a URL.
use Rattle.std.proofs.Common.{Bool, ◌==◌, ◌||◌, ◌&&◌, leb, ◌++◌, append-nil, lit<, lit≤, inl, ◌≡◌, ℕ, ◌≤◌, ◌<◌, List, [], length, Some, None, Ok, All, sym, refl, ap, ◌∙◌, subst, arith, length-append}
use Rattle.std.proofs.lemmas.Bool.Decides.{nat_tests}
use Rattle.std.proofs.lemmas.List.Elements.{All-weaker}
use Rattle.std.specs.Prelude.{Option, codes}
use Rattle.url.specs.declared.host.Host.{Host}
use Rattle.url.specs.declared.scheme.SchemeType.TheVariants.{SpecialNotFile}
use Rattle.url.specs.declared.sets.TheConstants.{PATH}
use Rattle.url.specs.declared.slicing.Position.TheVariants.{BeforeScheme, BeforeHost, AfterPort}
use Rattle.url.specs.Host.{host_text}
use Rattle.url.specs.Path.{IsSegmentList, parse_path_start, parse_segments, push_segment, dot_count}
use Rattle.url.specs.Parts.{Parts, host_or_empty, text_between, IsPortOf}
use Rattle.url.specs.Parser.{parse_url, parse_parts, parse_body, parse_relative, leading_slashes, split_scheme}
use Rattle.url.specs.Input.{trim_c0_control_and_space, strip_tabs_and_new_lines, split_once}
use Rattle.url.specs.Scheme.{scheme_len, scheme_type, default_port}
use Rattle.url.proofs.InputLemmas.{Passes, All_from_list_all}
use Rattle.url.proofs.SetLemmas.{kept_from_passes}
use Rattle.url.proofs.LayoutLemmas.{IsValidHead_same}
use Rattle.url.proofs.PathLemmas.{no_segments, push_valid, root_only, IsNoSlash}
use Rattle.percent_encoding.specs.AsciiSet.{should_percent_encode}
use Rattle.percent_encoding.specs.Percent.{IsKept, percent_encode}
use Rattle.address.specs.declared.address.TheConstants.{MAX_ADDRESS}
use Rattle.address.specs.declared.scheme.Scheme.{Scheme}
use Rattle.address.specs.declared.scheme.Scheme.TheVariants.{Http, Https}
use Rattle.address.specs.Address.{scheme_text, scheme_in, scheme_of, url_of, url_text_of, origin_of, address_against, join_address, HaveSameOrigin, port_text}
use Rattle.address.specs.Layout.{IsHttp}
use Rattle.address.proofs.UrlLemmas.{http_kind, scheme_of-url_text_of, url_of-url_text_of, reads_url, address_of-http, origin_of-url_text_of, authority_of-url_text_of, host_of-url_text_of, port_of-url_text_of}
use Rattle.address.proofs.PartsLemmas.{http_url, normal, authority_is, authority_text, origin_text, own_port, short_port, short_scheme, text_split}

-- a path at the same origin
abbrev pub at_path : Parts → List ℕ → Parts
at_path url path = record url { path = path; query = None }

pub text_at_path : (url : Parts) (path : List ℕ) → IsHttp url → url_text_of (at_path url path) ≡ text_between url BeforeScheme AfterPort ++ path
text_at_path url path http =
    text_split (at_path url path) (authority_is url http) http.fragment
    ∙ ap (λ p. text_between url BeforeScheme AfterPort ++ p) (append-nil path)

-- that is an address too, if the path is short
pub IsHttp-at_path : (url : Parts) (path : List ℕ) → IsHttp url → IsSegmentList SpecialNotFile path → 0 < length path → length path ≤ 11 → IsHttp (at_path url path)
IsHttp-at_path url path http list some few =
    let host : List ℕ = host_text (host_or_empty url) in
    let authority = ap length (authority_text url) ∙ length-append host (port_text url.port) in
    let origin = ap length (origin_text url http) ∙ length-append (scheme_text (scheme_in url)) (codes "://" ++ text_between url BeforeHost AfterPort) in
    let scheme = short_scheme (scheme_in url) in
    let text = ap length (text_at_path url path http) ∙ length-append (text_between url BeforeScheme AfterPort) path in
    let port = short_port (scheme_in url) url.port (own_port (scheme_in url) url.port (subst (λ s. IsPortOf s url.port) http.scheme http.valid.head.port)) in
    let short_host = http.short_host in
    record {
      valid = record {
        head = IsValidHead_same url (at_path url path) refl http.valid.head;
        path = inl (subst (λ k. IsSegmentList k path) (sym (http_kind url http.scheme)) list, λ _. some);
        query = tt;
        fragment = http.valid.fragment;
      };
      scheme = http.scheme;
      username = http.username;
      password = http.password;
      fragment = http.fragment;
      short = omega arith;
      short_host = http.short_host;
    }

-- ---- joining the two paths

joined_root : (scheme : Scheme) (host : Host (List ℕ)) (port : Option ℕ) (path : List ℕ) (query : Option (List ℕ)) → parse_url (Some (http_url scheme host port path query)) (codes "/") ≡ Ok (http_url scheme host port (codes "/") None)
unfolding parse_url parse_parts parse_body parse_relative leading_slashes split_scheme trim_c0_control_and_space strip_tabs_and_new_lines split_once scheme_len scheme_type default_port parse_path_start parse_segments push_segment dot_count percent_encode
joined_root Http host port path query = refl
joined_root Https host port path query = refl

joined_robots : (scheme : Scheme) (host : Host (List ℕ)) (port : Option ℕ) (path : List ℕ) (query : Option (List ℕ)) → parse_url (Some (http_url scheme host port path query)) (codes "/robots.txt") ≡ Ok (http_url scheme host port (codes "/robots.txt") None)
unfolding parse_url parse_parts parse_body parse_relative leading_slashes split_scheme trim_c0_control_and_space strip_tabs_and_new_lines split_once scheme_len scheme_type default_port parse_path_start parse_segments push_segment dot_count percent_encode should_percent_encode
joined_robots Http host port path query = refl
joined_robots Https host port path query = refl

abbrev is_lower_or_dot : ℕ → Bool
is_lower_or_dot b = b == 46 || (leb 97 b && leb b 122)

lower_or_dot : All (Passes is_lower_or_dot) (codes "robots.txt")
lower_or_dot = All_from_list_all is_lower_or_dot (codes "robots.txt") refl

escaped : All (IsKept PATH) (codes "robots.txt")
escaped =
    All-weaker (Passes is_lower_or_dot) (IsKept PATH) (λ b passes. kept_from_passes is_lower_or_dot PATH refl b (grind (arith, nat_tests)) passes) (codes "robots.txt") lower_or_dot

whole : All (IsNoSlash SpecialNotFile) (codes "robots.txt")
whole =
    All-weaker (Passes is_lower_or_dot) (IsNoSlash SpecialNotFile) (λ b passes. grind (arith, nat_tests)) (codes "robots.txt") lower_or_dot

robots_list : IsSegmentList SpecialNotFile (codes "/robots.txt")
unfolding dot_count
robots_list = push_valid SpecialNotFile [] (codes "robots.txt") (no_segments SpecialNotFile) (record { escaped = escaped; whole = whole; resolved = refl })

-- ---- what they are

pub root_is : (url : Parts) → IsHttp url → IsHttp (at_path url (codes "/"))
root_is url http = IsHttp-at_path url (codes "/") http (root_only SpecialNotFile) (lit< tt) (lit≤ tt)

pub robots_is : (url : Parts) → IsHttp url → IsHttp (at_path url (codes "/robots.txt"))
robots_is url http = IsHttp-at_path url (codes "/robots.txt") http robots_list (lit< tt) (lit≤ tt)

-- the text of a path at an origin begins with that origin
pub text_at_origin : (url : Parts) (path : List ℕ) → IsHttp url → url_text_of (at_path url path) ≡ origin_of (url_text_of url) ++ path
text_at_origin url path http = text_at_path url path http ∙ ap (λ front. front ++ path) (sym (origin_of-url_text_of url http))

-- what joining gives, once the parser has given that path
joins : (url : Parts) (text path : List ℕ) → IsHttp url → IsHttp (at_path url path) → length text ≤ MAX_ADDRESS → parse_url (Some url) text ≡ Ok (at_path url path) → join_address (url_text_of url) text ≡ Ok (origin_of (url_text_of url) ++ path)
joins url text path http there short parsed =
    ap (λ scheme. address_against scheme (Some (url_of (url_text_of url))) text) (scheme_of-url_text_of url http)
    ∙ ap (λ (base : Parts). address_against (scheme_in url) (Some base) text) (url_of-url_text_of url http)
    ∙ reads_url (scheme_in url) (Some url) text (at_path url path) short parsed
    ∙ address_of-http (at_path url path) there
    ∙ ap Ok (text_at_origin url path http)

pub join_root : (url : Parts) → IsHttp url → join_address (url_text_of url) (codes "/") ≡ Ok (origin_of (url_text_of url) ++ codes "/")
join_root url http =
    let parts = normal url http in
    let parsed = joined_root (scheme_in url) parts.host url.port url.path url.query in
    joins url (codes "/") (codes "/") http (root_is url http) (lit≤ tt)
    (ap (λ (base : Parts). parse_url (Some base) (codes "/")) parts.same ∙ parsed ∙ ap (λ (u : Parts). Ok (at_path u (codes "/"))) (sym parts.same))

pub join_robots : (url : Parts) → IsHttp url → join_address (url_text_of url) (codes "/robots.txt") ≡ Ok (origin_of (url_text_of url) ++ codes "/robots.txt")
join_robots url http =
    let parts = normal url http in
    let parsed = joined_robots (scheme_in url) parts.host url.port url.path url.query in
    joins url (codes "/robots.txt") (codes "/robots.txt") http (robots_is url http) (lit≤ tt)
    (ap (λ (base : Parts). parse_url (Some base) (codes "/robots.txt")) parts.same ∙ parsed ∙ ap (λ (u : Parts). Ok (at_path u (codes "/robots.txt"))) (sym parts.same))

-- and it has the same origin
pub same_origin : (url : Parts) (path : List ℕ) → IsHttp url → IsHttp (at_path url path) → HaveSameOrigin (origin_of (url_text_of url) ++ path) (url_text_of url)
same_origin url path http there =
    subst (λ t. HaveSameOrigin t (url_text_of url)) (text_at_origin url path http) (record {
      scheme = scheme_of-url_text_of (at_path url path) there ∙ sym (scheme_of-url_text_of url http);
      origin = origin_of-url_text_of (at_path url path) there ∙ sym (origin_of-url_text_of url http);
      authority = authority_of-url_text_of (at_path url path) there ∙ sym (authority_of-url_text_of url http);
      host = host_of-url_text_of (at_path url path) there ∙ sym (host_of-url_text_of url http);
      port = port_of-url_text_of (at_path url path) there ∙ sym (port_of-url_text_of url http);
    })
