-- What every address and every origin is.
use Rattle.std.proofs.Common.{Some, None, ◌++◌, Ok, append_assoc, take, drop, get_or, ◌≢◌, ◌-◌, ◌⊎◌, ◌≡◌, ℕ, ◌+◌, ◌≤◌, ◌<◌, List, [], length, All, sym, ap, ◌∙◌, subst, take-append-drop, length-append}
use Rattle.std.proofs.lemmas.List.{get_or_append_left}
use Rattle.std.proofs.lemmas.List.Elements.{All-weaker, All-take, All-drop}
use Rattle.std.specs.Prelude.{IfSome, unwrap_or, codes}
use Rattle.url.specs.declared.sets.TheConstants.{SPECIAL_QUERY}
use Rattle.url.specs.declared.scheme.SchemeType.TheVariants.{SpecialNotFile}
use Rattle.url.specs.declared.slicing.Position.TheVariants.{BeforeHost, AfterPort, AfterPath, AfterQuery}
use Rattle.url.specs.declared.host.Host.TheVariants.{Domain}
use Rattle.url.specs.Host.{host_text}
use Rattle.url.specs.Parts.{Parts, host_or_empty, query_set, text_between, IsPortOf}
use Rattle.url.proofs.InputLemmas.{Passes}
use Rattle.url.proofs.RoundTrip.{host_nonempty}
use Rattle.url.proofs.TextLemmas.{is_host_byte, host_and_port_bytes}
use Rattle.url.proofs.ValidLemmas.{segment_list_kept}
use Rattle.percent_encoding.specs.Percent.{IsKept}
use Rattle.address.specs.declared.address.TheConstants.{MAX_HOST}
use Rattle.address.specs.Address.{scheme_text, scheme_in, address_against, url_of, url_text_of, IsAddress, IsOrigin, IsAddressByte, IsAuthorityByte, IsOwnPort, origin_of, host_of, port_of, path_query_of, dir_len, port_text, join_address}
use Rattle.address.specs.Layout.{IsHttp}
use Rattle.address.proofs.UrlLemmas.{http_kind, scheme_of-url_text_of, parse_own_text, reads_either, read_own_text, origin_of-url_text_of, authority_of-url_text_of, host_of-url_text_of, port_of-url_text_of, path_query_of-url_text_of, dir_of-url_text_of, file_of-url_text_of, query_of-url_text_of}
use Rattle.address.proofs.PartsLemmas.{normal, authority_is, authority_text, origin_text, own_port, short_port, text_split, plain_text, path_list, first_is_slash, no_question_mark, query_begins}
use Rattle.address.proofs.DirLemmas.{dir_begins, dir_ends, file_has_no_slash}
use Rattle.address.proofs.OriginLemmas.{at_path, text_at_origin, root_is, robots_is, join_root, join_robots, same_origin}
use Rattle.std.proofs.lemmas.Bool.Decides.{nat_tests}
use Rattle.std.proofs.Common.{arith}

authority_byte : (b : ℕ) → Passes is_host_byte b → IsAuthorityByte b
authority_byte b passes = (λ e. grind (arith, nat_tests), λ e. grind (arith, nat_tests), λ e. grind (arith, nat_tests), λ e. grind (arith, nat_tests))

pub IsAddress-url_text_of : (url : Parts) → IsHttp url → IsAddress (url_text_of url)
IsAddress-url_text_of url http =
    let parts = normal url http in
    let path = path_list url http in
    let first = first_is_slash url.path path.0 path.1 in
    let unmarked = no_question_mark url.path path.0 in
    let scheme = scheme_of-url_text_of url http in
    let own = own_port (scheme_in url) url.port (subst (λ s. IsPortOf s url.port) http.scheme http.valid.head.port) in
    let host : host_of (url_text_of url) ≡ host_text parts.host = host_of-url_text_of url http ∙ ap (λ o. host_text (unwrap_or o (Domain []))) parts.named in
    let n = dir_len url.path in
    let query : IfSome url.query (All (IsKept SPECIAL_QUERY)) = subst (λ k. IfSome url.query (All (IsKept (query_set k)))) (http_kind url http.scheme) http.valid.query in
    let tail = text_between url AfterPath AfterQuery in
    record {
      reads = ap (λ s. address_against s None (url_text_of url)) scheme ∙ read_own_text url None http;
      either = reads_either (scheme_in url) (url_text_of url) url http.scheme (parse_own_text url None http) http.short (read_own_text url None http);
      joins = λ base same. ap (λ s. address_against s (Some (url_of base)) (url_text_of url)) (same ∙ scheme) ∙ read_own_text url (Some (url_of base)) http;
      short = http.short;
      plain = subst (λ (u : Parts). All IsAddressByte (url_text_of u)) (sym parts.same) (plain_text (scheme_in url) parts.host url.port url.path url.query parts.is_host own (segment_list_kept SpecialNotFile url.path path.0) query);
      split = text_split url (authority_is url http) http.fragment ∙ (λ i. sym (origin_of-url_text_of url http) i ++ sym (path_query_of-url_text_of url http) i);
      origin = origin_of-url_text_of url http ∙ origin_text url http ∙ (λ i. scheme_text (sym scheme i) ++ (codes "://" ++ sym (authority_of-url_text_of url http) i));
      authority = authority_of-url_text_of url http ∙ authority_text url ∙ (λ i. sym (host_of-url_text_of url http) i ++ port_text (sym (port_of-url_text_of url http) i));
      authority_bytes = subst (All IsAuthorityByte) (sym (authority_of-url_text_of url http)) (All-weaker (Passes is_host_byte) IsAuthorityByte authority_byte (text_between url BeforeHost AfterPort) (host_and_port_bytes url http.valid.head));
      short_authority =
          let both = ap length (authority_text url) ∙ length-append (host_text (host_or_empty url)) (port_text url.port) in
          let short = short_port (scheme_in url) url.port own in
          let short_host = http.short_host in
          subst (λ (t : List ℕ). length t ≤ MAX_HOST + 6) (sym (authority_of-url_text_of url http)) (omega arith);
      host = subst (λ (t : List ℕ). 0 < length t) (sym host) (host_nonempty parts.host parts.is_host);
      short_host = subst (λ (t : List ℕ). length t ≤ MAX_HOST) (sym (host_of-url_text_of url http)) http.short_host;
      port = subst (λ s. IfSome (port_of (url_text_of url)) (IsOwnPort s)) (sym scheme) (subst (λ p. IfSome p (IsOwnPort (scheme_in url))) (sym (port_of-url_text_of url http)) own);
      path_query = ap (λ t. get_or t 0 0) (path_query_of-url_text_of url http) ∙ get_or_append_left url.path _ 0 0 path.1 ∙ first;
      path_parts = path_query_of-url_text_of url http ∙ ap (λ p. p ++ tail) (sym (take-append-drop n url.path)) ∙ append_assoc (take n url.path) (drop n url.path) tail ∙ (λ i. sym (dir_of-url_text_of url http) i ++ (sym (file_of-url_text_of url http) i ++ sym (query_of-url_text_of url http) i));
      dir_begins = ap (λ t. get_or t 0 0) (dir_of-url_text_of url http) ∙ dir_begins url.path first path.1;
      dir_ends = ap (λ t. get_or t (length t - 1) 0) (dir_of-url_text_of url http) ∙ dir_ends url.path first path.1;
      dir_bytes = subst (All (λ b. b ≢ 63)) (sym (dir_of-url_text_of url http)) (All-take (λ b. b ≢ 63) n url.path unmarked);
      file_bytes = subst (All (λ b. (b ≢ 47) × (b ≢ 63))) (sym (file_of-url_text_of url http)) (λ k d inside. (file_has_no_slash url.path k d inside, All-drop (λ b. b ≢ 63) n url.path unmarked k d inside));
      query = subst (λ q. (q ≡ []) ⊎ (get_or q 0 0 ≡ 63)) (sym (query_of-url_text_of url http)) (query_begins url.query);
      root = join_root url http;
      root_origin = same_origin url (codes "/") http (root_is url http);
      robots = join_robots url http;
      robots_origin = same_origin url (codes "/robots.txt") http (robots_is url http);
    }

-- the origin of such a URL, with `/` and with `/robots.txt`
pub IsOrigin-url_text_of : (url : Parts) → IsHttp url → IsOrigin (origin_of (url_text_of url))
IsOrigin-url_text_of url http =
    let root = at_path url (codes "/") in
    let there = root_is url http in
    let at = text_at_origin url (codes "/") http in
    let robots = IsAddress-url_text_of (at_path url (codes "/robots.txt")) (robots_is url http) in
    let robots_at = text_at_origin url (codes "/robots.txt") http in
    let same = (same_origin url (codes "/") http there).origin in
    record {
      address = subst IsAddress at (IsAddress-url_text_of root there);
      origin = same;
      robots_file = subst IsAddress robots_at robots;
      robots_origin = (same_origin url (codes "/robots.txt") http (robots_is url http)).origin;
      robots_path = ap path_query_of (sym robots_at) ∙ path_query_of-url_text_of (at_path url (codes "/robots.txt")) (robots_is url http);
      joined = subst (λ t. join_address t (codes "/robots.txt") ≡ Ok (origin_of t ++ codes "/robots.txt")) at (join_robots root there) ∙ ap (λ o. Ok (o ++ codes "/robots.txt")) same;
    }
