-- What a line of the log says: why a link is rejected, the columns of where it leads, and those of its page (GNU Wget manual, Recursive Retrieval Options).
use Rattle.std.specs.Prelude.{ℕ, ◌++◌, List, codes, drop, decimal, unwrap_or}
use Rattle.address.specs.declared.scheme.Scheme.{Scheme}
use Rattle.address.specs.declared.scheme.Scheme.TheVariants.{Http, Https}
use Rattle.address.specs.Address.{AddressText, scheme_of, scheme_port, host_of, port_of, dir_of, file_of, query_of}
use Rattle.rejected_links.specs.declared.reason.Reason.{Reason}
use Rattle.rejected_links.specs.Reasons.{word_of}

-- a link that is rejected: why, where it leads, and the page that has it
pub record Rejected : Type 0 where
  pub reason : Reason
  pub target : AddressText
  pub page : AddressText

-- Wget's word for a scheme
abbrev pub scheme_word : Scheme → List ℕ
scheme_word Http = codes "SCHEME_HTTP"
scheme_word Https = codes "SCHEME_HTTPS"

-- the port, that of the scheme if the address names none
abbrev pub port_text : AddressText → List ℕ
port_text u = decimal (unwrap_or (port_of u) (scheme_port (scheme_of u)))

-- the columns of an address's parts: scheme, host, port, the path without its first slash, parameters, the query without its `?`, and the
-- fragment. An http address has no parameters, and none has a fragment.
unfoldable pub parts_text : AddressText → List ℕ
parts_text u =
    scheme_word (scheme_of u) ++ (codes "\t" ++ (host_of u ++ (codes "\t" ++ (port_text u ++ (codes "\t"
    ++ (drop 1 (dir_of u ++ file_of u) ++ (codes "\t\t" ++ (drop 1 (query_of u) ++ codes "\t"))))))))

-- the eight columns of an address, each after a tab: the address as the report has it, and its parts
abbrev pub columns : AddressText → List ℕ
columns u = codes "\t" ++ (u ++ (codes "\t" ++ parts_text u))

-- the line of a link
abbrev pub line_text : Rejected → List ℕ
line_text link = word_of link.reason ++ (columns link.target ++ (columns link.page ++ codes "\n"))

-- the line of the columns' names
abbrev pub header : List ℕ
header = codes "REASON\tU_URL\tU_SCHEME\tU_HOST\tU_PORT\tU_PATH\tU_PARAMS\tU_QUERY\tU_FRAGMENT\tP_URL\tP_SCHEME\tP_HOST\tP_PORT\tP_PATH\tP_PARAMS\tP_QUERY\tP_FRAGMENT\n"
