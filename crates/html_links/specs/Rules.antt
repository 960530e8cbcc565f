-- Which links of a page are taken (GNU Wget manual, chapter Following Links: `--relative`, `--follow-tags`, `--ignore-tags`).
use Rattle.std.specs.Prelude.{ℕ, Bool, true, false, not, nat_lt, ◌==◌, ◌||◌, ◌&&◌, List, [], ◌∷◌, filter, map, get_or, length, codes}
use Rattle.std.specs.List.{slice_split, list_all, list_any}
use Rattle.std.specs.Str.{bytes_eq}
use Rattle.std.specs.Char.{is_ascii_alphabetic, is_ascii_alphanumeric}
use Rattle.html_links.specs.Pieces.{lower, is, begins, until, from}
use Rattle.html_links.specs.Links.{Row, Link, is_followed, link_table}
use Rattle.html_links.specs.declared.links.LinkPlace.{LinkPlace}
use Rattle.html_links.specs.declared.links.LinkPlace.TheVariants as place
use Rattle.html_links.specs.declared.rules.RowSet.{RowSet}
use Rattle.html_links.specs.declared.rules.LinkRules.{LinkRules}

-- ---- texts

-- a tab or a newline, over which a reader of URLs passes (URL Standard, section 4.4)
abbrev pub is_passed : ℕ → Bool
is_passed b = b == 9 || b == 10 || b == 13

-- a text without them
abbrev pub without_passed : List ℕ → List ℕ
without_passed text = filter (λ b. not (is_passed b)) text

-- a text as a reader of URLs has it: without controls and space at its front, and without tabs and newlines
abbrev pub read : List ℕ → List ℕ
read text = without_passed (from (nat_lt 32) text)

-- what a scheme may have after its first letter: letters, digits, `+`, `-` and `.` (RFC 3986, section 3.1)
abbrev pub is_scheme_byte : ℕ → Bool
is_scheme_byte b = is_ascii_alphanumeric b || b == 43 || b == 45 || b == 46

-- whether a text begins with bytes of a scheme, if any, and a `:`
abbrev pub ends_scheme : List ℕ → Bool
ends_scheme text = begins (codes ":") (from (λ b. not (is_scheme_byte b)) text)

-- whether a text begins with a scheme: a letter and the rest of it, with its `:`
abbrev pub has_scheme : List ℕ → Bool
has_scheme [] = false
has_scheme (b ∷ bs) = is_ascii_alphabetic b && ends_scheme bs

-- whether it begins with `/`, or with `\`, which is the same in a URL
abbrev pub has_slash : List ℕ → Bool
has_slash text = begins (codes "/") text || begins (codes "\\") text

-- whether a link's text begins with neither a scheme nor `/`
abbrev pub is_relative : List ℕ → Bool
is_relative text = not (has_slash (read text) || has_scheme (read text))

-- ---- lists of elements, and of attributes of elements

-- whether two names are the same, in any case
abbrev pub is_same : List ℕ → List ℕ → Bool
is_same name other = bytes_eq (lower name) (lower other)

-- whether what follows the element in a name, `/` and an attribute or nothing, names that attribute: nothing names each
abbrev pub has_attribute : List ℕ → List ℕ → Bool
has_attribute [] attribute = true
has_attribute (slash ∷ name) attribute = is_same name attribute

-- whether a name of a list, `element` or `element/attribute`, names a row whose links are followed; 47 is `/`
abbrev pub names : List ℕ → Row → Bool
names name r = is_followed r.form && is_same (until (is 47) name) r.element && has_attribute (from (is 47) name) r.attribute

-- the names of a list; 44 is the comma
abbrev pub names_in : List ℕ → List (List ℕ)
names_in list = slice_split (λ b. b == 44) list

-- whether a list names a row
abbrev pub lists : List ℕ → Row → Bool
lists list r = list_any (λ name. names name r) (names_in list)

-- whether a list names the style sheets of a page, which are `style`
abbrev pub lists_sheets : List ℕ → Bool
lists_sheets list = list_any (λ name. is_same name (codes "style")) (names_in list)

-- whether a list has no name: it has commas alone, if anything
abbrev pub is_empty : List ℕ → Bool
is_empty list = list_all (λ b. b == 44) list

-- whether a name has an attribute for which the link table has no row whose links are followed
abbrev pub is_unknown : List ℕ → Bool
is_unknown name = not (length (from (is 47) name) == 0) && not (list_any (names name) link_table)

-- whether a list has such a name
abbrev pub has_unknown : List ℕ → Bool
has_unknown list = list_any is_unknown (names_in list)

-- ---- what is taken

-- whether links by a row are taken: the one list names it or has no name, and the other one doesn't name it
abbrev pub takes_row : List ℕ → List ℕ → Row → Bool
takes_row followed ignored r = (is_empty followed || lists followed r) && not (lists ignored r)

-- whether links of a page's style sheets are, likewise
abbrev pub takes_sheets : List ℕ → List ℕ → Bool
takes_sheets followed ignored = (is_empty followed || lists_sheets followed) && not (lists_sheets ignored)

-- what is taken by these lists
unfoldable pub taken_by : List ℕ → List ℕ → RowSet
taken_by followed ignored = record { rows = map (takes_row followed ignored) link_table; sheets = takes_sheets followed ignored }

-- all of them
unfoldable pub all_rows : RowSet
all_rows = record { rows = map (λ _. true) link_table; sheets = true }

-- all links are taken, but none of a page that asks that they aren't followed, if this is honoured
abbrev pub all_links : Bool → LinkRules
all_links robots = record { robots = robots; relative = false; rows = all_rows }

-- whether links that are written there are taken
abbrev pub takes_place : RowSet → LinkPlace → Bool
takes_place set (place.Row n) = get_or set.rows n false
takes_place set place.Sheet = set.sheets

-- whether links of that text are taken, wherever it is written
abbrev pub takes_text : LinkRules → List ℕ → Bool
takes_text rules text = not rules.relative || is_relative text

-- whether a link of a page is taken
abbrev pub takes : LinkRules → Link → Bool
takes rules link = takes_place rules.rows link.place && takes_text rules link.text
