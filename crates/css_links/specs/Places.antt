-- Places in a style sheet: where the next byte is, and what it changes (CSS Syntax Level 3, section 4.3, narrowed to
-- comments, words, strings, URLs and functions; CSS Cascading and Inheritance, section 2, for `@import`; CSS Images Module
-- Level 4, section 2.4, for `image-set`).
use Rattle.std.specs.Prelude.{ℕ, ◌+◌, Bool, false, ◌&&◌, ◌||◌, List, nat_lt, if◌then◌else◌, ◌==◌, codes}
use Rattle.std.specs.Char.{is_ascii_hexdigit}
use Rattle.std.specs.Str.{bytes_eq}
use Rattle.css_links.specs.Bytes.{is_newline, is_white, is_quote, is_name, is_unfit, lower}
use Rattle.css_links.specs.Escapes.{unescaped}
use Rattle.css_links.specs.declared.place.Lead.{Lead}
use Rattle.css_links.specs.declared.place.Lead.TheVariants as lead
use Rattle.css_links.specs.declared.place.SheetPart.{SheetPart}
use Rattle.css_links.specs.declared.place.SheetPart.TheVariants.{Word, Reference, Other, Bare, Bad}
use Rattle.css_links.specs.declared.place.Escape.{Escape}
use Rattle.css_links.specs.declared.place.Escape.TheVariants.{Begun, Digits, Return}
use Rattle.css_links.specs.declared.place.Turn.{Turn}
use Rattle.css_links.specs.declared.place.Turn.TheVariants.{At, Anew, First, With, Refer, Quote, UrlQuote, Open, Close}
use Rattle.css_links.specs.declared.place.Place.{Place}
use Rattle.css_links.specs.declared.place.Place.TheVariants.{Between, Slash, Comment, CommentStar, Import, ImportSlash, ImportComment, ImportCommentStar, Inside, Escaped, UrlBegun, UrlEnded}

-- ---- words

-- whether the text is that word, in any case
abbrev pub is_word : List ℕ → List ℕ → Bool
is_word word raw = bytes_eq (lower (unescaped raw)) word

-- whether it is the name of the function of an image set
abbrev pub is_set : List ℕ → Bool
is_set raw = is_word (codes "image-set") raw || is_word (codes "-webkit-image-set") raw

-- ---- the places: what the next byte does there

-- between words, strings, URLs and comments
abbrev pub between : ℕ → Turn
between b =
    if b == 47 then At Slash
    else if is_quote b then Quote b
    else if b == 40 then Open false
    else if b == 41 then Close
    else if b == 35 then Anew (Inside (Word lead.Hash))
    else if b == 64 then Anew (Inside (Word lead.At))
    else if b == 92 then First (Escaped (Word lead.Nothing) Begun)
    else if is_name b then First (Inside (Word lead.Nothing))
    else At Between

-- after a `/` (section 4.3.2)
abbrev pub slash : ℕ → Turn
slash b = if b == 42 then At Comment else between b

-- in a comment, after a `*`
abbrev pub comment : ℕ → Turn
comment b = if b == 42 then At CommentStar else At Comment

abbrev pub comment_star : ℕ → Turn
comment_star b = if b == 47 then At Between else comment b

-- after `@import`: white, comments, and then perhaps a string that is a reference
abbrev pub import : ℕ → Turn
import b =
    if is_white b then At Import
    else if b == 47 then At ImportSlash
    else if is_quote b then Anew (Inside (Reference b))
    else between b

abbrev pub import_slash : ℕ → Turn
import_slash b = if b == 42 then At ImportComment else slash b

abbrev pub import_comment : ℕ → Turn
import_comment b = if b == 42 then At ImportCommentStar else At ImportComment

abbrev pub import_comment_star : ℕ → Turn
import_comment_star b = if b == 47 then At Import else import_comment b

-- after a word and `(`: `url(` begins a URL, any other word is the name of a function (section 4.3.4)
abbrev pub function : List ℕ → Turn
function raw = if is_word (codes "url") raw then Anew UrlBegun else Open (is_set raw)

-- after a word
abbrev pub behind_word : Lead → List ℕ → ℕ → Turn
behind_word lead.Nothing raw b = if b == 40 then function raw else between b
behind_word lead.Hash raw b = between b
behind_word lead.At raw b = if is_word (codes "import") raw then import b else between b

-- in a word (section 4.3.12)
abbrev pub word : Lead → List ℕ → ℕ → Turn
word l raw b =
    if is_name b then With (Inside (Word l))
    else if b == 92 then With (Escaped (Word l) Begun)
    else behind_word l raw b

-- in a string that is a reference: a newline ends it as a bad string, which is none (section 4.3.5)
abbrev pub reference_string : ℕ → ℕ → Turn
reference_string quote b =
    if b == quote then Refer
    else if is_newline b then At Between
    else if b == 92 then With (Escaped (Reference quote) Begun)
    else With (Inside (Reference quote))

-- in any other string
abbrev pub other_string : ℕ → ℕ → Turn
other_string quote b =
    if b == quote || is_newline b then At Between
    else if b == 92 then At (Escaped (Other quote) Begun)
    else At (Inside (Other quote))

-- in a URL without quotes (section 4.3.6)
abbrev pub bare : ℕ → Turn
bare b =
    if b == 41 then Refer
    else if is_white b then At UrlEnded
    else if b == 92 then With (Escaped Bare Begun)
    else if is_unfit b then At (Inside Bad)
    else With (Inside Bare)

-- in what is left of a bad URL (section 4.3.14)
abbrev pub bad : ℕ → Turn
bad b =
    if b == 41 then At Between
    else if b == 92 then At (Escaped Bad Begun)
    else At (Inside Bad)

-- after `url(` and white: in quotes or bare
abbrev pub url_begun : ℕ → Turn
url_begun b =
    if is_white b then At UrlBegun
    else if is_quote b then UrlQuote b
    else bare b

-- after a URL without quotes and white
abbrev pub url_ended : ℕ → Turn
url_ended b =
    if is_white b then At UrlEnded
    else if b == 41 then Refer
    else bad b

-- in a part
abbrev pub inside : SheetPart → List ℕ → ℕ → Turn
inside (Word l) raw b = word l raw b
inside (Reference quote) raw b = reference_string quote b
inside (Other quote) raw b = other_string quote b
inside Bare raw b = bare b
inside Bad raw b = bad b

-- ---- escapes

-- the place, with the byte put to the part's text, if that is kept
abbrev pub put : SheetPart → Place → Turn
put (Word l) p = With p
put (Reference quote) p = With p
put (Other quote) p = At p
put Bare p = With p
put Bad p = At p

-- a newline in a string, after a backslash: it is left out
abbrev pub continued : SheetPart → ℕ → Turn
continued part b = if b == 13 then put part (Escaped part Return) else put part (Inside part)

-- a newline after a backslash: no escape, except in a string (section 4.3.8)
abbrev pub broken : SheetPart → ℕ → Turn
broken (Word l) b = At Between
broken (Reference quote) b = continued (Reference quote) b
broken (Other quote) b = continued (Other quote) b
broken Bare b = At (Inside Bad)
broken Bad b = At (Inside Bad)

-- after a backslash (section 4.3.7)
abbrev pub escape_begun : SheetPart → ℕ → Turn
escape_begun part b =
    if is_newline b then broken part b
    else if is_ascii_hexdigit b then put part (Escaped part (Digits 1))
    else put part (Inside part)

-- after a number of at most six digits: a white belongs to it
abbrev pub escape_digits : SheetPart → ℕ → List ℕ → ℕ → Turn
escape_digits part n raw b =
    if nat_lt n 6 && is_ascii_hexdigit b then put part (Escaped part (Digits (n + 1)))
    else if b == 13 then put part (Escaped part Return)
    else if is_white b then put part (Inside part)
    else inside part raw b

-- after a carriage return in an escape
abbrev pub escape_return : SheetPart → List ℕ → ℕ → Turn
escape_return part raw b = if b == 10 then put part (Inside part) else inside part raw b

-- in an escape in a part
abbrev pub escaped : SheetPart → Escape → List ℕ → ℕ → Turn
escaped part Begun raw b = escape_begun part b
escaped part (Digits n) raw b = escape_digits part n raw b
escaped part Return raw b = escape_return part raw b

-- ---- all places

-- what a byte does in a place, after that text of a word, string or URL
abbrev pub turn : Place → List ℕ → ℕ → Turn
turn Between raw b = between b
turn Slash raw b = slash b
turn Comment raw b = comment b
turn CommentStar raw b = comment_star b
turn Import raw b = import b
turn ImportSlash raw b = import_slash b
turn ImportComment raw b = import_comment b
turn ImportCommentStar raw b = import_comment_star b
turn (Inside part) raw b = inside part raw b
turn (Escaped part escape) raw b = escaped part escape raw b
turn UrlBegun raw b = url_begun b
turn UrlEnded raw b = url_ended b
