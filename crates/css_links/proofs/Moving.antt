-- Which turns there are: from which zone a byte leads to which.
use Rattle.std.proofs.Common.{◌≡◌, ◌==◌, ◌&&◌, ◌||◌, ℕ, nat_lt, Bool, true, false, List, if◌then◌else◌, refl, codes}
use Rattle.std.proofs.lemmas.Bool.{eqb-true}
use Rattle.std.specs.Char.{is_ascii_hexdigit}
use Rattle.css_links.specs.Bytes.{is_newline, is_white, is_quote, is_name, is_unfit}
use Rattle.css_links.specs.Places.{is_word, between, slash, comment, import, import_comment, function, behind_word, word, reference_string, other_string, bare, bad, url_begun, url_ended, inside, put, continued, broken, escaped, turn}
use Rattle.css_links.specs.Rewriting.{part_zone, zone}
use Rattle.css_links.specs.declared.zone.Zone.{Zone}
use Rattle.css_links.specs.declared.zone.Zone.TheVariants as zones
use Rattle.css_links.specs.declared.place.Lead.{Lead}
use Rattle.css_links.specs.declared.place.Lead.TheVariants as lead
use Rattle.css_links.specs.declared.place.Turn.{Turn}
use Rattle.css_links.specs.declared.place.Turn.TheVariants.{At, Anew, First, With, Refer, Quote, UrlQuote, Open, Close}
use Rattle.css_links.specs.declared.place.SheetPart.{SheetPart}
use Rattle.css_links.specs.declared.place.SheetPart.TheVariants.{Word, Reference, Other, Bare, Bad}
use Rattle.css_links.specs.declared.place.Escape.{Escape}
use Rattle.css_links.specs.declared.place.Escape.TheVariants.{Begun, Digits, Return}
use Rattle.css_links.specs.declared.place.Place.{Place}
use Rattle.css_links.specs.declared.place.Place.TheVariants.{Between, Slash, Comment, CommentStar, Import, ImportSlash, ImportComment, ImportCommentStar, Inside, Escaped, UrlBegun, UrlEnded}

-- nothing is held back
abbrev pub Free : Zone → Type 0
Free zones.Outside = Unit
Free zones.Begun = Unit
Free (zones.Quoted quote) = ⊥
Free zones.Unquoted = ⊥
Free zones.Ended = ⊥

-- to a place in that zone
abbrev pub MoveAt : Zone → Zone → Place → ℕ → Type 0
MoveAt from zones.Outside q b = Unit
MoveAt zones.Begun zones.Begun q b = q ≡ UrlBegun
MoveAt zones.Unquoted zones.Ended q b = is_white b ≡ true
MoveAt zones.Ended zones.Ended q b = is_white b ≡ true
MoveAt _ _ q b = ⊥

-- to one where a text begins after the byte
abbrev pub MoveAnew : Zone → Place → Type 0
MoveAnew zones.Outside q = Unit
MoveAnew zones.Begun q = q ≡ UrlBegun
MoveAnew (zones.Quoted quote) q = (q ≡ Inside (Reference quote)) × (is_quote quote ≡ true)
MoveAnew zones.Unquoted q = ⊥
MoveAnew zones.Ended q = ⊥

-- to one where the text goes on
abbrev pub MoveWith : Zone → Zone → Type 0
MoveWith zones.Outside zones.Outside = Unit
MoveWith (zones.Quoted quote) (zones.Quoted other) = other ≡ quote
MoveWith zones.Begun zones.Unquoted = Unit
MoveWith zones.Unquoted zones.Unquoted = Unit
MoveWith _ _ = ⊥

-- out of a reference
abbrev pub MoveRefer : Zone → ℕ → Type 0
MoveRefer zones.Outside b = ⊥
MoveRefer zones.Begun b = Unit
MoveRefer (zones.Quoted quote) b = b ≡ quote
MoveRefer zones.Unquoted b = b ≡ 41
MoveRefer zones.Ended b = b ≡ 41

-- a turn from a zone
abbrev pub Move : Zone → ℕ → Turn → Type 0
Move z b (At q) = MoveAt z (zone q) q b
Move z b (Anew q) = Free z × MoveAnew (zone q) q
Move z b (First q) = Free z × (zone q ≡ zones.Outside)
Move z b (With q) = MoveWith z (zone q)
Move z b Refer = MoveRefer z b
Move z b (Quote quote) = Free z × (is_quote quote ≡ true)
Move z b (UrlQuote quote) = Free z × (is_quote quote ≡ true)
Move z b (Open set) = Free z
Move z b Close = Free z

if_move : (z : Zone) (b : ℕ) (c : Bool) (x y : Turn) → (c ≡ true → Move z b x) → (c ≡ false → Move z b y) → Move z b (if c then x else y)
if_move z b true x y h k = h refl
if_move z b false x y h k = k refl

between_moves : (b : ℕ) → Move zones.Outside b (between b)
between_moves b =
    if_move zones.Outside b (b == 47) _ _ (λ _. tt)
    (λ _. if_move zones.Outside b (is_quote b) _ _ (λ e. (tt, e))
    (λ _. if_move zones.Outside b (b == 40) _ _ (λ _. tt)
    (λ _. if_move zones.Outside b (b == 41) _ _ (λ _. tt)
    (λ _. if_move zones.Outside b (b == 35) _ _ (λ _. (tt, tt))
    (λ _. if_move zones.Outside b (b == 64) _ _ (λ _. (tt, tt))
    (λ _. if_move zones.Outside b (b == 92) _ _ (λ _. (tt, refl))
    (λ _. if_move zones.Outside b (is_name b) _ _ (λ _. (tt, refl)) (λ _. tt))))))))

slash_moves : (b : ℕ) → Move zones.Outside b (slash b)
slash_moves b = if_move zones.Outside b (b == 42) _ _ (λ _. tt) (λ _. between_moves b)

comment_moves : (b : ℕ) → Move zones.Outside b (comment b)
comment_moves b = if_move zones.Outside b (b == 42) _ _ (λ _. tt) (λ _. tt)

import_moves : (b : ℕ) → Move zones.Outside b (import b)
import_moves b =
    if_move zones.Outside b (is_white b) _ _ (λ _. tt)
    (λ _. if_move zones.Outside b (b == 47) _ _ (λ _. tt)
    (λ _. if_move zones.Outside b (is_quote b) _ _ (λ e. (tt, (refl, e))) (λ _. between_moves b)))

import_comment_moves : (b : ℕ) → Move zones.Outside b (import_comment b)
import_comment_moves b = if_move zones.Outside b (b == 42) _ _ (λ _. tt) (λ _. tt)

function_moves : (raw : List ℕ) (b : ℕ) → Move zones.Outside b (function raw)
function_moves raw b = if_move zones.Outside b (is_word (codes "url") raw) _ _ (λ _. (tt, refl)) (λ _. tt)

behind_moves : (l : Lead) (raw : List ℕ) (b : ℕ) → Move zones.Outside b (behind_word l raw b)
behind_moves lead.Nothing raw b = if_move zones.Outside b (b == 40) _ _ (λ _. function_moves raw b) (λ _. between_moves b)
behind_moves lead.Hash raw b = between_moves b
behind_moves lead.At raw b = if_move zones.Outside b (is_word (codes "import") raw) _ _ (λ _. import_moves b) (λ _. between_moves b)

word_moves : (l : Lead) (raw : List ℕ) (b : ℕ) → Move zones.Outside b (word l raw b)
word_moves l raw b = if_move zones.Outside b (is_name b) _ _ (λ _. tt) (λ _. if_move zones.Outside b (b == 92) _ _ (λ _. tt) (λ _. behind_moves l raw b))

reference_moves : (quote b : ℕ) → Move (zones.Quoted quote) b (reference_string quote b)
reference_moves quote b =
    if_move (zones.Quoted quote) b (b == quote) _ _ (λ e. eqb-true b quote e)
    (λ _. if_move (zones.Quoted quote) b (is_newline b) _ _ (λ _. tt)
    (λ _. if_move (zones.Quoted quote) b (b == 92) _ _ (λ _. refl) (λ _. refl)))

other_moves : (quote b : ℕ) → Move zones.Outside b (other_string quote b)
other_moves quote b =
    if_move zones.Outside b (b == quote || is_newline b) _ _ (λ _. tt)
    (λ _. if_move zones.Outside b (b == 92) _ _ (λ _. tt) (λ _. tt))

bare_moves : (b : ℕ) → Move zones.Unquoted b (bare b)
bare_moves b =
    if_move zones.Unquoted b (b == 41) _ _ (λ e. eqb-true b 41 e)
    (λ _. if_move zones.Unquoted b (is_white b) _ _ (λ e. e)
    (λ _. if_move zones.Unquoted b (b == 92) _ _ (λ _. tt)
    (λ _. if_move zones.Unquoted b (is_unfit b) _ _ (λ _. tt) (λ _. tt))))

bad_moves : (z : Zone) (b : ℕ) → Move z b (bad b)
bad_moves z b = if_move z b (b == 41) _ _ (λ _. tt) (λ _. if_move z b (b == 92) _ _ (λ _. tt) (λ _. tt))

-- after `url(` no white ends a URL, since it was looked for before
begun_bare_moves : (b : ℕ) → is_white b ≡ false → Move zones.Begun b (bare b)
begun_bare_moves b white =
    if_move zones.Begun b (b == 41) _ _ (λ _. tt)
    (λ _. if_move zones.Begun b (is_white b) _ _ (λ e. absurd (cc))
    (λ _. if_move zones.Begun b (b == 92) _ _ (λ _. tt)
    (λ _. if_move zones.Begun b (is_unfit b) _ _ (λ _. tt) (λ _. tt))))

begun_moves : (b : ℕ) → Move zones.Begun b (url_begun b)
begun_moves b =
    if_move zones.Begun b (is_white b) _ _ (λ _. refl)
    (λ white. if_move zones.Begun b (is_quote b) _ _ (λ e. (tt, e)) (λ _. begun_bare_moves b white))

ended_moves : (b : ℕ) → Move zones.Ended b (url_ended b)
ended_moves b =
    if_move zones.Ended b (is_white b) _ _ (λ e. e)
    (λ _. if_move zones.Ended b (b == 41) _ _ (λ e. eqb-true b 41 e) (λ _. bad_moves zones.Ended b))

inside_moves : (part : SheetPart) (raw : List ℕ) (b : ℕ) → Move (part_zone part) b (inside part raw b)
inside_moves (Word l) raw b = word_moves l raw b
inside_moves (Reference quote) raw b = reference_moves quote b
inside_moves (Other quote) raw b = other_moves quote b
inside_moves Bare raw b = bare_moves b
inside_moves Bad raw b = bad_moves zones.Outside b

put_inside : (part : SheetPart) (b : ℕ) → Move (part_zone part) b (put part (Inside part))
put_inside (Word l) b = tt
put_inside (Reference quote) b = refl
put_inside (Other quote) b = tt
put_inside Bare b = tt
put_inside Bad b = tt

put_escaped : (part : SheetPart) (escape : Escape) (b : ℕ) → Move (part_zone part) b (put part (Escaped part escape))
put_escaped (Word l) escape b = tt
put_escaped (Reference quote) escape b = refl
put_escaped (Other quote) escape b = tt
put_escaped Bare escape b = tt
put_escaped Bad escape b = tt

continued_moves : (part : SheetPart) (b : ℕ) → Move (part_zone part) b (continued part b)
continued_moves part b = if_move (part_zone part) b (b == 13) _ _ (λ _. put_escaped part Return b) (λ _. put_inside part b)

broken_moves : (part : SheetPart) (b : ℕ) → Move (part_zone part) b (broken part b)
broken_moves (Word l) b = tt
broken_moves (Reference quote) b = continued_moves (Reference quote) b
broken_moves (Other quote) b = continued_moves (Other quote) b
broken_moves Bare b = tt
broken_moves Bad b = tt

escaped_moves : (part : SheetPart) (escape : Escape) (raw : List ℕ) (b : ℕ) → Move (part_zone part) b (escaped part escape raw b)
escaped_moves part Begun raw b =
    if_move (part_zone part) b (is_newline b) _ _ (λ _. broken_moves part b)
    (λ _. if_move (part_zone part) b (is_ascii_hexdigit b) _ _ (λ _. put_escaped part (Digits 1) b) (λ _. put_inside part b))
escaped_moves part (Digits n) raw b =
    if_move (part_zone part) b (nat_lt n 6 && is_ascii_hexdigit b) _ _ (λ _. put_escaped part _ b)
    (λ _. if_move (part_zone part) b (b == 13) _ _ (λ _. put_escaped part Return b)
    (λ _. if_move (part_zone part) b (is_white b) _ _ (λ _. put_inside part b) (λ _. inside_moves part raw b)))
escaped_moves part Return raw b = if_move (part_zone part) b (b == 10) _ _ (λ _. put_inside part b) (λ _. inside_moves part raw b)

-- each turn is one of them
pub moves : (p : Place) (raw : List ℕ) (b : ℕ) → Move (zone p) b (turn p raw b)
moves Between raw b = between_moves b
moves Slash raw b = slash_moves b
moves Comment raw b = comment_moves b
moves CommentStar raw b = if_move zones.Outside b (b == 47) _ _ (λ _. tt) (λ _. comment_moves b)
moves Import raw b = import_moves b
moves ImportSlash raw b = if_move zones.Outside b (b == 42) _ _ (λ _. tt) (λ _. slash_moves b)
moves ImportComment raw b = import_comment_moves b
moves ImportCommentStar raw b = if_move zones.Outside b (b == 47) _ _ (λ _. tt) (λ _. import_comment_moves b)
moves (Inside part) raw b = inside_moves part raw b
moves (Escaped part escape) raw b = escaped_moves part escape raw b
moves UrlBegun raw b = begun_moves b
moves UrlEnded raw b = ended_moves b
