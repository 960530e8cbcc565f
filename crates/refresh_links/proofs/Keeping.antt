-- A content that is written anew is read as the content with its URL changed.
use Rattle.std.proofs.Common.{◌≡◌, ◌⊎◌, inl, inr, ◌==◌, ◌&&◌, ◌||◌, ℕ, Bool, true, false, not, List, [], ◌∷◌, ◌++◌, Option, Some, None, option_map, if◌then◌else◌, refl, sym, ap, ◌∙◌, subst, append_assoc, append-nil}
use Rattle.std.proofs.lemmas.Bool.{eqb-true, eq-eqb}
use Rattle.std.specs.List.{list_all}
use Rattle.css_links.specs.Rewriting.{Change, or_same, changed}
use Rattle.refresh_links.specs.Refresh.{is_white, is_quote, is_time, separates, quote_or_url, url_begins, quoted, turn, Front, front, reference, turned, step, nothing_read, fed, ended_in, ended, reference_of}
use Rattle.refresh_links.specs.Rewriting.{is_unquoted, is_unequal, IsWritable, CanBeUrl, IsWriting, written_or, anew, Rewrite, out_of, rewrite_step, nothing_written, rewrite_fed, closed, rewrite_ended, rewritten}
use Rattle.refresh_links.specs.declared.place.ContentTurn.{ContentTurn}
use Rattle.refresh_links.specs.declared.place.ContentTurn.TheVariants.{At, First, With, End}
use Rattle.refresh_links.specs.declared.place.ContentPlace.{ContentPlace}
use Rattle.refresh_links.specs.declared.place.ContentPlace.TheVariants.{Start, Time, Behind, Before, U, R, L, Equals, Url, Quoted, Done, Bad}

fed-append : (s : Front) (xs ys : List ℕ) → fed s (xs ++ ys) ≡ fed (fed s xs) ys
fed-append s [] ys = refl
fed-append s (b ∷ bs) ys = fed-append (step s b) bs ys

-- ---- which turns there are

-- what a place is in: nothing, a URL without quotes, one in quotes
pub data Zone : Type 0 where
  Out : Zone
  Open : Zone
  In : ℕ → Zone

abbrev pub zone : ContentPlace → Zone
zone Start = Out
zone Time = Out
zone Behind = Out
zone Before = Out
zone U = Open
zone R = Open
zone L = Open
zone Equals = Out
zone Url = Open
zone (Quoted quote) = In quote
zone Done = Out
zone Bad = Out

-- a place in which a URL without quotes may begin
abbrev pub Begins : ContentPlace → Type 0
Begins Behind = Unit
Begins Before = Unit
Begins Equals = Unit
Begins _ = ⊥

abbrev pub MoveAt : Zone → Type 0
MoveAt Out = Unit
MoveAt Open = ⊥
MoveAt (In quote) = is_quote quote ≡ true

abbrev pub MoveFirst : Zone → Type 0
MoveFirst Out = ⊥
MoveFirst Open = Unit
MoveFirst (In quote) = ⊥

abbrev pub MoveWith : Zone → Zone → ContentPlace → Type 0
MoveWith Open Open q = Unit
MoveWith (In quote) (In other) q = q ≡ Quoted quote
MoveWith _ _ q = ⊥

abbrev pub MoveEnd : Zone → ℕ → Type 0
MoveEnd Out b = ⊥
MoveEnd Open b = ⊥
MoveEnd (In quote) b = b ≡ quote

abbrev pub Move : ContentPlace → ℕ → ContentTurn → Type 0
Move p b (At q) = MoveAt (zone q)
Move p b (First q) = Begins p × MoveFirst (zone q)
Move p b (With q) = MoveWith (zone p) (zone q) q
Move p b End = MoveEnd (zone p) b

if_move : (p : ContentPlace) (b : ℕ) (c : Bool) (x y : ContentTurn) → (c ≡ true → Move p b x) → (c ≡ false → Move p b y) → Move p b (if c then x else y)
if_move p b true x y h k = h refl
if_move p b false x y h k = k refl

quote_moves : (p : ContentPlace) (b : ℕ) → Begins p → Move p b (quote_or_url b)
quote_moves p b m = if_move p b (is_quote b) (At (Quoted b)) (First Url) (λ e. e) (λ _. (m, tt))

begin_moves : (p : ContentPlace) (b : ℕ) → Begins p → Move p b (url_begins b)
begin_moves p b m = if_move p b (b == 117 || b == 85) (First U) (quote_or_url b) (λ _. (m, tt)) (λ _. quote_moves p b m)

pub moves : (p : ContentPlace) (b : ℕ) → Move p b (turn p b)
moves Start b = if_move Start b (is_white b) (At Start) (if is_time b then At Time else At Bad) (λ _. tt) (λ _. if_move Start b (is_time b) (At Time) (At Bad) (λ _. tt) (λ _. tt))
moves Time b =
    if_move Time b (is_time b) (At Time) (if is_white b then At Behind else if separates b then At Before else At Bad) (λ _. tt)
    (λ _. if_move Time b (is_white b) (At Behind) (if separates b then At Before else At Bad) (λ _. tt) (λ _. if_move Time b (separates b) (At Before) (At Bad) (λ _. tt) (λ _. tt)))
moves Behind b =
    if_move Behind b (is_white b) (At Behind) (if separates b then At Before else url_begins b) (λ _. tt)
    (λ _. if_move Behind b (separates b) (At Before) (url_begins b) (λ _. tt) (λ _. begin_moves Behind b tt))
moves Before b = if_move Before b (is_white b) (At Before) (url_begins b) (λ _. tt) (λ _. begin_moves Before b tt)
moves U b = if_move U b (b == 114 || b == 82) (With R) (With Url) (λ _. tt) (λ _. tt)
moves R b = if_move R b (b == 108 || b == 76) (With L) (With Url) (λ _. tt) (λ _. tt)
moves L b = if_move L b (is_white b) (With L) (if b == 61 then At Equals else With Url) (λ _. tt) (λ _. if_move L b (b == 61) (At Equals) (With Url) (λ _. tt) (λ _. tt))
moves Equals b = if_move Equals b (is_white b) (At Equals) (quote_or_url b) (λ _. tt) (λ _. quote_moves Equals b tt)
moves Url b = tt
moves (Quoted quote) b = if_move (Quoted quote) b (b == quote) End (With (Quoted quote)) (λ e. eqb-true b quote e) (λ _. refl)
moves Done b = tt
moves Bad b = tt

-- ---- what is read of a text that is written

both : (x y : Bool) → (x && y) ≡ true → (x ≡ true) × (y ≡ true)
both true true e = (refl, refl)
both true false e = absurd (cc)
both false y e = absurd (cc)

not_true : (x : Bool) → not x ≡ true → x ≡ false
not_true true e = absurd (cc)
not_true false e = refl

-- in quotes
in_quotes : (quote : ℕ) (raw : List ℕ) (found : Option (List ℕ)) (xs : List ℕ) → is_quote quote ≡ true → list_all is_unquoted xs ≡ true → fed (front (Quoted quote) raw found) xs ≡ front (Quoted quote) (raw ++ xs) found
in_quotes quote raw found [] q h = ap (λ t. front (Quoted quote) t found) (sym (append-nil raw))
in_quotes quote raw found (b ∷ bs) q h =
    ap (λ t. fed (turned (front (Quoted quote) raw found) b t) bs) (goes_on quote b q (both (is_unquoted b) (list_all is_unquoted bs) h).0)
    ∙ in_quotes quote (raw ++ b ∷ []) found bs q (both (is_unquoted b) (list_all is_unquoted bs) h).1 ∙ ap (λ t. front (Quoted quote) t found) (append_assoc raw (b ∷ []) bs) where
      goes_on : (quote b : ℕ) → is_quote quote ≡ true → is_unquoted b ≡ true → quoted quote b ≡ With (Quoted quote)
      goes_on quote b q e = go (b == quote) refl where
        go : (t : Bool) → (b == quote) ≡ t → (if t then End else With (Quoted quote)) ≡ With (Quoted quote)
        go false f = refl
        go true f = let bad : is_quote b ≡ true = ap is_quote (eqb-true b quote f) ∙ q in let good : is_quote b ≡ false = not_true (is_quote b) e in absurd (cc)

-- without quotes, at the end of the content
in_url : (raw : List ℕ) (found : Option (List ℕ)) (xs : List ℕ) → ended (fed (front Url raw found) xs) ≡ Some (reference (raw ++ xs))
in_url raw found [] = ap (λ t. Some (reference t)) (sym (append-nil raw))
in_url raw found (b ∷ bs) = in_url (raw ++ b ∷ []) found bs ∙ ap (λ t. Some (reference t)) (append_assoc raw (b ∷ []) bs)

in_l : (raw : List ℕ) (found : Option (List ℕ)) (xs : List ℕ) → list_all is_unequal xs ≡ true → ended (fed (front L raw found) xs) ≡ Some (reference (raw ++ xs))
in_l raw found [] h = ap (λ t. Some (reference t)) (sym (append-nil raw))
in_l raw found (b ∷ bs) h =
    go (is_white b) (b == 61) (not_true (b == 61) (both (is_unequal b) (list_all is_unequal bs) h).0) (in_l (raw ++ b ∷ []) found bs (both (is_unequal b) (list_all is_unequal bs) h).1)
    ∙ ap (λ t. Some (reference t)) (append_assoc raw (b ∷ []) bs) where
      go : (t1 t2 : Bool) → t2 ≡ false → ended (fed (front L (raw ++ b ∷ []) found) bs) ≡ Some (reference ((raw ++ b ∷ []) ++ bs))
          → ended (fed (turned (front L raw found) b (if t1 then With L else if t2 then At Equals else With Url)) bs) ≡ Some (reference ((raw ++ b ∷ []) ++ bs))
      go true t2 e k = k
      go false true e k = absurd (cc)
      go false false e k = in_url (raw ++ b ∷ []) found bs

in_r : (raw : List ℕ) (found : Option (List ℕ)) (xs : List ℕ) → list_all is_unequal xs ≡ true → ended (fed (front R raw found) xs) ≡ Some (reference (raw ++ xs))
in_r raw found [] h = ap (λ t. Some (reference t)) (sym (append-nil raw))
in_r raw found (b ∷ bs) h = go (b == 108 || b == 76) ∙ ap (λ t. Some (reference t)) (append_assoc raw (b ∷ []) bs) where
  go : (t : Bool) → ended (fed (turned (front R raw found) b (if t then With L else With Url)) bs) ≡ Some (reference ((raw ++ b ∷ []) ++ bs))
  go true = in_l (raw ++ b ∷ []) found bs (both (is_unequal b) (list_all is_unequal bs) h).1
  go false = in_url (raw ++ b ∷ []) found bs

in_u : (raw : List ℕ) (found : Option (List ℕ)) (xs : List ℕ) → list_all is_unequal xs ≡ true → ended (fed (front U raw found) xs) ≡ Some (reference (raw ++ xs))
in_u raw found [] h = ap (λ t. Some (reference t)) (sym (append-nil raw))
in_u raw found (b ∷ bs) h = go (b == 114 || b == 82) ∙ ap (λ t. Some (reference t)) (append_assoc raw (b ∷ []) bs) where
  go : (t : Bool) → ended (fed (turned (front U raw found) b (if t then With R else With Url)) bs) ≡ Some (reference ((raw ++ b ∷ []) ++ bs))
  go true = in_r (raw ++ b ∷ []) found bs (both (is_unequal b) (list_all is_unequal bs) h).1
  go false = in_url (raw ++ b ∷ []) found bs

-- a text that can be a URL, where one may begin
from_quote_or_url : (p : ContentPlace) (found : Option (List ℕ)) (b : ℕ) (bs : List ℕ) → is_quote b ≡ false → ended (fed (turned (front p [] found) b (quote_or_url b)) bs) ≡ Some (reference (b ∷ bs))
from_quote_or_url p found b bs e = go (is_quote b) e where
  go : (t : Bool) → t ≡ false → ended (fed (turned (front p [] found) b (if t then At (Quoted b) else First Url)) bs) ≡ Some (reference (b ∷ bs))
  go true e = absurd (cc)
  go false e = in_url (b ∷ []) found bs

from_begins : (p : ContentPlace) (found : Option (List ℕ)) (b : ℕ) (bs : List ℕ) → IsWritable b bs → ended (fed (turned (front p [] found) b (url_begins b)) bs) ≡ Some (reference (b ∷ bs))
from_begins p found b bs w = go (b == 117 || b == 85) w.unequal where
  go : (t : Bool) → ((t ≡ false) ⊎ (list_all is_unequal bs ≡ true)) → ended (fed (turned (front p [] found) b (if t then First U else quote_or_url b)) bs) ≡ Some (reference (b ∷ bs))
  go true (inl e) = absurd (cc)
  go true (inr h) = in_u (b ∷ []) found bs h
  go false h = from_quote_or_url p found b bs (not_true (is_quote b) (both (is_unquoted b) (list_all is_unquoted bs) w.unquoted).0)

writes : (p : ContentPlace) (found : Option (List ℕ)) (b : ℕ) (bs : List ℕ) → Begins p → IsWritable b bs → ended (fed (front p [] found) (b ∷ bs)) ≡ Some (reference (b ∷ bs))
writes Start found b bs m w = absurd m
writes Time found b bs m w = absurd m
writes Behind found b bs m w = go (is_white b) (separates b) w.black w.own where
  go : (t1 t2 : Bool) → t1 ≡ false → t2 ≡ false → ended (fed (turned (front Behind [] found) b (if t1 then At Behind else if t2 then At Before else url_begins b)) bs) ≡ Some (reference (b ∷ bs))
  go true t2 e1 e2 = absurd (cc)
  go false true e1 e2 = absurd (cc)
  go false false e1 e2 = from_begins Behind found b bs w
writes Before found b bs m w = go (is_white b) w.black where
  go : (t1 : Bool) → t1 ≡ false → ended (fed (turned (front Before [] found) b (if t1 then At Before else url_begins b)) bs) ≡ Some (reference (b ∷ bs))
  go true e1 = absurd (cc)
  go false e1 = from_begins Before found b bs w
writes U found b bs m w = absurd m
writes R found b bs m w = absurd m
writes L found b bs m w = absurd m
writes Equals found b bs m w = go (is_white b) w.black where
  go : (t1 : Bool) → t1 ≡ false → ended (fed (turned (front Equals [] found) b (if t1 then At Equals else quote_or_url b)) bs) ≡ Some (reference (b ∷ bs))
  go true e1 = absurd (cc)
  go false e1 = from_quote_or_url Equals found b bs (not_true (is_quote b) (both (is_unquoted b) (list_all is_unquoted bs) w.unquoted).0)
writes Url found b bs m w = absurd m
writes (Quoted quote) found b bs m w = absurd m
writes Done found b bs m w = absurd m
writes Bad found b bs m w = absurd m

-- ---- one more byte

-- a front with its URL changed
abbrev pub mapped : Change → Front → Front
mapped change f = front f.place f.raw (option_map (changed change) f.found)

-- where a URL begins that is being read
pub record Opened (change : Change) (f : Front) (out : List ℕ) : Type 0 where
  pub place : ContentPlace
  pub begins : Begins place
  pub behind : fed nothing_read out ≡ front place [] (option_map (changed change) f.found)

-- what is known of what was written, beside that it is read as the front
abbrev pub Good : Change → Zone → Front → List ℕ → Type 0
Good change Out f out = f.raw ≡ []
Good change Open f out = Opened change f out
Good change (In quote) f out = (is_quote quote ≡ true) × (fed nothing_read out ≡ front (Quoted quote) [] (option_map (changed change) f.found))

-- what was written is read as the front, with its URL changed, except what is held back
pub record Keeps (change : Change) (f : Front) (out : List ℕ) : Type 0 where
  pub behind : fed nothing_read (out ++ f.raw) ≡ mapped change f
  pub good : Good change (zone f.place) f out

read_on : (change : Change) (f : Front) (out : List ℕ) (b : ℕ) (t : ContentTurn) → turn f.place b ≡ t → Keeps change f out
    → fed nothing_read (out ++ (f.raw ++ b ∷ [])) ≡ turned (mapped change f) b t
read_on change f out b t e k =
    ap (fed nothing_read) (sym (append_assoc out f.raw (b ∷ []))) ∙ fed-append nothing_read (out ++ f.raw) (b ∷ []) ∙ ap (λ s. step s b) k.behind ∙ ap (turned (mapped change f) b) e

quoted_place : (q : ContentPlace) (quote : ℕ) → zone q ≡ In quote → q ≡ Quoted quote
quoted_place Start quote e = absurd (cc)
quoted_place Time quote e = absurd (cc)
quoted_place Behind quote e = absurd (cc)
quoted_place Before quote e = absurd (cc)
quoted_place U quote e = absurd (cc)
quoted_place R quote e = absurd (cc)
quoted_place L quote e = absurd (cc)
quoted_place Equals quote e = absurd (cc)
quoted_place Url quote e = absurd (cc)
quoted_place (Quoted other) quote e = ap Quoted (inner other quote e) where
  inner : (a b : ℕ) → In a ≡ In b → a ≡ b
  inner a b e = ap quote_of e where
    quote_of : Zone → ℕ
    quote_of Out = 0
    quote_of Open = 0
    quote_of (In quote) = quote
quoted_place Done quote e = absurd (cc)
quoted_place Bad quote e = absurd (cc)

at_keeps : (change : Change) (f : Front) (out : List ℕ) (b : ℕ) (q : ContentPlace) → turn f.place b ≡ At q → MoveAt (zone q) → Keeps change f out → Keeps change (front q [] f.found) (out ++ (f.raw ++ b ∷ []))
at_keeps change f out b q e m k = record {
  behind = ap (fed nothing_read) (append-nil (out ++ (f.raw ++ b ∷ []))) ∙ read_on change f out b (At q) e k;
  good = good (zone q) refl m;
} where
  good : (z : Zone) → zone q ≡ z → MoveAt z → Good change z (front q [] f.found) (out ++ (f.raw ++ b ∷ []))
  good Out h m = refl
  good Open h m = absurd m
  good (In quote) h m = (m, read_on change f out b (At q) e k ∙ ap (λ p. front p [] (option_map (changed change) f.found)) (quoted_place q quote h))

begins_out : (p : ContentPlace) → Begins p → zone p ≡ Out
begins_out Start m = absurd m
begins_out Time m = absurd m
begins_out Behind m = refl
begins_out Before m = refl
begins_out U m = absurd m
begins_out R m = absurd m
begins_out L m = absurd m
begins_out Equals m = refl
begins_out Url m = absurd m
begins_out (Quoted quote) m = absurd m
begins_out Done m = absurd m
begins_out Bad m = absurd m

first_keeps : (change : Change) (f : Front) (out : List ℕ) (b : ℕ) (q : ContentPlace) → turn f.place b ≡ First q → Begins f.place → MoveFirst (zone q) → Keeps change f out → Keeps change (front q (b ∷ []) f.found) out
first_keeps change f out b q e p m k = record {
  behind = ap (λ xs. fed nothing_read (out ++ (xs ++ b ∷ []))) (sym nothing) ∙ read_on change f out b (First q) e k;
  good = good (zone q) m;
} where
  nothing : f.raw ≡ []
  nothing = go (zone f.place) (begins_out f.place p) k.good where
    go : (z : Zone) → z ≡ Out → Good change z f out → f.raw ≡ []
    go Out h g = g
    go Open h g = absurd (cc)
    go (In quote) h g = absurd (cc)

  good : (z : Zone) → MoveFirst z → Good change z (front q (b ∷ []) f.found) out
  good Out m = absurd m
  good Open m = record {
    place = f.place;
    begins = p;
    behind = ap (fed nothing_read) (sym (append-nil out) ∙ ap (λ xs. out ++ xs) (sym nothing)) ∙ k.behind ∙ ap (λ xs. front f.place xs (option_map (changed change) f.found)) nothing;
  }
  good (In quote) m = absurd m

with_keeps : (change : Change) (f : Front) (out : List ℕ) (b : ℕ) (q : ContentPlace) → turn f.place b ≡ With q → MoveWith (zone f.place) (zone q) q → Keeps change f out → Keeps change (front q (f.raw ++ b ∷ []) f.found) out
with_keeps change f out b q e m k = record {
  behind = read_on change f out b (With q) e k;
  good = good (zone f.place) (zone q) refl m k.good;
} where
  good : (zp zq : Zone) → zone q ≡ zq → MoveWith zp zq q → Good change zp f out → Good change zq (front q (f.raw ++ b ∷ []) f.found) out
  good Open Open h m g = record { place = g.place; begins = g.begins; behind = g.behind }
  good (In quote) (In other) h m g = subst (λ (n : ℕ). (is_quote n ≡ true) × (fed nothing_read out ≡ front (Quoted n) [] (option_map (changed change) f.found))) (same quote other (sym (ap zone m) ∙ h)) g where
    same : (a b : ℕ) → In a ≡ In b → a ≡ b
    same a b e = ap quote_of e where
      quote_of : Zone → ℕ
      quote_of Out = 0
      quote_of Open = 0
      quote_of (In quote) = quote
  good _ _ h m g = absurd m

utf8_written : (text : List ℕ) → CanBeUrl text → reference text ≡ text
utf8_written [] w = absurd w
utf8_written (b ∷ bs) w = w.utf8

unquoted_written : (text : List ℕ) → CanBeUrl text → list_all is_unquoted text ≡ true
unquoted_written [] w = absurd w
unquoted_written (b ∷ bs) w = w.unquoted

open_written : (p : ContentPlace) (found : Option (List ℕ)) (text : List ℕ) → Begins p → CanBeUrl text → ended (fed (front p [] found) text) ≡ Some (reference text)
open_written p found [] m w = absurd w
open_written p found (b ∷ bs) m w = writes p found b bs m w

quote_ends : (quote b : ℕ) → b ≡ quote → quoted quote b ≡ End
quote_ends quote b m = rw (eq-eqb b quote m) refl

end_keeps : (change : Change) → IsWriting change → (f : Front) (out : List ℕ) (b : ℕ) → turn f.place b ≡ End → MoveEnd (zone f.place) b → Keeps change f out
    → Keeps change (front Done [] (Some (reference f.raw))) (out ++ (anew change f.raw ++ b ∷ []))
end_keeps change writing f out b e m k = record {
  behind = ap (fed nothing_read) (append-nil (out ++ (anew change f.raw ++ b ∷ []))) ∙ go (zone f.place) m k.good (change (reference f.raw)) refl;
  good = refl;
} where
  go : (z : Zone) → MoveEnd z b → Good change z f out → (to : Option (List ℕ)) → change (reference f.raw) ≡ to
      → fed nothing_read (out ++ (anew change f.raw ++ b ∷ [])) ≡ front Done [] (Some (changed change (reference f.raw)))
  go Out m g to h = absurd m
  go Open m g to h = absurd m
  go (In quote) m g None h =
      ap (λ o. fed nothing_read (out ++ (written_or f.raw o ++ b ∷ []))) h ∙ read_on change f out b End e k ∙ ap (λ o. front Done [] (Some (or_same o (reference f.raw)))) (sym h)
  go (In quote) m g (Some other) h =
      ap (λ o. fed nothing_read (out ++ (written_or f.raw o ++ b ∷ []))) h
      ∙ fed-append nothing_read out (other ++ b ∷ []) ∙ ap (λ s. fed s (other ++ b ∷ [])) g.1
      ∙ fed-append (front (Quoted quote) [] (option_map (changed change) f.found)) other (b ∷ [])
      ∙ ap (λ s. fed s (b ∷ [])) (in_quotes quote [] (option_map (changed change) f.found) other g.0 (unquoted_written other (writing (reference f.raw) other h)))
      ∙ ap (turned (front (Quoted quote) other (option_map (changed change) f.found)) b) (quote_ends quote b m)
      ∙ ap (λ t. front Done [] (Some t)) (utf8_written other (writing (reference f.raw) other h) ∙ ap (λ o. or_same o (reference f.raw)) (sym h))

keeps_step : (change : Change) → IsWriting change → (w : Rewrite) (b : ℕ) → Keeps change w.front w.out → Keeps change (rewrite_step change w b).front (rewrite_step change w b).out
keeps_step change writing w b k = go (turn w.front.place b) refl (moves w.front.place b) where
  go : (t : ContentTurn) → turn w.front.place b ≡ t → Move w.front.place b t → Keeps change (turned w.front b t) (out_of change w b t)
  go (At q) e m = at_keeps change w.front w.out b q e m k
  go (First q) e m = first_keeps change w.front w.out b q e m.0 m.1 k
  go (With q) e m = with_keeps change w.front w.out b q e m k
  go End e m = end_keeps change writing w.front w.out b e m k

keeps_fed : (change : Change) → IsWriting change → (w : Rewrite) (bs : List ℕ) → Keeps change w.front w.out → Keeps change (rewrite_fed change w bs).front (rewrite_fed change w bs).out
keeps_fed change writing w [] k = k
keeps_fed change writing w (b ∷ bs) k = keeps_fed change writing (rewrite_step change w b) bs (keeps_step change writing w b k)

front_fed : (change : Change) (w : Rewrite) (bs : List ℕ) → (rewrite_fed change w bs).front ≡ fed w.front bs
front_fed change w [] = refl
front_fed change w (b ∷ bs) = front_fed change (rewrite_step change w b) bs

-- ---- the end of the content

-- in a URL the end of the content ends it
in_open : (p : ContentPlace) (raw : List ℕ) (found : Option (List ℕ)) → (zone p ≡ Out → ⊥) → ended_in p raw found ≡ Some (reference raw)
in_open Start raw found n = absurd (n refl)
in_open Time raw found n = absurd (n refl)
in_open Behind raw found n = absurd (n refl)
in_open Before raw found n = absurd (n refl)
in_open U raw found n = refl
in_open R raw found n = refl
in_open L raw found n = refl
in_open Equals raw found n = absurd (n refl)
in_open Url raw found n = refl
in_open (Quoted quote) raw found n = refl
in_open Done raw found n = absurd (n refl)
in_open Bad raw found n = absurd (n refl)

in_closed : (change : Change) (p : ContentPlace) (raw : List ℕ) → (zone p ≡ Out → ⊥) → closed change p raw ≡ anew change raw
in_closed change Start raw n = absurd (n refl)
in_closed change Time raw n = absurd (n refl)
in_closed change Behind raw n = absurd (n refl)
in_closed change Before raw n = absurd (n refl)
in_closed change U raw n = refl
in_closed change R raw n = refl
in_closed change L raw n = refl
in_closed change Equals raw n = absurd (n refl)
in_closed change Url raw n = refl
in_closed change (Quoted quote) raw n = refl
in_closed change Done raw n = absurd (n refl)
in_closed change Bad raw n = absurd (n refl)

out_closed : (change : Change) (p : ContentPlace) (raw : List ℕ) → zone p ≡ Out → closed change p raw ≡ []
out_closed change Start raw e = refl
out_closed change Time raw e = refl
out_closed change Behind raw e = refl
out_closed change Before raw e = refl
out_closed change U raw e = absurd (cc)
out_closed change R raw e = absurd (cc)
out_closed change L raw e = absurd (cc)
out_closed change Equals raw e = refl
out_closed change Url raw e = absurd (cc)
out_closed change (Quoted quote) raw e = absurd (cc)
out_closed change Done raw e = refl
out_closed change Bad raw e = refl

out_ended : (change : Change) (p : ContentPlace) (raw : List ℕ) (found : Option (List ℕ)) → zone p ≡ Out → ended_in p raw (option_map (changed change) found) ≡ option_map (changed change) (ended_in p raw found)
out_ended change Start raw found e = refl
out_ended change Time raw found e = refl
out_ended change Behind raw found e = refl
out_ended change Before raw found e = refl
out_ended change U raw found e = absurd (cc)
out_ended change R raw found e = absurd (cc)
out_ended change L raw found e = absurd (cc)
out_ended change Equals raw found e = refl
out_ended change Url raw found e = absurd (cc)
out_ended change (Quoted quote) raw found e = absurd (cc)
out_ended change Done raw found e = refl
out_ended change Bad raw found e = refl

-- a URL that the end ends, anew
anew_ends : (change : Change) → IsWriting change → (f : Front) (out : List ℕ) (z : Zone) → (z ≡ Out → ⊥) → Good change z f out → ended (fed nothing_read (out ++ f.raw)) ≡ Some (reference f.raw) → (to : Option (List ℕ)) → change (reference f.raw) ≡ to
    → ended (fed nothing_read (out ++ anew change f.raw)) ≡ Some (changed change (reference f.raw))
anew_ends change writing f out z n g k None h = ap (λ o. ended (fed nothing_read (out ++ written_or f.raw o))) h ∙ k ∙ ap (λ o. Some (or_same o (reference f.raw))) (sym h)
anew_ends change writing f out Out n g k (Some other) h = absurd (n refl)
anew_ends change writing f out Open n g k (Some other) h =
    ap (λ o. ended (fed nothing_read (out ++ written_or f.raw o))) h ∙ ap ended (fed-append nothing_read out other ∙ ap (λ s. fed s other) g.behind)
    ∙ open_written g.place (option_map (changed change) f.found) other g.begins (writing (reference f.raw) other h)
    ∙ ap (λ t. Some t) (utf8_written other (writing (reference f.raw) other h) ∙ ap (λ o. or_same o (reference f.raw)) (sym h))
anew_ends change writing f out (In quote) n g k (Some other) h =
    ap (λ o. ended (fed nothing_read (out ++ written_or f.raw o))) h ∙ ap ended (fed-append nothing_read out other ∙ ap (λ s. fed s other) g.1)
    ∙ ap ended (in_quotes quote [] (option_map (changed change) f.found) other g.0 (unquoted_written other (writing (reference f.raw) other h)))
    ∙ ap (λ t. Some t) (utf8_written other (writing (reference f.raw) other h) ∙ ap (λ o. or_same o (reference f.raw)) (sym h))

is_out : (z : Zone) → (z ≡ Out) ⊎ (z ≡ Out → ⊥)
is_out Out = inl refl
is_out Open = inr (λ e. absurd (cc))
is_out (In quote) = inr (λ e. absurd (cc))

out_raw : (change : Change) (z : Zone) (f : Front) (out : List ℕ) → z ≡ Out → Good change z f out → f.raw ≡ []
out_raw change Out f out e g = g
out_raw change Open f out e g = absurd (cc)
out_raw change (In quote) f out e g = absurd (cc)

closed_reads : (change : Change) → IsWriting change → (f : Front) (out : List ℕ) → Keeps change f out → ended (fed nothing_read (out ++ closed change f.place f.raw)) ≡ option_map (changed change) (ended f)
closed_reads change writing f out k = go (is_out (zone f.place)) where
  go : (zone f.place ≡ Out) ⊎ (zone f.place ≡ Out → ⊥) → ended (fed nothing_read (out ++ closed change f.place f.raw)) ≡ option_map (changed change) (ended f)
  go (inl e) =
      ap (λ xs. ended (fed nothing_read (out ++ xs))) (out_closed change f.place f.raw e ∙ sym (out_raw change (zone f.place) f out e k.good)) ∙ ap ended k.behind ∙ out_ended change f.place f.raw f.found e
  go (inr n) =
      ap (λ xs. ended (fed nothing_read (out ++ xs))) (in_closed change f.place f.raw n)
      ∙ anew_ends change writing f out (zone f.place) n k.good (ap ended k.behind ∙ in_open f.place f.raw (option_map (changed change) f.found) n) (change (reference f.raw)) refl
      ∙ sym (ap (option_map (changed change)) (in_open f.place f.raw f.found n))

-- The URL of the content anew is that of the content, changed.
pub reference_rewritten : (change : Change) → IsWriting change → (content : List ℕ) → reference_of (rewritten change content) ≡ option_map (changed change) (reference_of content)
unfolding reference_of rewritten
reference_rewritten change writing content =
    let w = rewrite_fed change nothing_written content in
    closed_reads change writing w.front w.out (keeps_fed change writing nothing_written content (record { behind = refl; good = refl }))
    ∙ ap (λ (f : Front). option_map (changed change) (ended f)) (front_fed change nothing_written content)

-- what was written step by step is the content anew
pub rewritten_by : (change : Change) (out : List ℕ) (first last : Rewrite) (content : List ℕ) → first ≡ nothing_written → last ≡ rewrite_fed change first content → out ≡ rewrite_ended change last → out ≡ rewritten change content
unfolding rewritten
rewritten_by change out first last content e f g = g ∙ ap (rewrite_ended change) (f ∙ ap (λ (w : Rewrite). rewrite_fed change w content) e)
