-- A sheet that is written anew is read as the sheet with its references changed.
use Rattle.std.proofs.Common.{◌≡◌, ◌≢◌, ◌⊎◌, ◌==◌, ℕ, Bool, true, false, if◌then◌else◌, List, [], ◌∷◌, ◌++◌, Option, Some, None, map, ◌&&◌, inl, inr, refl, sym, ap, ◌∙◌, subst, append_assoc, append-nil}
use Rattle.std.proofs.lemmas.Bool.{eq-eqb, eqb-true}
use Rattle.std.proofs.lemmas.List.{map-append}
use Rattle.std.proofs.lemmas.List.Folds.{list_all-append}
use Rattle.std.specs.List.{list_all}
use Rattle.std.specs.Str.Lossy.{utf8_lossy}
use Rattle.css_links.specs.Bytes.{is_white, is_quote}
use Rattle.css_links.specs.Escapes.{unescaped}
use Rattle.css_links.specs.Places.{turn, bare, url_ended, reference_string}
use Rattle.css_links.specs.References.{Seen, Front, front, noted, within, string_at, present, reference, turned, step, fed, nothing_read, left_open, ended, references}
use Rattle.css_links.specs.Rewriting.{written, IsWritable, Change, IsWriting, or_same, changed, written_or, anew_of, anew, zone, Rewrite, held_in, held, white_in, white_at, out_at, out_with, out_of, white_of, rewrite_step, nothing_written, rewrite_fed, closed_in, rewrite_ended, rewritten}
use Rattle.css_links.specs.declared.zone.Zone.{Zone}
use Rattle.css_links.specs.declared.zone.Zone.TheVariants as zones
use Rattle.css_links.specs.declared.place.Turn.{Turn}
use Rattle.css_links.specs.declared.place.Turn.TheVariants.{At, Anew, First, With, Refer, Quote, UrlQuote, Open, Close}
use Rattle.css_links.specs.declared.place.SheetPart.{SheetPart}
use Rattle.css_links.specs.declared.place.SheetPart.TheVariants.{Word, Reference, Other, Bare, Bad}
use Rattle.css_links.specs.declared.place.Place.{Place}
use Rattle.css_links.specs.declared.place.Place.TheVariants.{Between, Slash, Comment, CommentStar, Import, ImportSlash, ImportComment, ImportCommentStar, Inside, Escaped, UrlBegun, UrlEnded}
use Rattle.css_links.proofs.Feeding.{fed-append}
use Rattle.css_links.proofs.Writing.{unescaped_written, LeadsOn, quoted_written, bare_written}
use Rattle.css_links.proofs.Moving.{Free, MoveAt, MoveAnew, MoveWith, MoveRefer, Move, moves}

-- what was seen, with its references changed
abbrev pub seen_anew : Change → Seen → Seen
seen_anew change s = record { found = map (changed change) s.found; depth = s.depth }

-- a front with its references changed
abbrev pub mapped : Change → Front → Front
mapped change f = front f.place f.raw (seen_anew change f.seen)

-- what is known of what was written, beside that it is read as the front
abbrev pub Good : Change → Zone → Front → List ℕ → List ℕ → Type 0
Good change zones.Outside f out white = Unit
Good change zones.Begun f out white = (f.raw ≡ []) × (f.place ≡ UrlBegun)
Good change (zones.Quoted quote) f out white = (is_quote quote ≡ true) × (fed nothing_read out ≡ front (Inside (Reference quote)) [] (seen_anew change f.seen))
Good change zones.Unquoted f out white = fed nothing_read out ≡ front UrlBegun [] (seen_anew change f.seen)
Good change zones.Ended f out white = (fed nothing_read out ≡ front UrlBegun [] (seen_anew change f.seen)) × (list_all is_white white ≡ true)

-- what was written is read as the front, with its references changed, except what is held back
pub record Keeps (change : Change) (z : Zone) (f : Front) (out white : List ℕ) : Type 0 where
  pub behind : fed nothing_read (out ++ held_in z f.raw white) ≡ mapped change f
  pub good : Good change z f out white

-- ---- one more byte

-- the byte after all that is written and held back
read_on : (change : Change) (z : Zone) (f : Front) (out white : List ℕ) (b : ℕ) (t : Turn) → turn f.place f.raw b ≡ t → Keeps change z f out white
    → fed nothing_read ((out ++ held_in z f.raw white) ++ b ∷ []) ≡ turned (mapped change f) b t
read_on change z f out white b t e k =
    fed-append nothing_read (out ++ held_in z f.raw white) (b ∷ []) ∙ ap (λ s. step s b) k.behind ∙ ap (turned (mapped change f) b) e

flushed : (out held : List ℕ) (b : ℕ) → (out ++ (held ++ b ∷ [])) ++ [] ≡ (out ++ held) ++ b ∷ []
flushed out held b = append-nil _ ∙ sym (append_assoc out held (b ∷ []))

at_keeps : (change : Change) (zp zq : Zone) (f : Front) (out white : List ℕ) (b : ℕ) (q : Place) → turn f.place f.raw b ≡ At q → MoveAt zp zq q b → Keeps change zp f out white
    → Keeps change zq (front q f.raw f.seen) (out_at zq out (held_in zp f.raw white) b) (white_at zq zp white b)
at_keeps change zp zones.Outside f out white b q e m k = record {
  behind = ap (fed nothing_read) (flushed out (held_in zp f.raw white) b) ∙ read_on change zp f out white b (At q) e k;
  good = tt;
}
at_keeps change zones.Begun zones.Begun f out white b q e m k = record {
  behind = ap (fed nothing_read) (flushed out [] b) ∙ read_on change zones.Begun f out white b (At q) e k;
  good = (k.good.0, m);
}
at_keeps change zones.Unquoted zones.Ended f out white b q e m k = record {
  behind = ap (fed nothing_read) (sym (append_assoc out f.raw (b ∷ []))) ∙ read_on change zones.Unquoted f out white b (At q) e k;
  good = (k.good, rw m refl);
}
at_keeps change zones.Ended zones.Ended f out white b q e m k = record {
  behind = ap (λ xs. fed nothing_read (out ++ xs)) (sym (append_assoc f.raw white (b ∷ []))) ∙ ap (fed nothing_read) (sym (append_assoc out (f.raw ++ white) (b ∷ []))) ∙ read_on change zones.Ended f out white b (At q) e k;
  good = (k.good.0, list_all-append is_white white (b ∷ []) ∙ rw (k.good.1, m) refl);
}
at_keeps change _ _ f out white b q e m k = absurd m

-- if nothing is held back
pub free_held : (z : Zone) (raw white : List ℕ) → Free z → held_in z raw white ≡ []
free_held zones.Outside raw white h = refl
free_held zones.Begun raw white h = refl
free_held (zones.Quoted quote) raw white h = absurd h
free_held zones.Unquoted raw white h = absurd h
free_held zones.Ended raw white h = absurd h

free_on : (change : Change) (z : Zone) (f : Front) (out white : List ℕ) (b : ℕ) (t : Turn) → turn f.place f.raw b ≡ t → Free z → Keeps change z f out white
    → fed nothing_read (out ++ b ∷ []) ≡ turned (mapped change f) b t
free_on change z f out white b t e free k =
    ap (λ xs. fed nothing_read (xs ++ b ∷ [])) (sym (append-nil out) ∙ ap (λ xs. out ++ xs) (sym (free_held z f.raw white free))) ∙ read_on change z f out white b t e k

anew_keeps : (change : Change) (zp zq : Zone) (f : Front) (out white : List ℕ) (b : ℕ) (q : Place) → turn f.place f.raw b ≡ Anew q → Free zp → MoveAnew zq q → Keeps change zp f out white
    → Keeps change zq (front q [] f.seen) (out ++ b ∷ []) white
anew_keeps change zp zones.Outside f out white b q e free m k = record {
  behind = ap (fed nothing_read) (append-nil (out ++ b ∷ [])) ∙ free_on change zp f out white b (Anew q) e free k;
  good = tt;
}
anew_keeps change zp zones.Begun f out white b q e free m k = record {
  behind = ap (fed nothing_read) (append-nil (out ++ b ∷ [])) ∙ free_on change zp f out white b (Anew q) e free k;
  good = (refl, m);
}
anew_keeps change zp (zones.Quoted quote) f out white b q e free m k = record {
  behind = ap (fed nothing_read) (append-nil (out ++ b ∷ [])) ∙ free_on change zp f out white b (Anew q) e free k;
  good = (m.1, free_on change zp f out white b (Anew q) e free k ∙ ap (λ p. front p [] (seen_anew change f.seen)) m.0);
}
anew_keeps change zp zones.Unquoted f out white b q e free m k = absurd m
anew_keeps change zp zones.Ended f out white b q e free m k = absurd m

first_keeps : (change : Change) (zp zq : Zone) (f : Front) (out white : List ℕ) (b : ℕ) (q : Place) → turn f.place f.raw b ≡ First q → Free zp → zq ≡ zones.Outside → Keeps change zp f out white
    → Keeps change zq (front q (b ∷ []) f.seen) (out ++ b ∷ []) white
first_keeps change zp zq f out white b q e free m k = subst (λ (z : Zone). Keeps change z (front q (b ∷ []) f.seen) (out ++ b ∷ []) white) (sym m) (record {
  behind = ap (fed nothing_read) (append-nil (out ++ b ∷ [])) ∙ free_on change zp f out white b (First q) e free k;
  good = tt;
})

with_keeps : (change : Change) (zp zq : Zone) (f : Front) (out white : List ℕ) (b : ℕ) (q : Place) → turn f.place f.raw b ≡ With q → MoveWith zp zq → Keeps change zp f out white
    → Keeps change zq (front q (f.raw ++ b ∷ []) f.seen) (out_with zq out b) white
with_keeps change zones.Outside zones.Outside f out white b q e m k = record {
  behind = ap (fed nothing_read) (append-nil (out ++ b ∷ [])) ∙ free_on change zones.Outside f out white b (With q) e tt k;
  good = tt;
}
with_keeps change (zones.Quoted quote) (zones.Quoted other) f out white b q e m k = record {
  behind = ap (fed nothing_read) (sym (append_assoc out f.raw (b ∷ []))) ∙ read_on change (zones.Quoted quote) f out white b (With q) e k;
  good = (ap is_quote m ∙ k.good.0, k.good.1 ∙ ap (λ c. front (Inside (Reference c)) [] (seen_anew change f.seen)) (sym m));
}
with_keeps change zones.Begun zones.Unquoted f out white b q e m k = record {
  behind = ap (λ xs. fed nothing_read (out ++ (xs ++ b ∷ []))) k.good.0 ∙ free_on change zones.Begun f out white b (With q) e tt k;
  good = ap (fed nothing_read) (sym (append-nil out)) ∙ k.behind ∙ ap (λ r. front f.place r (seen_anew change f.seen)) k.good.0 ∙ ap (λ p. front p [] (seen_anew change f.seen)) k.good.1;
}
with_keeps change zones.Unquoted zones.Unquoted f out white b q e m k = record {
  behind = ap (fed nothing_read) (sym (append_assoc out f.raw (b ∷ []))) ∙ read_on change zones.Unquoted f out white b (With q) e k;
  good = k.good;
}
with_keeps change _ _ f out white b q e m k = absurd m

-- ---- the end of a reference

-- a reference stays as it is written, or is written anew
pub record Stays (change : Change) (raw : List ℕ) : Type 0 where
  pub text : anew change raw ≡ raw
  pub reference : map (changed change) (reference raw) ≡ reference raw

pub record Becomes (change : Change) (raw : List ℕ) : Type 0 where
  pub other : List ℕ
  pub writable : IsWritable other
  pub text : anew change raw ≡ written other
  pub reference : map (changed change) (reference raw) ≡ other ∷ []

either : (change : Change) → IsWriting change → (raw : List ℕ) → Stays change raw ⊎ Becomes change raw
either change writing raw = go (utf8_lossy (unescaped raw)) refl where
  go : (text : List ℕ) → utf8_lossy (unescaped raw) ≡ text → Stays change raw ⊎ Becomes change raw
  go [] e = inl (record { text = ap (λ t. anew_of change raw (present t)) e; reference = ap (λ t. map (changed change) (present t)) e ∙ sym (ap present e) })
  go (c ∷ cs) e = further (change (c ∷ cs)) refl where
    further : (to : Option (List ℕ)) → change (c ∷ cs) ≡ to → Stays change raw ⊎ Becomes change raw
    further None g = inl (record {
      text = ap (λ t. anew_of change raw (present t)) e ∙ ap (written_or raw) g;
      reference = ap (λ t. map (changed change) (present t)) e ∙ ap (λ o. or_same o (c ∷ cs) ∷ []) g ∙ sym (ap present e);
    })
    further (Some other) g = inr (record {
      other = other;
      writable = writing (c ∷ cs) other g;
      text = ap (λ t. anew_of change raw (present t)) e ∙ ap (written_or raw) g;
      reference = ap (λ t. map (changed change) (present t)) e ∙ ap (λ o. or_same o (c ∷ cs) ∷ []) g;
    })

-- the reference of a text that is written
present_text : (text : List ℕ) → text ≢ [] → present text ≡ text ∷ []
present_text [] n = absurd (n refl)
present_text (b ∷ bs) n = refl

reference_written : (text : List ℕ) → IsWritable text → reference (written text) ≡ text ∷ []
reference_written text w = ap (λ t. present (utf8_lossy t)) (unescaped_written text) ∙ ap present w.utf8 ∙ present_text text w.present

both : (x y : Bool) → (x && y) ≡ true → (x ≡ true) × (y ≡ true)
both true true e = (refl, refl)
both true false e = absurd (cc)
both false y e = absurd (cc)

white_no_close : (c : ℕ) → is_white c ≡ true → (c == 41) ≡ false
white_no_close c e = go (c == 41) refl where
  go : (t : Bool) → (c == 41) ≡ t → t ≡ false
  go false h = refl
  go true h = let bad : is_white 41 ≡ true = ap is_white (sym (eqb-true c 41 h)) ∙ e in absurd (cc)

bare_white : (c : ℕ) → is_white c ≡ true → bare c ≡ At UrlEnded
bare_white c e = rw (white_no_close c e, e) refl

ended_white : (c : ℕ) → is_white c ≡ true → url_ended c ≡ At UrlEnded
ended_white c e = rw e refl

-- white after a bare URL, and then its `)`
closes_ended : (raw : List ℕ) (found : Seen) (white : List ℕ) (b : ℕ) → list_all is_white white ≡ true → b ≡ 41
    → fed (front UrlEnded raw found) (white ++ b ∷ []) ≡ front Between [] (noted found (reference raw))
closes_ended raw found [] b h m = ap (λ c. fed (front UrlEnded raw found) (c ∷ [])) m
closes_ended raw found (c ∷ cs) b h m =
    ap (λ t. fed (turned (front UrlEnded raw found) c t) (cs ++ b ∷ [])) (ended_white c (both (is_white c) (list_all is_white cs) h).0)
    ∙ closes_ended raw found cs b (both (is_white c) (list_all is_white cs) h).1 m

closes_bare : (raw : List ℕ) (found : Seen) (white : List ℕ) (b : ℕ) → list_all is_white white ≡ true → b ≡ 41
    → fed (front (Inside Bare) raw found) (white ++ b ∷ []) ≡ front Between [] (noted found (reference raw))
closes_bare raw found [] b h m = ap (λ c. fed (front (Inside Bare) raw found) (c ∷ [])) m
closes_bare raw found (c ∷ cs) b h m =
    ap (λ t. fed (turned (front (Inside Bare) raw found) c t) (cs ++ b ∷ [])) (bare_white c (both (is_white c) (list_all is_white cs) h).0)
    ∙ closes_ended raw found cs b (both (is_white c) (list_all is_white cs) h).1 m

quote_refers : (quote b : ℕ) → b ≡ quote → reference_string quote b ≡ Refer
quote_refers quote b m = rw (eq-eqb b quote m) refl

-- a reference that stays
stays_refer : (change : Change) (zp : Zone) (f : Front) (out white : List ℕ) (b : ℕ) → turn f.place f.raw b ≡ Refer → MoveRefer zp b → Keeps change zp f out white → Stays change f.raw
    → fed nothing_read (out ++ (anew change f.raw ++ (white_in zp white ++ b ∷ []))) ≡ front Between [] (noted (seen_anew change f.seen) (reference f.raw))
stays_refer change zones.Outside f out white b e m k st = absurd m
stays_refer change zones.Begun f out white b e m k st =
    ap (λ t. fed nothing_read (out ++ (t ++ b ∷ []))) (st.text ∙ k.good.0) ∙ free_on change zones.Begun f out white b Refer e tt k
stays_refer change (zones.Quoted quote) f out white b e m k st =
    ap (λ t. fed nothing_read (out ++ (t ++ b ∷ []))) st.text ∙ ap (fed nothing_read) (sym (append_assoc out f.raw (b ∷ []))) ∙ read_on change (zones.Quoted quote) f out white b Refer e k
stays_refer change zones.Unquoted f out white b e m k st =
    ap (λ t. fed nothing_read (out ++ (t ++ b ∷ []))) st.text ∙ ap (fed nothing_read) (sym (append_assoc out f.raw (b ∷ []))) ∙ read_on change zones.Unquoted f out white b Refer e k
stays_refer change zones.Ended f out white b e m k st =
    ap (λ t. fed nothing_read (out ++ (t ++ (white ++ b ∷ [])))) st.text ∙ ap (λ t. fed nothing_read (out ++ t)) (sym (append_assoc f.raw white (b ∷ [])))
    ∙ ap (fed nothing_read) (sym (append_assoc out (f.raw ++ white) (b ∷ []))) ∙ read_on change zones.Ended f out white b Refer e k

-- a written text after what was written, and what follows it
anew_read : (out text rest : List ℕ) (p q : Place) (found : Seen) → fed nothing_read out ≡ front p [] found → LeadsOn p q text
    → fed nothing_read (out ++ (text ++ rest)) ≡ fed (front q text found) rest
anew_read out text rest p q found e l =
    fed-append nothing_read out (text ++ rest) ∙ ap (λ s. fed s (text ++ rest)) e ∙ fed-append (front p [] found) text rest ∙ ap (λ s. fed s rest) (l [] found)

nothing_refers : reference [] ≡ []
unfolding unescaped utf8_lossy
nothing_refers = refl

no_becoming : (change : Change) (raw : List ℕ) → raw ≡ [] → Becomes change raw → ⊥
no_becoming change raw e bc = go (bc.other ∷ []) (sym (ap (map (changed change)) (ap reference e ∙ nothing_refers)) ∙ bc.reference) refl where
  go : (xs : List (List ℕ)) → [] ≡ xs → xs ≡ bc.other ∷ [] → ⊥
  go [] h g = absurd (cc)
  go (x ∷ xs) h g = absurd (cc)

-- a reference that is written anew
becomes_refer : (change : Change) (zp : Zone) (f : Front) (out white : List ℕ) (b : ℕ) → MoveRefer zp b → Keeps change zp f out white → (bc : Becomes change f.raw)
    → fed nothing_read (out ++ (anew change f.raw ++ (white_in zp white ++ b ∷ []))) ≡ front Between [] (noted (seen_anew change f.seen) (reference (written bc.other)))
becomes_refer change zones.Outside f out white b m k bc = absurd m
becomes_refer change zones.Begun f out white b m k bc = absurd (no_becoming change f.raw k.good.0 bc)
becomes_refer change (zones.Quoted quote) f out white b m k bc =
    ap (λ t. fed nothing_read (out ++ (t ++ b ∷ []))) bc.text
    ∙ anew_read out (written bc.other) (b ∷ []) _ _ (seen_anew change f.seen) k.good.1 (quoted_written quote k.good.0 bc.other bc.writable.bytes)
    ∙ ap (turned (front (Inside (Reference quote)) (written bc.other) (seen_anew change f.seen)) b) (quote_refers quote b m)
becomes_refer change zones.Unquoted f out white b m k bc =
    ap (λ t. fed nothing_read (out ++ (t ++ b ∷ []))) bc.text
    ∙ anew_read out (written bc.other) (b ∷ []) _ _ (seen_anew change f.seen) k.good (bare_written bc.other bc.writable.present bc.writable.bytes)
    ∙ closes_bare (written bc.other) (seen_anew change f.seen) [] b refl m
becomes_refer change zones.Ended f out white b m k bc =
    ap (λ t. fed nothing_read (out ++ (t ++ (white ++ b ∷ [])))) bc.text
    ∙ anew_read out (written bc.other) (white ++ b ∷ []) _ _ (seen_anew change f.seen) k.good.0 (bare_written bc.other bc.writable.present bc.writable.bytes)
    ∙ closes_bare (written bc.other) (seen_anew change f.seen) white b k.good.1 m

refer_keeps : (change : Change) → IsWriting change → (zp : Zone) (f : Front) (out white next : List ℕ) (b : ℕ) → turn f.place f.raw b ≡ Refer → MoveRefer zp b → Keeps change zp f out white
    → Keeps change zones.Outside (front Between [] (noted f.seen (reference f.raw))) (out ++ (anew change f.raw ++ (white_in zp white ++ b ∷ []))) next
refer_keeps change writing zp f out white next b e m k = record {
  behind = ap (fed nothing_read) (append-nil (out ++ (anew change f.raw ++ (white_in zp white ++ b ∷ [])))) ∙ go (either change writing f.raw) ∙ ap (λ xs. front Between [] (record { found = xs; depth = f.seen.depth })) (sym (map-append (changed change) f.seen.found (reference f.raw)));
  good = tt;
} where
  go : Stays change f.raw ⊎ Becomes change f.raw
      → fed nothing_read (out ++ (anew change f.raw ++ (white_in zp white ++ b ∷ []))) ≡ front Between [] (noted (seen_anew change f.seen) (map (changed change) (reference f.raw)))
  go (inl st) = stays_refer change zp f out white b e m k st ∙ ap (λ r. front Between [] (noted (seen_anew change f.seen) r)) (sym st.reference)
  go (inr bc) = becomes_refer change zp f out white b m k bc ∙ ap (λ r. front Between [] (noted (seen_anew change f.seen) r)) (reference_written bc.other bc.writable ∙ sym bc.reference)

-- a string between tokens begins
quote_keeps : (change : Change) (zp : Zone) (f : Front) (out white : List ℕ) (b quote : ℕ) → turn f.place f.raw b ≡ Quote quote → Free zp → is_quote quote ≡ true → Keeps change zp f out white
    → Keeps change (zone (Inside (string_at f.seen.depth quote))) (front (Inside (string_at f.seen.depth quote)) [] f.seen) (out ++ b ∷ []) white
quote_keeps change zp f out white b quote e free is k = go (f.seen.depth == 1) (free_on change zp f out white b (Quote quote) e free k) where
  go : (t : Bool) → fed nothing_read (out ++ b ∷ []) ≡ front (Inside (if t then Reference quote else Other quote)) [] (seen_anew change f.seen)
      → Keeps change (zone (Inside (if t then Reference quote else Other quote))) (front (Inside (if t then Reference quote else Other quote)) [] f.seen) (out ++ b ∷ []) white
  go true h = record { behind = ap (fed nothing_read) (append-nil (out ++ b ∷ [])) ∙ h; good = (is, h) }
  go false h = record { behind = ap (fed nothing_read) (append-nil (out ++ b ∷ [])) ∙ h; good = tt }

-- a string begins that is the argument of `url`
url_quote_keeps : (change : Change) (zp : Zone) (f : Front) (out white : List ℕ) (b quote : ℕ) → turn f.place f.raw b ≡ UrlQuote quote → Free zp → is_quote quote ≡ true → Keeps change zp f out white
    → Keeps change (zones.Quoted quote) (front (Inside (Reference quote)) [] (within false f.seen)) (out ++ b ∷ []) white
url_quote_keeps change zp f out white b quote e free is k =
    let h = free_on change zp f out white b (UrlQuote quote) e free k in
    record { behind = ap (fed nothing_read) (append-nil (out ++ b ∷ [])) ∙ h; good = (is, h) }

-- a byte after which nothing is held back
outside_keeps : (change : Change) (zp : Zone) (f : Front) (out white : List ℕ) (b : ℕ) (t : Turn) → turn f.place f.raw b ≡ t → Free zp → (g : Front) → turned (mapped change f) b t ≡ mapped change g
    → Keeps change zp f out white → Keeps change zones.Outside g (out ++ b ∷ []) white
outside_keeps change zp f out white b t e free g same k = record { behind = ap (fed nothing_read) (append-nil (out ++ b ∷ [])) ∙ free_on change zp f out white b t e free k ∙ same; good = tt }

-- ---- any bytes

keeps_step : (change : Change) → IsWriting change → (w : Rewrite) (b : ℕ) → Keeps change (zone w.front.place) w.front w.out w.white
    → Keeps change (zone (rewrite_step change w b).front.place) (rewrite_step change w b).front (rewrite_step change w b).out (rewrite_step change w b).white
keeps_step change writing w b k = go (turn w.front.place w.front.raw b) refl (moves w.front.place w.front.raw b) where
  go : (t : Turn) → turn w.front.place w.front.raw b ≡ t → Move (zone w.front.place) b t
      → Keeps change (zone (turned w.front b t).place) (turned w.front b t) (out_of change w b t) (white_of w b t)
  go (At q) e m = at_keeps change (zone w.front.place) (zone q) w.front w.out w.white b q e m k
  go (Anew q) e m = anew_keeps change (zone w.front.place) (zone q) w.front w.out w.white b q e m.0 m.1 k
  go (First q) e m = first_keeps change (zone w.front.place) (zone q) w.front w.out w.white b q e m.0 m.1 k
  go (With q) e m = with_keeps change (zone w.front.place) (zone q) w.front w.out w.white b q e m k
  go Refer e m = refer_keeps change writing (zone w.front.place) w.front w.out w.white w.white b e m k
  go (Quote quote) e m = quote_keeps change (zone w.front.place) w.front w.out w.white b quote e m.0 m.1 k
  go (UrlQuote quote) e m = url_quote_keeps change (zone w.front.place) w.front w.out w.white b quote e m.0 m.1 k
  go (Open set) e m = outside_keeps change (zone w.front.place) w.front w.out w.white b (Open set) e m (turned w.front b (Open set)) refl k
  go Close e m = outside_keeps change (zone w.front.place) w.front w.out w.white b Close e m (turned w.front b Close) refl k

keeps_fed : (change : Change) → IsWriting change → (w : Rewrite) (bs : List ℕ) → Keeps change (zone w.front.place) w.front w.out w.white
    → Keeps change (zone (rewrite_fed change w bs).front.place) (rewrite_fed change w bs).front (rewrite_fed change w bs).out (rewrite_fed change w bs).white
keeps_fed change writing w [] k = k
keeps_fed change writing w (b ∷ bs) k = keeps_fed change writing (rewrite_step change w b) bs (keeps_step change writing w b k)

pub front_fed : (change : Change) (w : Rewrite) (bs : List ℕ) → (rewrite_fed change w bs).front ≡ fed w.front bs
front_fed change w [] = refl
front_fed change w (b ∷ bs) = front_fed change (rewrite_step change w b) bs

-- ---- the end of the sheet

-- what the end ends in a zone
abbrev pub open_in_zone : Zone → List ℕ → List (List ℕ)
open_in_zone zones.Outside raw = []
open_in_zone zones.Begun raw = []
open_in_zone (zones.Quoted quote) raw = reference raw
open_in_zone zones.Unquoted raw = reference raw
open_in_zone zones.Ended raw = reference raw

open_part : (part : SheetPart) (raw : List ℕ) → left_open (Inside part) raw ≡ open_in_zone (zone (Inside part)) raw
open_part (Word l) raw = refl
open_part (Reference quote) raw = refl
open_part (Other quote) raw = refl
open_part Bare raw = refl
open_part Bad raw = refl

pub open_place : (p : Place) (raw : List ℕ) → left_open p raw ≡ open_in_zone (zone p) raw
open_place Between raw = refl
open_place Slash raw = refl
open_place Comment raw = refl
open_place CommentStar raw = refl
open_place Import raw = refl
open_place ImportSlash raw = refl
open_place ImportComment raw = refl
open_place ImportCommentStar raw = refl
open_place (Inside part) raw = open_part part raw
open_place (Escaped part escape) raw = open_part part raw
open_place UrlBegun raw = refl
open_place UrlEnded raw = refl

white_ended : (raw : List ℕ) (found : Seen) (white : List ℕ) → list_all is_white white ≡ true → ended (fed (front UrlEnded raw found) white) ≡ found.found ++ reference raw
white_ended raw found [] h = refl
white_ended raw found (c ∷ cs) h =
    ap (λ t. ended (fed (turned (front UrlEnded raw found) c t) cs)) (ended_white c (both (is_white c) (list_all is_white cs) h).0)
    ∙ white_ended raw found cs (both (is_white c) (list_all is_white cs) h).1

white_open : (raw : List ℕ) (found : Seen) (white : List ℕ) → list_all is_white white ≡ true → ended (fed (front (Inside Bare) raw found) white) ≡ found.found ++ reference raw
white_open raw found [] h = refl
white_open raw found (c ∷ cs) h =
    ap (λ t. ended (fed (turned (front (Inside Bare) raw found) c t) cs)) (bare_white c (both (is_white c) (list_all is_white cs) h).0)
    ∙ white_ended raw found cs (both (is_white c) (list_all is_white cs) h).1

closed_reads : (change : Change) → IsWriting change → (z : Zone) (f : Front) (out white : List ℕ) → left_open f.place f.raw ≡ open_in_zone z f.raw → Keeps change z f out white
    → ended (fed nothing_read (out ++ closed_in change z f.raw white)) ≡ map (changed change) f.seen.found ++ map (changed change) (open_in_zone z f.raw)
closed_reads change writing zones.Outside f out white h k = ap ended k.behind ∙ ap (λ xs. map (changed change) f.seen.found ++ xs) h
closed_reads change writing zones.Begun f out white h k = ap ended k.behind ∙ ap (λ xs. map (changed change) f.seen.found ++ xs) h
closed_reads change writing (zones.Quoted quote) f out white h k = go (either change writing f.raw) where
  go : Stays change f.raw ⊎ Becomes change f.raw → ended (fed nothing_read (out ++ anew change f.raw)) ≡ map (changed change) f.seen.found ++ map (changed change) (reference f.raw)
  go (inl st) = ap (λ t. ended (fed nothing_read (out ++ t))) st.text ∙ ap ended k.behind ∙ ap (λ xs. map (changed change) f.seen.found ++ xs) (h ∙ sym st.reference)
  go (inr bc) =
      ap (λ t. ended (fed nothing_read (out ++ t))) (bc.text ∙ sym (append-nil (written bc.other)))
      ∙ ap ended (anew_read out (written bc.other) [] _ _ (seen_anew change f.seen) k.good.1 (quoted_written quote k.good.0 bc.other bc.writable.bytes))
      ∙ ap (λ r. map (changed change) f.seen.found ++ r) (reference_written bc.other bc.writable ∙ sym bc.reference)
closed_reads change writing zones.Unquoted f out white h k = go (either change writing f.raw) where
  go : Stays change f.raw ⊎ Becomes change f.raw → ended (fed nothing_read (out ++ anew change f.raw)) ≡ map (changed change) f.seen.found ++ map (changed change) (reference f.raw)
  go (inl st) = ap (λ t. ended (fed nothing_read (out ++ t))) st.text ∙ ap ended k.behind ∙ ap (λ xs. map (changed change) f.seen.found ++ xs) (h ∙ sym st.reference)
  go (inr bc) =
      ap (λ t. ended (fed nothing_read (out ++ t))) (bc.text ∙ sym (append-nil (written bc.other)))
      ∙ ap ended (anew_read out (written bc.other) [] _ _ (seen_anew change f.seen) k.good (bare_written bc.other bc.writable.present bc.writable.bytes))
      ∙ ap (λ r. map (changed change) f.seen.found ++ r) (reference_written bc.other bc.writable ∙ sym bc.reference)
closed_reads change writing zones.Ended f out white h k = go (either change writing f.raw) where
  go : Stays change f.raw ⊎ Becomes change f.raw → ended (fed nothing_read (out ++ (anew change f.raw ++ white))) ≡ map (changed change) f.seen.found ++ map (changed change) (reference f.raw)
  go (inl st) = ap (λ t. ended (fed nothing_read (out ++ (t ++ white)))) st.text ∙ ap ended k.behind ∙ ap (λ xs. map (changed change) f.seen.found ++ xs) (h ∙ sym st.reference)
  go (inr bc) =
      ap (λ t. ended (fed nothing_read (out ++ (t ++ white)))) bc.text
      ∙ ap ended (anew_read out (written bc.other) white _ _ (seen_anew change f.seen) k.good.0 (bare_written bc.other bc.writable.present bc.writable.bytes))
      ∙ white_open (written bc.other) (seen_anew change f.seen) white k.good.1
      ∙ ap (λ r. map (changed change) f.seen.found ++ r) (reference_written bc.other bc.writable ∙ sym bc.reference)

-- The references of the sheet anew are those of the sheet, changed, one by one and in their order.
pub references_rewritten : (change : Change) → IsWriting change → (sheet : List ℕ) → references (rewritten change sheet) ≡ map (changed change) (references sheet)
unfolding references rewritten
references_rewritten change writing sheet =
    let w = rewrite_fed change nothing_written sheet in
    let k = keeps_fed change writing nothing_written sheet (record { behind = refl; good = tt }) in
    closed_reads change writing (zone w.front.place) w.front w.out w.white (open_place w.front.place w.front.raw) k
    ∙ sym (map-append (changed change) w.front.seen.found (open_in_zone (zone w.front.place) w.front.raw))
    ∙ ap (λ r. map (changed change) (w.front.seen.found ++ r)) (sym (open_place w.front.place w.front.raw))
    ∙ ap (λ (f : Front). map (changed change) (ended f)) (front_fed change nothing_written sheet)

-- what was written step by step is the sheet anew
pub rewritten_by : (change : Change) (out : List ℕ) (first last : Rewrite) (sheet : List ℕ) → first ≡ nothing_written → last ≡ rewrite_fed change first sheet → out ≡ rewrite_ended change last → out ≡ rewritten change sheet
unfolding rewritten
rewritten_by change out first last sheet e f g = g ∙ ap (rewrite_ended change) (f ∙ ap (λ (w : Rewrite). rewrite_fed change w sheet) e)
