-- The pieces of a sheet that is written anew.
use Rattle.std.proofs.Common.{◌≡◌, ◌==◌, ℕ, Bool, true, false, if◌then◌else◌, List, [], ◌∷◌, ◌++◌, refl, sym, ap, ◌∙◌, subst, append_assoc, append-nil}
use Rattle.std.proofs.lemmas.Grind.{flat_map-append}
use Rattle.std.specs.List.{flat_map}
use Rattle.css_links.specs.Places.{turn}
use Rattle.css_links.specs.References.{Front, front, reference, noted, within, without, string_at, turned, ended, references}
use Rattle.css_links.specs.Rewriting.{Change, anew, zone, Rewrite, held_in, white_in, white_at, out_at, out_with, out_of, white_of, rewrite_step, nothing_written, rewrite_fed, closed_in, rewritten, Piece, bytes_of, references_of, bytes_anew, IsAnew}
use Rattle.css_links.specs.Rewriting.Piece.{Bytes, Value}
use Rattle.css_links.specs.declared.zone.Zone.{Zone}
use Rattle.css_links.specs.declared.zone.Zone.TheVariants as zones
use Rattle.css_links.specs.declared.place.Turn.{Turn}
use Rattle.css_links.specs.declared.place.Turn.TheVariants.{At, Anew, First, With, Refer, Quote, UrlQuote, Open, Close}
use Rattle.css_links.specs.declared.place.Place.{Place}
use Rattle.css_links.specs.declared.place.Place.TheVariants.{Between, Inside}
use Rattle.css_links.specs.declared.place.SheetPart.TheVariants.{Reference, Other}
use Rattle.css_links.proofs.Moving.{Free, MoveAt, MoveAnew, MoveWith, MoveRefer, Move, moves}
use Rattle.css_links.proofs.Keeping.{free_held, front_fed, open_in_zone, open_place}

-- after `url(` no text has come
abbrev pub Unbegun : Zone → List ℕ → Type 0
Unbegun zones.Outside raw = Unit
Unbegun zones.Begun raw = raw ≡ []
Unbegun (zones.Quoted quote) raw = Unit
Unbegun zones.Unquoted raw = Unit
Unbegun zones.Ended raw = Unit

-- what was read is these pieces and what is held back; what was written is these pieces anew
pub record Cuts (change : Change) (z : Zone) (f : Front) (out white sheet : List ℕ) : Type 0 where
  pub pieces : List Piece
  pub text : flat_map bytes_of pieces ++ held_in z f.raw white ≡ sheet
  pub references : flat_map references_of pieces ≡ f.seen.found
  pub anew : flat_map (bytes_anew change) pieces ≡ out
  pub unbegun : Unbegun z f.raw

-- ---- a piece of bytes more

bytes_more : (pieces : List Piece) (bytes : List ℕ) → flat_map bytes_of (pieces ++ Bytes bytes ∷ []) ≡ flat_map bytes_of pieces ++ bytes
bytes_more pieces bytes = flat_map-append bytes_of pieces (Bytes bytes ∷ []) ∙ ap (λ xs. flat_map bytes_of pieces ++ xs) (append-nil bytes)

references_more : (pieces : List Piece) (bytes : List ℕ) → flat_map references_of (pieces ++ Bytes bytes ∷ []) ≡ flat_map references_of pieces
references_more pieces bytes = flat_map-append references_of pieces (Bytes bytes ∷ []) ∙ append-nil (flat_map references_of pieces)

anew_more : (change : Change) (pieces : List Piece) (bytes : List ℕ) → flat_map (bytes_anew change) (pieces ++ Bytes bytes ∷ []) ≡ flat_map (bytes_anew change) pieces ++ bytes
anew_more change pieces bytes = flat_map-append (bytes_anew change) pieces (Bytes bytes ∷ []) ∙ ap (λ xs. flat_map (bytes_anew change) pieces ++ xs) (append-nil bytes)

text_more : (pieces : List Piece) (held sheet : List ℕ) (b : ℕ) → flat_map bytes_of pieces ++ held ≡ sheet → flat_map bytes_of (pieces ++ Bytes (held ++ b ∷ []) ∷ []) ++ [] ≡ sheet ++ b ∷ []
text_more pieces held sheet b e =
    append-nil (flat_map bytes_of (pieces ++ Bytes (held ++ b ∷ []) ∷ [])) ∙ bytes_more pieces (held ++ b ∷ []) ∙ sym (append_assoc (flat_map bytes_of pieces) held (b ∷ [])) ∙ ap (λ xs. xs ++ b ∷ []) e

-- what is held back grows
held_more : (pieces : List Piece) (held sheet : List ℕ) (b : ℕ) → flat_map bytes_of pieces ++ held ≡ sheet → flat_map bytes_of pieces ++ (held ++ b ∷ []) ≡ sheet ++ b ∷ []
held_more pieces held sheet b e = sym (append_assoc (flat_map bytes_of pieces) held (b ∷ [])) ∙ ap (λ xs. xs ++ b ∷ []) e

-- ---- one more byte

at_cuts : (change : Change) (zp zq : Zone) (f : Front) (out white sheet : List ℕ) (b : ℕ) (q : Place) → MoveAt zp zq q b → Cuts change zp f out white sheet
    → Cuts change zq (front q f.raw f.seen) (out_at zq out (held_in zp f.raw white) b) (white_at zq zp white b) (sheet ++ b ∷ [])
at_cuts change zp zones.Outside f out white sheet b q m k = record {
  pieces = k.pieces ++ Bytes (held_in zp f.raw white ++ b ∷ []) ∷ [];
  text = text_more k.pieces (held_in zp f.raw white) sheet b k.text;
  references = references_more k.pieces (held_in zp f.raw white ++ b ∷ []) ∙ k.references;
  anew = anew_more change k.pieces (held_in zp f.raw white ++ b ∷ []) ∙ ap (λ xs. xs ++ (held_in zp f.raw white ++ b ∷ [])) k.anew;
  unbegun = tt;
}
at_cuts change zones.Begun zones.Begun f out white sheet b q m k = record {
  pieces = k.pieces ++ Bytes ([] ++ b ∷ []) ∷ [];
  text = text_more k.pieces [] sheet b k.text;
  references = references_more k.pieces ([] ++ b ∷ []) ∙ k.references;
  anew = anew_more change k.pieces ([] ++ b ∷ []) ∙ ap (λ xs. xs ++ ([] ++ b ∷ [])) k.anew;
  unbegun = k.unbegun;
}
at_cuts change zones.Unquoted zones.Ended f out white sheet b q m k = record {
  pieces = k.pieces;
  text = held_more k.pieces f.raw sheet b k.text;
  references = k.references;
  anew = k.anew;
  unbegun = tt;
}
at_cuts change zones.Ended zones.Ended f out white sheet b q m k = record {
  pieces = k.pieces;
  text = ap (λ xs. flat_map bytes_of k.pieces ++ xs) (sym (append_assoc f.raw white (b ∷ []))) ∙ held_more k.pieces (f.raw ++ white) sheet b k.text;
  references = k.references;
  anew = k.anew;
  unbegun = tt;
}
at_cuts change _ _ f out white sheet b q m k = absurd m

-- a byte where nothing is held back, nor after it
free_cuts : (change : Change) (zp zq : Zone) (f g : Front) (out white next sheet : List ℕ) (b : ℕ) → Free zp → g.seen.found ≡ f.seen.found → held_in zq g.raw next ≡ [] → Unbegun zq g.raw → Cuts change zp f out white sheet
    → Cuts change zq g (out ++ b ∷ []) next (sheet ++ b ∷ [])
free_cuts change zp zq f g out white next sheet b free e h u k = record {
  pieces = k.pieces ++ Bytes (b ∷ []) ∷ [];
  text = ap (λ xs. flat_map bytes_of (k.pieces ++ Bytes (b ∷ []) ∷ []) ++ xs) h ∙ text_more k.pieces [] sheet b (ap (λ xs. flat_map bytes_of k.pieces ++ xs) (sym (free_held zp f.raw white free)) ∙ k.text);
  references = references_more k.pieces (b ∷ []) ∙ k.references ∙ sym e;
  anew = anew_more change k.pieces (b ∷ []) ∙ ap (λ xs. xs ++ b ∷ []) k.anew;
  unbegun = u;
}

-- no text has come where one begins after the byte
nothing_held : (zq : Zone) (q : Place) (white : List ℕ) → MoveAnew zq q → held_in zq [] white ≡ []
nothing_held zones.Outside q white m = refl
nothing_held zones.Begun q white m = refl
nothing_held (zones.Quoted quote) q white m = refl
nothing_held zones.Unquoted q white m = absurd m
nothing_held zones.Ended q white m = absurd m

nothing_unbegun : (zq : Zone) → Unbegun zq []
nothing_unbegun zones.Outside = tt
nothing_unbegun zones.Begun = refl
nothing_unbegun (zones.Quoted quote) = tt
nothing_unbegun zones.Unquoted = tt
nothing_unbegun zones.Ended = tt

outside_held : (zq : Zone) (raw white : List ℕ) → zq ≡ zones.Outside → held_in zq raw white ≡ []
outside_held zq raw white e = ap (λ z. held_in z raw white) e

outside_unbegun : (zq : Zone) (raw : List ℕ) → zq ≡ zones.Outside → Unbegun zq raw
outside_unbegun zq raw e = subst (λ (z : Zone). Unbegun z raw) (sym e) tt

with_cuts : (change : Change) (zp zq : Zone) (f : Front) (out white sheet : List ℕ) (b : ℕ) (q : Place) → MoveWith zp zq → Cuts change zp f out white sheet
    → Cuts change zq (front q (f.raw ++ b ∷ []) f.seen) (out_with zq out b) white (sheet ++ b ∷ [])
with_cuts change zones.Outside zones.Outside f out white sheet b q m k = free_cuts change zones.Outside zones.Outside f (front q (f.raw ++ b ∷ []) f.seen) out white white sheet b tt refl refl tt k
with_cuts change (zones.Quoted quote) (zones.Quoted other) f out white sheet b q m k = record {
  pieces = k.pieces;
  text = held_more k.pieces f.raw sheet b k.text;
  references = k.references;
  anew = k.anew;
  unbegun = tt;
}
with_cuts change zones.Begun zones.Unquoted f out white sheet b q m k = record {
  pieces = k.pieces;
  text = ap (λ xs. flat_map bytes_of k.pieces ++ (xs ++ b ∷ [])) k.unbegun ∙ held_more k.pieces [] sheet b k.text;
  references = k.references;
  anew = k.anew;
  unbegun = tt;
}
with_cuts change zones.Unquoted zones.Unquoted f out white sheet b q m k = record {
  pieces = k.pieces;
  text = held_more k.pieces f.raw sheet b k.text;
  references = k.references;
  anew = k.anew;
  unbegun = tt;
}
with_cuts change _ _ f out white sheet b q m k = absurd m

-- what is held back at the end of a reference is its text and white
refer_held : (zp : Zone) (raw white : List ℕ) (b : ℕ) → MoveRefer zp b → Unbegun zp raw → raw ++ white_in zp white ≡ held_in zp raw white
refer_held zones.Outside raw white b m u = absurd m
refer_held zones.Begun raw white b m u = append-nil raw ∙ u
refer_held (zones.Quoted quote) raw white b m u = append-nil raw
refer_held zones.Unquoted raw white b m u = append-nil raw
refer_held zones.Ended raw white b m u = refl

-- a reference and bytes more
two_more : {X : Type 0} (of : Piece → List X) (pieces : List Piece) (raw bytes : List ℕ) → flat_map of (pieces ++ (Value raw ∷ Bytes bytes ∷ [])) ≡ flat_map of pieces ++ (of (Value raw) ++ of (Bytes bytes))
two_more of pieces raw bytes = flat_map-append of pieces (Value raw ∷ Bytes bytes ∷ []) ∙ ap (λ xs. flat_map of pieces ++ (of (Value raw) ++ xs)) (append-nil (of (Bytes bytes)))

refer_cuts : (change : Change) (zp : Zone) (f : Front) (out white next sheet : List ℕ) (b : ℕ) → MoveRefer zp b → Cuts change zp f out white sheet
    → Cuts change zones.Outside (front Between [] (noted f.seen (reference f.raw))) (out ++ (anew change f.raw ++ (white_in zp white ++ b ∷ []))) next (sheet ++ b ∷ [])
refer_cuts change zp f out white next sheet b m k = record {
  pieces = k.pieces ++ (Value f.raw ∷ Bytes (white_in zp white ++ b ∷ []) ∷ []);
  text =
      append-nil (flat_map bytes_of (k.pieces ++ (Value f.raw ∷ Bytes (white_in zp white ++ b ∷ []) ∷ [])))
      ∙ two_more bytes_of k.pieces f.raw (white_in zp white ++ b ∷ [])
      ∙ ap (λ xs. flat_map bytes_of k.pieces ++ xs) (sym (append_assoc f.raw (white_in zp white) (b ∷ [])) ∙ ap (λ xs. xs ++ b ∷ []) (refer_held zp f.raw white b m k.unbegun))
      ∙ held_more k.pieces (held_in zp f.raw white) sheet b k.text;
  references = two_more references_of k.pieces f.raw (white_in zp white ++ b ∷ []) ∙ ap (λ xs. flat_map references_of k.pieces ++ xs) (append-nil (reference f.raw)) ∙ ap (λ xs. xs ++ reference f.raw) k.references;
  anew = two_more (bytes_anew change) k.pieces f.raw (white_in zp white ++ b ∷ []) ∙ ap (λ xs. xs ++ (anew change f.raw ++ (white_in zp white ++ b ∷ []))) k.anew;
  unbegun = tt;
}

-- a string between tokens
string_held : (depth quote : ℕ) (white : List ℕ) → held_in (zone (Inside (string_at depth quote))) [] white ≡ []
string_held depth quote white = go (depth == 1) where
  go : (t : Bool) → held_in (zone (Inside (if t then Reference quote else Other quote))) [] white ≡ []
  go true = refl
  go false = refl

cuts_step : (change : Change) (w : Rewrite) (sheet : List ℕ) (b : ℕ) → Cuts change (zone w.front.place) w.front w.out w.white sheet
    → Cuts change (zone (rewrite_step change w b).front.place) (rewrite_step change w b).front (rewrite_step change w b).out (rewrite_step change w b).white (sheet ++ b ∷ [])
cuts_step change w sheet b k = go (turn w.front.place w.front.raw b) (moves w.front.place w.front.raw b) where
  go : (t : Turn) → Move (zone w.front.place) b t
      → Cuts change (zone (turned w.front b t).place) (turned w.front b t) (out_of change w b t) (white_of w b t) (sheet ++ b ∷ [])
  go (At q) m = at_cuts change (zone w.front.place) (zone q) w.front w.out w.white sheet b q m k
  go (Anew q) m = free_cuts change (zone w.front.place) (zone q) w.front (front q [] w.front.seen) w.out w.white w.white sheet b m.0 refl (nothing_held (zone q) q w.white m.1) (nothing_unbegun (zone q)) k
  go (First q) m = free_cuts change (zone w.front.place) (zone q) w.front (front q (b ∷ []) w.front.seen) w.out w.white w.white sheet b m.0 refl (outside_held (zone q) (b ∷ []) w.white m.1) (outside_unbegun (zone q) (b ∷ []) m.1) k
  go (With q) m = with_cuts change (zone w.front.place) (zone q) w.front w.out w.white sheet b q m k
  go Refer m = refer_cuts change (zone w.front.place) w.front w.out w.white w.white sheet b m k
  go (Quote quote) m =
      let p = Inside (string_at w.front.seen.depth quote) in
      free_cuts change (zone w.front.place) (zone p) w.front (front p [] w.front.seen) w.out w.white w.white sheet b m.0 refl (string_held w.front.seen.depth quote w.white) (nothing_unbegun (zone p)) k
  go (UrlQuote quote) m =
      free_cuts change (zone w.front.place) (zones.Quoted quote) w.front (front (Inside (Reference quote)) [] (within false w.front.seen)) w.out w.white w.white sheet b m.0 refl refl tt k
  go (Open set) m = free_cuts change (zone w.front.place) zones.Outside w.front (front Between w.front.raw (within set w.front.seen)) w.out w.white w.white sheet b m refl refl tt k
  go Close m = free_cuts change (zone w.front.place) zones.Outside w.front (front Between w.front.raw (without w.front.seen)) w.out w.white w.white sheet b m refl refl tt k

cuts_fed : (change : Change) (w : Rewrite) (sheet bs : List ℕ) → Cuts change (zone w.front.place) w.front w.out w.white sheet
    → Cuts change (zone (rewrite_fed change w bs).front.place) (rewrite_fed change w bs).front (rewrite_fed change w bs).out (rewrite_fed change w bs).white (sheet ++ bs)
cuts_fed change w sheet [] k = subst (λ (s : List ℕ). Cuts change (zone w.front.place) w.front w.out w.white s) (sym (append-nil sheet)) k
cuts_fed change w sheet (b ∷ bs) k =
    subst (λ (s : List ℕ). Cuts change (zone (rewrite_fed change w (b ∷ bs)).front.place) (rewrite_fed change w (b ∷ bs)).front (rewrite_fed change w (b ∷ bs)).out (rewrite_fed change w (b ∷ bs)).white s)
    (append_assoc sheet (b ∷ []) bs) (cuts_fed change (rewrite_step change w b) (sheet ++ b ∷ []) bs (cuts_step change w sheet b k))

-- ---- the end of the sheet

-- the pieces that the end adds
abbrev pub pieces_closed : Zone → List ℕ → List ℕ → List Piece
pieces_closed zones.Outside raw white = []
pieces_closed zones.Begun raw white = []
pieces_closed (zones.Quoted quote) raw white = Value raw ∷ Bytes [] ∷ []
pieces_closed zones.Unquoted raw white = Value raw ∷ Bytes [] ∷ []
pieces_closed zones.Ended raw white = Value raw ∷ Bytes white ∷ []

closed_bytes : (z : Zone) (raw white : List ℕ) → flat_map bytes_of (pieces_closed z raw white) ≡ held_in z raw white
closed_bytes zones.Outside raw white = refl
closed_bytes zones.Begun raw white = refl
closed_bytes (zones.Quoted quote) raw white = append-nil raw
closed_bytes zones.Unquoted raw white = append-nil raw
closed_bytes zones.Ended raw white = ap (λ xs. raw ++ xs) (append-nil white)

closed_references : (z : Zone) (raw white : List ℕ) → flat_map references_of (pieces_closed z raw white) ≡ open_in_zone z raw
closed_references zones.Outside raw white = refl
closed_references zones.Begun raw white = refl
closed_references (zones.Quoted quote) raw white = append-nil (reference raw)
closed_references zones.Unquoted raw white = append-nil (reference raw)
closed_references zones.Ended raw white = append-nil (reference raw)

closed_anew : (change : Change) (z : Zone) (raw white : List ℕ) → flat_map (bytes_anew change) (pieces_closed z raw white) ≡ closed_in change z raw white
closed_anew change zones.Outside raw white = refl
closed_anew change zones.Begun raw white = refl
closed_anew change (zones.Quoted quote) raw white = append-nil (anew change raw)
closed_anew change zones.Unquoted raw white = append-nil (anew change raw)
closed_anew change zones.Ended raw white = ap (λ xs. anew change raw ++ xs) (append-nil white)

-- A sheet anew is the sheet's pieces with its references changed.
pub is_anew : (change : Change) (sheet : List ℕ) → IsAnew change sheet (rewritten change sheet)
unfolding references rewritten
is_anew change sheet =
    let w = rewrite_fed change nothing_written sheet in
    let k = cuts_fed change nothing_written [] sheet (record { pieces = []; text = refl; references = refl; anew = refl; unbegun = tt }) in
    let z = zone w.front.place in
    record {
      pieces = k.pieces ++ pieces_closed z w.front.raw w.white;
      sheet_bytes = sym (flat_map-append bytes_of k.pieces (pieces_closed z w.front.raw w.white) ∙ ap (λ xs. flat_map bytes_of k.pieces ++ xs) (closed_bytes z w.front.raw w.white) ∙ k.text);
      sheet_references =
          ap (λ (f : Front). ended f) (sym (front_fed change nothing_written sheet))
          ∙ ap (λ xs. w.front.seen.found ++ xs) (open_place w.front.place w.front.raw ∙ sym (closed_references z w.front.raw w.white))
          ∙ ap (λ xs. xs ++ flat_map references_of (pieces_closed z w.front.raw w.white)) (sym k.references)
          ∙ sym (flat_map-append references_of k.pieces (pieces_closed z w.front.raw w.white));
      other_bytes =
          ap (λ xs. w.out ++ xs) (sym (closed_anew change z w.front.raw w.white))
          ∙ ap (λ xs. xs ++ flat_map (bytes_anew change) (pieces_closed z w.front.raw w.white)) (sym k.anew)
          ∙ sym (flat_map-append (bytes_anew change) k.pieces (pieces_closed z w.front.raw w.white));
    }
