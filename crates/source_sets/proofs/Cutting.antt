-- The pieces of a set that is written anew.
use Rattle.std.proofs.Common.{◌≡◌, ℕ, List, [], ◌∷◌, ◌++◌, refl, sym, ap, ◌∙◌, subst, append_assoc, append-nil}
use Rattle.std.proofs.lemmas.Grind.{flat_map-append}
use Rattle.std.specs.List.{flat_map}
use Rattle.css_links.specs.Rewriting.{Change}
use Rattle.source_sets.specs.Sets.{turn, Front, front, reference, turned, left_open, ended, references}
use Rattle.source_sets.specs.Rewriting.{anew, Rewrite, out_of, rewrite_step, nothing_written, rewrite_fed, closed, rewritten, Piece, bytes_of, references_of, bytes_anew, IsAnew}
use Rattle.source_sets.specs.Rewriting.Piece.{Bytes, Value}
use Rattle.source_sets.specs.declared.place.SetTurn.{SetTurn}
use Rattle.source_sets.specs.declared.place.SetTurn.TheVariants.{At, First, With, Comma, End}
use Rattle.source_sets.specs.declared.place.SetPlace.{SetPlace}
use Rattle.source_sets.specs.declared.place.SetPlace.TheVariants.{Before, Url, Commas, Descriptors, Parentheses}
use Rattle.source_sets.proofs.Keeping.{MoveAt, MoveEnd, Move, moves, Outside, at_outside, end_in, held, front_fed}

-- out of URLs nothing is held back
abbrev pub Nothing : SetPlace → Front → Type 0
Nothing Before f = held f ≡ []
Nothing Url f = Unit
Nothing Commas f = Unit
Nothing Descriptors f = held f ≡ []
Nothing Parentheses f = held f ≡ []

-- what was read is these pieces and what is held back; what was written is these pieces anew
pub record Cuts (change : Change) (f : Front) (out set : List ℕ) : Type 0 where
  pub pieces : List Piece
  pub text : flat_map bytes_of pieces ++ held f ≡ set
  pub references : flat_map references_of pieces ≡ f.found
  pub anew : flat_map (bytes_anew change) pieces ≡ out
  pub nothing : Nothing f.place f

one_more : {X : Type 0} (of : Piece → List X) (pieces : List Piece) (piece : Piece) → flat_map of (pieces ++ piece ∷ []) ≡ flat_map of pieces ++ of piece
one_more of pieces piece = flat_map-append of pieces (piece ∷ []) ∙ ap (λ xs. flat_map of pieces ++ xs) (append-nil (of piece))

two_more : {X : Type 0} (of : Piece → List X) (pieces : List Piece) (raw bytes : List ℕ) → flat_map of (pieces ++ (Value raw ∷ Bytes bytes ∷ [])) ≡ flat_map of pieces ++ (of (Value raw) ++ of (Bytes bytes))
two_more of pieces raw bytes = flat_map-append of pieces (Value raw ∷ Bytes bytes ∷ []) ∙ ap (λ xs. flat_map of pieces ++ (of (Value raw) ++ xs)) (append-nil (of (Bytes bytes)))

-- what is held back goes on
held_more : (pieces : List Piece) (held set : List ℕ) (b : ℕ) → flat_map bytes_of pieces ++ held ≡ set → flat_map bytes_of pieces ++ (held ++ b ∷ []) ≡ set ++ b ∷ []
held_more pieces held set b e = sym (append_assoc (flat_map bytes_of pieces) held (b ∷ [])) ∙ ap (λ xs. xs ++ b ∷ []) e

outside_nothing : (p : SetPlace) (f : Front) → Outside p → Nothing p f → held f ≡ []
outside_nothing Before f o n = n
outside_nothing Url f o n = absurd o
outside_nothing Commas f o n = absurd o
outside_nothing Descriptors f o n = n
outside_nothing Parentheses f o n = n

outside_empty : (p : SetPlace) (found : List (List ℕ)) → Outside p → Nothing p (front p [] [] found)
outside_empty Before found o = refl
outside_empty Url found o = absurd o
outside_empty Commas found o = absurd o
outside_empty Descriptors found o = refl
outside_empty Parentheses found o = refl

at_cuts : (change : Change) (f : Front) (out set : List ℕ) (b : ℕ) (q : SetPlace) → MoveAt f.place q → Cuts change f out set → Cuts change (front q [] [] f.found) (out ++ b ∷ []) (set ++ b ∷ [])
at_cuts change f out set b q m k = record {
  pieces = k.pieces ++ Bytes (b ∷ []) ∷ [];
  text =
      append-nil (flat_map bytes_of (k.pieces ++ Bytes (b ∷ []) ∷ [])) ∙ one_more bytes_of k.pieces (Bytes (b ∷ []))
      ∙ ap (λ xs. flat_map bytes_of k.pieces ++ (xs ++ b ∷ [])) (sym (outside_nothing f.place f (at_outside f.place q m).0 k.nothing)) ∙ held_more k.pieces (held f) set b k.text;
  references = one_more references_of k.pieces (Bytes (b ∷ [])) ∙ append-nil (flat_map references_of k.pieces) ∙ k.references;
  anew = one_more (bytes_anew change) k.pieces (Bytes (b ∷ [])) ∙ ap (λ xs. xs ++ b ∷ []) k.anew;
  nothing = outside_empty q f.found (at_outside f.place q m).1;
}

first_cuts : (change : Change) (f : Front) (out set : List ℕ) (b : ℕ) → f.place ≡ Before → Cuts change f out set → Cuts change (front Url (b ∷ []) [] f.found) out (set ++ b ∷ [])
first_cuts change f out set b m k = record {
  pieces = k.pieces;
  text =
      ap (λ xs. flat_map bytes_of k.pieces ++ (xs ++ b ∷ [])) (sym (outside_nothing f.place f (subst Outside (sym m) tt) k.nothing)) ∙ held_more k.pieces (held f) set b k.text;
  references = k.references;
  anew = k.anew;
  nothing = tt;
}

with_cuts : (change : Change) (f : Front) (out set : List ℕ) (b : ℕ) → Cuts change f out set → Cuts change (front Url (f.raw ++ (f.commas ++ b ∷ [])) [] f.found) out (set ++ b ∷ [])
with_cuts change f out set b k = record {
  pieces = k.pieces;
  text = ap (λ xs. flat_map bytes_of k.pieces ++ xs) (append-nil (f.raw ++ (f.commas ++ b ∷ [])) ∙ sym (append_assoc f.raw f.commas (b ∷ []))) ∙ held_more k.pieces (held f) set b k.text;
  references = k.references;
  anew = k.anew;
  nothing = tt;
}

comma_cuts : (change : Change) (f : Front) (out set : List ℕ) (b : ℕ) → Cuts change f out set → Cuts change (front Commas f.raw (f.commas ++ b ∷ []) f.found) out (set ++ b ∷ [])
comma_cuts change f out set b k = record {
  pieces = k.pieces;
  text = ap (λ xs. flat_map bytes_of k.pieces ++ xs) (sym (append_assoc f.raw f.commas (b ∷ []))) ∙ held_more k.pieces (held f) set b k.text;
  references = k.references;
  anew = k.anew;
  nothing = tt;
}

end_cuts : (change : Change) (f : Front) (out set : List ℕ) (b : ℕ) (q : SetPlace) → MoveEnd f.place q b → Cuts change f out set
    → Cuts change (front q [] [] (f.found ++ reference f.raw ∷ [])) (out ++ (anew change f.raw ++ (f.commas ++ b ∷ []))) (set ++ b ∷ [])
end_cuts change f out set b q m k = record {
  pieces = k.pieces ++ (Value f.raw ∷ Bytes (f.commas ++ b ∷ []) ∷ []);
  text =
      append-nil (flat_map bytes_of (k.pieces ++ (Value f.raw ∷ Bytes (f.commas ++ b ∷ []) ∷ []))) ∙ two_more bytes_of k.pieces f.raw (f.commas ++ b ∷ [])
      ∙ ap (λ xs. flat_map bytes_of k.pieces ++ xs) (sym (append_assoc f.raw f.commas (b ∷ []))) ∙ held_more k.pieces (held f) set b k.text;
  references = two_more references_of k.pieces f.raw (f.commas ++ b ∷ []) ∙ ap (λ xs. xs ++ reference f.raw ∷ []) k.references;
  anew = two_more (bytes_anew change) k.pieces f.raw (f.commas ++ b ∷ []) ∙ ap (λ xs. xs ++ (anew change f.raw ++ (f.commas ++ b ∷ []))) k.anew;
  nothing = outside_empty q (f.found ++ reference f.raw ∷ []) (end_in f.place q b m).1;
}

cuts_step : (change : Change) (w : Rewrite) (set : List ℕ) (b : ℕ) → Cuts change w.front w.out set → Cuts change (rewrite_step change w b).front (rewrite_step change w b).out (set ++ b ∷ [])
cuts_step change w set b k = go (turn w.front.place b) (moves w.front.place b) where
  go : (t : SetTurn) → Move w.front.place b t → Cuts change (turned w.front b t) (out_of change w b t) (set ++ b ∷ [])
  go (At q) m = at_cuts change w.front w.out set b q m k
  go First m = first_cuts change w.front w.out set b m k
  go With m = with_cuts change w.front w.out set b k
  go Comma m = comma_cuts change w.front w.out set b k
  go (End q) m = end_cuts change w.front w.out set b q m k

cuts_fed : (change : Change) (w : Rewrite) (set bs : List ℕ) → Cuts change w.front w.out set → Cuts change (rewrite_fed change w bs).front (rewrite_fed change w bs).out (set ++ bs)
cuts_fed change w set [] k = subst (λ (s : List ℕ). Cuts change w.front w.out s) (sym (append-nil set)) k
cuts_fed change w set (b ∷ bs) k =
    subst (λ (s : List ℕ). Cuts change (rewrite_fed change w (b ∷ bs)).front (rewrite_fed change w (b ∷ bs)).out s)
    (append_assoc set (b ∷ []) bs) (cuts_fed change (rewrite_step change w b) (set ++ b ∷ []) bs (cuts_step change w set b k))

-- the pieces that the end adds
abbrev pub pieces_closed : SetPlace → List ℕ → List ℕ → List Piece
pieces_closed Before raw commas = []
pieces_closed Url raw commas = Value raw ∷ Bytes commas ∷ []
pieces_closed Commas raw commas = Value raw ∷ Bytes commas ∷ []
pieces_closed Descriptors raw commas = []
pieces_closed Parentheses raw commas = []

closed_bytes : (p : SetPlace) (f : Front) → Nothing p f → flat_map bytes_of (pieces_closed p f.raw f.commas) ≡ held f
closed_bytes Before f n = sym n
closed_bytes Url f n = ap (λ xs. f.raw ++ xs) (append-nil f.commas)
closed_bytes Commas f n = ap (λ xs. f.raw ++ xs) (append-nil f.commas)
closed_bytes Descriptors f n = sym n
closed_bytes Parentheses f n = sym n

closed_references : (p : SetPlace) (raw commas : List ℕ) → flat_map references_of (pieces_closed p raw commas) ≡ left_open p raw
closed_references Before raw commas = refl
closed_references Url raw commas = refl
closed_references Commas raw commas = refl
closed_references Descriptors raw commas = refl
closed_references Parentheses raw commas = refl

closed_anew : (change : Change) (p : SetPlace) (raw commas : List ℕ) → flat_map (bytes_anew change) (pieces_closed p raw commas) ≡ closed change p raw commas
closed_anew change Before raw commas = refl
closed_anew change Url raw commas = ap (λ xs. anew change raw ++ xs) (append-nil commas)
closed_anew change Commas raw commas = ap (λ xs. anew change raw ++ xs) (append-nil commas)
closed_anew change Descriptors raw commas = refl
closed_anew change Parentheses raw commas = refl

-- A set anew is the set's pieces with its URLs changed.
pub is_anew : (change : Change) (set : List ℕ) → IsAnew change set (rewritten change set)
unfolding references rewritten
is_anew change set =
    let w = rewrite_fed change nothing_written set in
    let k = cuts_fed change nothing_written [] set (record { pieces = []; text = refl; references = refl; anew = refl; nothing = refl }) in
    let more = pieces_closed w.front.place w.front.raw w.front.commas in
    record {
      pieces = k.pieces ++ more;
      set_bytes = sym (flat_map-append bytes_of k.pieces more ∙ ap (λ xs. flat_map bytes_of k.pieces ++ xs) (closed_bytes w.front.place w.front k.nothing) ∙ k.text);
      set_references =
          ap (λ (f : Front). ended f) (sym (front_fed change nothing_written set))
          ∙ ap (λ xs. w.front.found ++ xs) (sym (closed_references w.front.place w.front.raw w.front.commas))
          ∙ ap (λ xs. xs ++ flat_map references_of more) (sym k.references) ∙ sym (flat_map-append references_of k.pieces more);
      other_bytes =
          ap (λ xs. w.out ++ xs) (sym (closed_anew change w.front.place w.front.raw w.front.commas))
          ∙ ap (λ xs. xs ++ flat_map (bytes_anew change) more) (sym k.anew) ∙ sym (flat_map-append (bytes_anew change) k.pieces more);
    }
