-- A set that is written anew is read as the set with its URLs changed.
use Rattle.std.proofs.Common.{◌≡◌, ◌≢◌, ◌⊎◌, inl, inr, ◌==◌, ◌&&◌, ◌||◌, ℕ, Bool, true, false, not, List, [], ◌∷◌, ◌++◌, Option, Some, None, map, if◌then◌else◌, refl, sym, ap, ◌∙◌, subst, append_assoc, append-nil}
use Rattle.std.proofs.lemmas.Bool.{eqb-true}
use Rattle.std.proofs.lemmas.List.{map-append}
use Rattle.std.proofs.lemmas.List.Folds.{list_all-append}
use Rattle.std.specs.List.{list_all}
use Rattle.css_links.specs.Rewriting.{Change, or_same, changed}
use Rattle.source_sets.specs.Sets.{is_white, before, url, commas, turn, Front, front, reference, turned, step, nothing_read, fed, left_open, ended, references}
use Rattle.source_sets.specs.Rewriting.{ends_well, is_black, CanBeUrl, IsWriting, written_or, anew, Rewrite, out_of, rewrite_step, nothing_written, rewrite_fed, closed, rewrite_ended, rewritten}
use Rattle.source_sets.specs.declared.place.SetTurn.{SetTurn}
use Rattle.source_sets.specs.declared.place.SetTurn.TheVariants.{At, First, With, Comma, End}
use Rattle.source_sets.specs.declared.place.SetPlace.{SetPlace}
use Rattle.source_sets.specs.declared.place.SetPlace.TheVariants.{Before, Url, Commas, Descriptors, Parentheses}

fed-append : (s : Front) (xs ys : List ℕ) → fed s (xs ++ ys) ≡ fed (fed s xs) ys
fed-append s [] ys = refl
fed-append s (b ∷ bs) ys = fed-append (step s b) bs ys

-- ---- which turns there are

-- out of URLs a byte leads out of them
abbrev pub MoveAt : SetPlace → SetPlace → Type 0
MoveAt Before q = (q ≡ Before)
MoveAt Descriptors q = (q ≡ Before) ⊎ ((q ≡ Descriptors) ⊎ (q ≡ Parentheses))
MoveAt Parentheses q = (q ≡ Descriptors) ⊎ (q ≡ Parentheses)
MoveAt _ q = ⊥

abbrev pub MoveEnd : SetPlace → SetPlace → ℕ → Type 0
MoveEnd Url q b = (q ≡ Descriptors) × (is_white b ≡ true)
MoveEnd Commas q b = (q ≡ Before) × (is_white b ≡ true)
MoveEnd _ q b = ⊥

abbrev pub MoveIn : SetPlace → Type 0
MoveIn Url = Unit
MoveIn Commas = Unit
MoveIn _ = ⊥

abbrev pub Move : SetPlace → ℕ → SetTurn → Type 0
Move p b (At q) = MoveAt p q
Move p b First = p ≡ Before
Move p b With = MoveIn p
Move p b Comma = MoveIn p × (b ≡ 44)
Move p b (End q) = MoveEnd p q b

if_move : (p : SetPlace) (b : ℕ) (c : Bool) (x y : SetTurn) → (c ≡ true → Move p b x) → (c ≡ false → Move p b y) → Move p b (if c then x else y)
if_move p b true x y h k = h refl
if_move p b false x y h k = k refl

pub moves : (p : SetPlace) (b : ℕ) → Move p b (turn p b)
moves Before b = if_move Before b (is_white b || b == 44) (At Before) First (λ _. refl) (λ _. refl)
moves Url b = if_move Url b (is_white b) _ _ (λ e. (refl, e)) (λ _. if_move Url b (b == 44) _ _ (λ e. (tt, eqb-true b 44 e)) (λ _. tt))
moves Commas b = if_move Commas b (is_white b) _ _ (λ e. (refl, e)) (λ _. if_move Commas b (b == 44) _ _ (λ e. (tt, eqb-true b 44 e)) (λ _. tt))
moves Descriptors b = if_move Descriptors b (b == 44) _ _ (λ _. inl refl) (λ _. if_move Descriptors b (b == 40) _ _ (λ _. inr (inr refl)) (λ _. inr (inl refl)))
moves Parentheses b = if_move Parentheses b (b == 41) _ _ (λ _. inl refl) (λ _. inr refl)

-- ---- what is read of a text that is written

both : (x y : Bool) → (x && y) ≡ true → (x ≡ true) × (y ≡ true)
both true true e = (refl, refl)
both true false e = absurd (cc)
both false y e = absurd (cc)

not_true : (x : Bool) → not x ≡ true → x ≡ false
not_true true e = absurd (cc)
not_true false e = refl

-- in a URL, or in one after commas
abbrev pub inner : Bool → SetPlace
inner true = Commas
inner false = Url

inner_turn : (c : Bool) (b : ℕ) → is_white b ≡ false → turn (inner c) b ≡ (if b == 44 then Comma else With)
inner_turn true b e = rw e refl
inner_turn false b e = rw e refl

reads : (c : Bool) (raw before : List ℕ) (found : List (List ℕ)) (last : ℕ) (xs : List ℕ) → (last == 44) ≡ c → (c ≡ false → before ≡ []) → list_all is_black xs ≡ true → ends_well last xs ≡ true
    → fed (front (inner c) raw before found) xs ≡ front Url (raw ++ (before ++ xs)) [] found
reads true raw before found last [] e n h g = absurd (cc)
reads false raw before found last [] e n h g = rw (n refl) (ap (λ r. front Url r [] found) (sym (append-nil raw)))
reads c raw before found last (b ∷ bs) e n h g =
    go (b == 44) refl
    (λ f. reads true raw (before ++ b ∷ []) found b bs f (λ bad. absurd (cc)) (both (is_black b) (list_all is_black bs) h).1 g)
    (λ f. reads false (raw ++ (before ++ b ∷ [])) [] found b bs f (λ _. refl) (both (is_black b) (list_all is_black bs) h).1 g) where
      turns : turn (inner c) b ≡ (if b == 44 then Comma else With)
      turns = inner_turn c b (not_true (is_white b) (both (is_black b) (list_all is_black bs) h).0)

      go : (t : Bool) → (b == 44) ≡ t
          → ((b == 44) ≡ true → fed (front Commas raw (before ++ b ∷ []) found) bs ≡ front Url (raw ++ ((before ++ b ∷ []) ++ bs)) [] found)
          → ((b == 44) ≡ false → fed (front Url (raw ++ (before ++ b ∷ [])) [] found) bs ≡ front Url ((raw ++ (before ++ b ∷ [])) ++ bs) [] found)
          → fed (front (inner c) raw before found) (b ∷ bs) ≡ front Url (raw ++ (before ++ b ∷ bs)) [] found
      go true f k l =
          ap (λ t. fed (turned (front (inner c) raw before found) b t) bs) (turns ∙ ap (λ (t : Bool). if t then Comma else With) f)
          ∙ k f ∙ ap (λ r. front Url (raw ++ r) [] found) (append_assoc before (b ∷ []) bs)
      go false f k l =
          ap (λ t. fed (turned (front (inner c) raw before found) b t) bs) (turns ∙ ap (λ (t : Bool). if t then Comma else With) f)
          ∙ l f ∙ ap (λ r. front Url r [] found) (append_assoc raw (before ++ b ∷ []) bs ∙ ap (λ r. raw ++ r) (append_assoc before (b ∷ []) bs))

-- a text that can be a URL, before a candidate
written_reads : (text : List ℕ) (raw commas : List ℕ) (found : List (List ℕ)) → CanBeUrl text → fed (front Before raw commas found) text ≡ front Url text [] found
written_reads [] raw commas found w = absurd w
written_reads (b ∷ bs) raw commas found w =
    ap (λ t. fed (turned (front Before raw commas found) b t) bs) (before_first b w.black w.begins)
    ∙ reads false (b ∷ []) [] found b bs w.begins (λ _. refl) w.all_black w.ends
  where
    before_first : (b : ℕ) → is_white b ≡ false → (b == 44) ≡ false → before b ≡ First
    before_first b e f = rw (e, f) refl

-- commas after a URL
abbrev pub are_commas : List ℕ → Bool
are_commas xs = list_all (λ c. c == 44) xs

comma_turn : (c : Bool) (b : ℕ) → (b == 44) ≡ true → turn (inner c) b ≡ Comma
comma_turn c b e = subst (λ (n : ℕ). turn (inner c) n ≡ Comma) (sym (eqb-true b 44 e)) (at_comma c) where
  at_comma : (c : Bool) → turn (inner c) 44 ≡ Comma
  at_comma true = refl
  at_comma false = refl

more_commas : (raw before : List ℕ) (found : List (List ℕ)) (xs : List ℕ) → are_commas xs ≡ true → fed (front Commas raw before found) xs ≡ front Commas raw (before ++ xs) found
more_commas raw before found [] h = ap (λ r. front Commas raw r found) (sym (append-nil before))
more_commas raw before found (b ∷ xs) h =
    ap (λ t. fed (turned (front Commas raw before found) b t) xs) (comma_turn true b (both (b == 44) (are_commas xs) h).0)
    ∙ more_commas raw (before ++ b ∷ []) found xs (both (b == 44) (are_commas xs) h).1 ∙ ap (λ r. front Commas raw r found) (append_assoc before (b ∷ []) xs)

comma_reads : (raw : List ℕ) (found : List (List ℕ)) (b : ℕ) (xs : List ℕ) → are_commas (b ∷ xs) ≡ true → fed (front Url raw [] found) (b ∷ xs) ≡ front Commas raw (b ∷ xs) found
comma_reads raw found b xs h =
    ap (λ t. fed (turned (front Url raw [] found) b t) xs) (comma_turn false b (both (b == 44) (are_commas xs) h).0)
    ∙ more_commas raw (b ∷ []) found xs (both (b == 44) (are_commas xs) h).1

-- ---- one more byte

-- a front with its URLs changed
abbrev pub mapped : Change → Front → Front
mapped change f = front f.place f.raw f.commas (map (changed change) f.found)

-- what is held back
abbrev pub held : Front → List ℕ
held f = f.raw ++ f.commas

-- what is known of what was written, beside that it is read as the front
abbrev pub Good : Change → SetPlace → Front → List ℕ → Type 0
Good change Before f out = (f.raw ≡ []) × (f.commas ≡ [])
Good change Url f out = (fed nothing_read out ≡ front Before [] [] (map (changed change) f.found)) × (f.commas ≡ [])
Good change Commas f out = (fed nothing_read out ≡ front Before [] [] (map (changed change) f.found)) × (are_commas f.commas ≡ true) × (f.commas ≢ [])
Good change Descriptors f out = (f.raw ≡ []) × (f.commas ≡ [])
Good change Parentheses f out = (f.raw ≡ []) × (f.commas ≡ [])

-- what was written is read as the front, with its URLs changed, except what is held back
pub record Keeps (change : Change) (f : Front) (out : List ℕ) : Type 0 where
  pub behind : fed nothing_read (out ++ held f) ≡ mapped change f
  pub good : Good change f.place f out

-- the byte after all that is written and held back
read_on : (change : Change) (f : Front) (out : List ℕ) (b : ℕ) (t : SetTurn) → turn f.place b ≡ t → Keeps change f out
    → fed nothing_read (out ++ (held f ++ b ∷ [])) ≡ turned (mapped change f) b t
read_on change f out b t e k =
    ap (fed nothing_read) (sym (append_assoc out (held f) (b ∷ []))) ∙ fed-append nothing_read (out ++ held f) (b ∷ []) ∙ ap (λ s. step s b) k.behind ∙ ap (turned (mapped change f) b) e

-- a place outside of URLs
abbrev pub Outside : SetPlace → Type 0
Outside Before = Unit
Outside Url = ⊥
Outside Commas = ⊥
Outside Descriptors = Unit
Outside Parentheses = Unit

outside_good : (change : Change) (p : SetPlace) (found : List (List ℕ)) (out : List ℕ) → Outside p → Good change p (front p [] [] found) out
outside_good change Before found out o = (refl, refl)
outside_good change Url found out o = absurd o
outside_good change Commas found out o = absurd o
outside_good change Descriptors found out o = (refl, refl)
outside_good change Parentheses found out o = (refl, refl)

outside_nothing : (change : Change) (p : SetPlace) (f : Front) (out : List ℕ) → Outside p → Good change p f out → held f ≡ []
outside_nothing change Before f out o g = rw (g.0, g.1) refl
outside_nothing change Url f out o g = absurd o
outside_nothing change Commas f out o g = absurd o
outside_nothing change Descriptors f out o g = rw (g.0, g.1) refl
outside_nothing change Parentheses f out o g = rw (g.0, g.1) refl

pub at_outside : (p q : SetPlace) → MoveAt p q → Outside p × Outside q
at_outside Before q m = (tt, subst Outside (sym m) tt)
at_outside Url q m = absurd m
at_outside Commas q m = absurd m
at_outside Descriptors q (inl m) = (tt, subst Outside (sym m) tt)
at_outside Descriptors q (inr (inl m)) = (tt, subst Outside (sym m) tt)
at_outside Descriptors q (inr (inr m)) = (tt, subst Outside (sym m) tt)
at_outside Parentheses q (inl m) = (tt, subst Outside (sym m) tt)
at_outside Parentheses q (inr m) = (tt, subst Outside (sym m) tt)

free_on : (change : Change) (f : Front) (out : List ℕ) (b : ℕ) (t : SetTurn) → turn f.place b ≡ t → Outside f.place → Keeps change f out → fed nothing_read (out ++ b ∷ []) ≡ turned (mapped change f) b t
free_on change f out b t e o k = ap (λ xs. fed nothing_read (out ++ (xs ++ b ∷ []))) (sym (outside_nothing change f.place f out o k.good)) ∙ read_on change f out b t e k

at_keeps : (change : Change) (f : Front) (out : List ℕ) (b : ℕ) (q : SetPlace) → turn f.place b ≡ At q → MoveAt f.place q → Keeps change f out → Keeps change (front q [] [] f.found) (out ++ b ∷ [])
at_keeps change f out b q e m k = record {
  behind = ap (fed nothing_read) (append-nil (out ++ b ∷ [])) ∙ free_on change f out b (At q) e (at_outside f.place q m).0 k;
  good = outside_good change q f.found (out ++ b ∷ []) (at_outside f.place q m).1;
}

first_keeps : (change : Change) (f : Front) (out : List ℕ) (b : ℕ) → turn f.place b ≡ First → f.place ≡ Before → Keeps change f out → Keeps change (front Url (b ∷ []) [] f.found) out
first_keeps change f out b e m k = let g : Good change Before f out = subst (λ (p : SetPlace). Good change p f out) m k.good in record {
  behind = free_on change f out b First e (subst Outside (sym m) tt) k;
  good = (ap (fed nothing_read) (sym (append-nil out) ∙ ap (λ xs. out ++ xs) (sym (outside_nothing change Before f out tt g))) ∙ k.behind ∙ rw (m, g.0, g.1) refl, refl);
}

-- where a URL begins that is being read
begins : (change : Change) (p : SetPlace) (f : Front) (out : List ℕ) → MoveIn p → Good change p f out → fed nothing_read out ≡ front Before [] [] (map (changed change) f.found)
begins change Before f out m g = absurd m
begins change Url f out m g = g.0
begins change Commas f out m g = g.0
begins change Descriptors f out m g = absurd m
begins change Parentheses f out m g = absurd m

its_commas : (change : Change) (p : SetPlace) (f : Front) (out : List ℕ) → MoveIn p → Good change p f out → are_commas f.commas ≡ true
its_commas change Before f out m g = absurd m
its_commas change Url f out m g = ap are_commas g.1
its_commas change Commas f out m g = g.1
its_commas change Descriptors f out m g = absurd m
its_commas change Parentheses f out m g = absurd m

with_keeps : (change : Change) (f : Front) (out : List ℕ) (b : ℕ) → turn f.place b ≡ With → MoveIn f.place → Keeps change f out → Keeps change (front Url (f.raw ++ (f.commas ++ b ∷ [])) [] f.found) out
with_keeps change f out b e m k = record {
  behind = ap (λ xs. fed nothing_read (out ++ xs)) (append-nil (f.raw ++ (f.commas ++ b ∷ [])) ∙ sym (append_assoc f.raw f.commas (b ∷ []))) ∙ read_on change f out b With e k;
  good = (begins change f.place f out m k.good, refl);
}

not_empty : (xs : List ℕ) (b : ℕ) → xs ++ b ∷ [] ≢ []
not_empty [] b e = absurd (cc)
not_empty (x ∷ xs) b e = absurd (cc)

comma_keeps : (change : Change) (f : Front) (out : List ℕ) (b : ℕ) → turn f.place b ≡ Comma → MoveIn f.place → b ≡ 44 → Keeps change f out → Keeps change (front Commas f.raw (f.commas ++ b ∷ []) f.found) out
comma_keeps change f out b e m is k = record {
  behind = ap (λ xs. fed nothing_read (out ++ xs)) (sym (append_assoc f.raw f.commas (b ∷ []))) ∙ read_on change f out b Comma e k;
  good = (begins change f.place f out m k.good, list_all-append (λ c. c == 44) f.commas (b ∷ []) ∙ rw (its_commas change f.place f out m k.good) (ap (λ n. (n == 44) && true) is), not_empty f.commas b);
}

-- ---- the end of a URL

-- the commas after a URL that was written, and what they leave
after_commas : (text : List ℕ) (found : List (List ℕ)) (p : SetPlace) (cs : List ℕ) → MoveIn p → (p ≡ Url → cs ≡ []) → (p ≡ Commas → cs ≢ []) → are_commas cs ≡ true → fed (front Url text [] found) cs ≡ front p text cs found
after_commas text found Before cs m u c h = absurd m
after_commas text found Url cs m u c h = rw (u refl) refl
after_commas text found Commas [] m u c h = absurd (c refl refl)
after_commas text found Commas (d ∷ ds) m u c h = comma_reads text found d ds h
after_commas text found Descriptors cs m u c h = absurd m
after_commas text found Parentheses cs m u c h = absurd m

white_ends : (p q : SetPlace) (b : ℕ) → MoveEnd p q b → turn p b ≡ End q
white_ends Before q b m = absurd m
white_ends Url q b m = url_ends b m.1 ∙ ap End (sym m.0) where
  url_ends : (b : ℕ) → is_white b ≡ true → url b ≡ End Descriptors
  url_ends b e = rw e refl
white_ends Commas q b m = commas_end b m.1 ∙ ap End (sym m.0) where
  commas_end : (b : ℕ) → is_white b ≡ true → commas b ≡ End Before
  commas_end b e = rw e refl
white_ends Descriptors q b m = absurd m
white_ends Parentheses q b m = absurd m

pub end_in : (p q : SetPlace) (b : ℕ) → MoveEnd p q b → MoveIn p × Outside q
end_in Before q b m = absurd m
end_in Url q b m = (tt, subst Outside (sym m.0) tt)
end_in Commas q b m = (tt, subst Outside (sym m.0) tt)
end_in Descriptors q b m = absurd m
end_in Parentheses q b m = absurd m

no_commas : (change : Change) (p : SetPlace) (f : Front) (out : List ℕ) → Good change p f out → p ≡ Url → f.commas ≡ []
no_commas change p f out g e = go (subst (λ (q : SetPlace). Good change q f out) e g) where
  go : Good change Url f out → f.commas ≡ []
  go g = g.1

some_commas : (change : Change) (p : SetPlace) (f : Front) (out : List ℕ) → Good change p f out → p ≡ Commas → f.commas ≢ []
some_commas change p f out g e = go (subst (λ (q : SetPlace). Good change q f out) e g) where
  go : Good change Commas f out → f.commas ≢ []
  go g = g.2

-- a text in the place of the URL, and the commas after it
anew_reads : (change : Change) (f : Front) (out text rest : List ℕ) → MoveIn f.place → Keeps change f out → CanBeUrl text
    → fed nothing_read (out ++ (text ++ (f.commas ++ rest))) ≡ fed (front f.place text f.commas (map (changed change) f.found)) rest
anew_reads change f out text rest m k w =
    fed-append nothing_read out (text ++ (f.commas ++ rest))
    ∙ ap (λ s. fed s (text ++ (f.commas ++ rest))) (begins change f.place f out m k.good)
    ∙ fed-append (front Before [] [] (map (changed change) f.found)) text (f.commas ++ rest)
    ∙ ap (λ s. fed s (f.commas ++ rest)) (written_reads text [] [] (map (changed change) f.found) w)
    ∙ fed-append (front Url text [] (map (changed change) f.found)) f.commas rest
    ∙ ap (λ s. fed s rest) (after_commas text (map (changed change) f.found) f.place f.commas m (no_commas change f.place f out k.good) (some_commas change f.place f out k.good) (its_commas change f.place f out m k.good))

utf8_written : (text : List ℕ) → CanBeUrl text → reference text ≡ text
utf8_written [] w = absurd w
utf8_written (b ∷ bs) w = w.utf8

end_keeps : (change : Change) → IsWriting change → (f : Front) (out : List ℕ) (b : ℕ) (q : SetPlace) → turn f.place b ≡ End q → MoveEnd f.place q b → Keeps change f out
    → Keeps change (front q [] [] (f.found ++ reference f.raw ∷ [])) (out ++ (anew change f.raw ++ (f.commas ++ b ∷ [])))
end_keeps change writing f out b q e m k = record {
  behind =
      ap (fed nothing_read) (append-nil (out ++ (anew change f.raw ++ (f.commas ++ b ∷ [])))) ∙ go (change (reference f.raw)) refl
      ∙ ap (front q [] []) (sym (map-append (changed change) f.found (reference f.raw ∷ [])));
  good = outside_good change q (f.found ++ reference f.raw ∷ []) (out ++ (anew change f.raw ++ (f.commas ++ b ∷ []))) (end_in f.place q b m).1;
} where
  go : (to : Option (List ℕ)) → change (reference f.raw) ≡ to
      → fed nothing_read (out ++ (anew change f.raw ++ (f.commas ++ b ∷ []))) ≡ front q [] [] (map (changed change) f.found ++ changed change (reference f.raw) ∷ [])
  go None g =
      ap (λ o. fed nothing_read (out ++ (written_or f.raw o ++ (f.commas ++ b ∷ [])))) g
      ∙ ap (λ xs. fed nothing_read (out ++ xs)) (sym (append_assoc f.raw f.commas (b ∷ [])))
      ∙ read_on change f out b (End q) e k
      ∙ ap (λ o. front q [] [] (map (changed change) f.found ++ or_same o (reference f.raw) ∷ [])) (sym g)
  go (Some other) g =
      ap (λ o. fed nothing_read (out ++ (written_or f.raw o ++ (f.commas ++ b ∷ [])))) g
      ∙ anew_reads change f out other (b ∷ []) (end_in f.place q b m).0 k (writing (reference f.raw) other g)
      ∙ ap (turned (front f.place other f.commas (map (changed change) f.found)) b) e
      ∙ ap (λ t. front q [] [] (map (changed change) f.found ++ t ∷ [])) (utf8_written other (writing (reference f.raw) other g) ∙ ap (λ o. or_same o (reference f.raw)) (sym g))

-- ---- any bytes

keeps_step : (change : Change) → IsWriting change → (w : Rewrite) (b : ℕ) → Keeps change w.front w.out → Keeps change (rewrite_step change w b).front (rewrite_step change w b).out
keeps_step change writing w b k = go (turn w.front.place b) refl (moves w.front.place b) where
  go : (t : SetTurn) → turn w.front.place b ≡ t → Move w.front.place b t → Keeps change (turned w.front b t) (out_of change w b t)
  go (At q) e m = at_keeps change w.front w.out b q e m k
  go First e m = first_keeps change w.front w.out b e m k
  go With e m = with_keeps change w.front w.out b e m k
  go Comma e m = comma_keeps change w.front w.out b e m.0 m.1 k
  go (End q) e m = end_keeps change writing w.front w.out b q e m k

keeps_fed : (change : Change) → IsWriting change → (w : Rewrite) (bs : List ℕ) → Keeps change w.front w.out → Keeps change (rewrite_fed change w bs).front (rewrite_fed change w bs).out
keeps_fed change writing w [] k = k
keeps_fed change writing w (b ∷ bs) k = keeps_fed change writing (rewrite_step change w b) bs (keeps_step change writing w b k)

pub front_fed : (change : Change) (w : Rewrite) (bs : List ℕ) → (rewrite_fed change w bs).front ≡ fed w.front bs
front_fed change w [] = refl
front_fed change w (b ∷ bs) = front_fed change (rewrite_step change w b) bs

-- ---- the end of the set

in_open : (p : SetPlace) (raw : List ℕ) → MoveIn p → left_open p raw ≡ reference raw ∷ []
in_open Before raw m = absurd m
in_open Url raw m = refl
in_open Commas raw m = refl
in_open Descriptors raw m = absurd m
in_open Parentheses raw m = absurd m

in_closed : (change : Change) (p : SetPlace) (raw commas : List ℕ) → MoveIn p → closed change p raw commas ≡ anew change raw ++ commas
in_closed change Before raw commas m = absurd m
in_closed change Url raw commas m = refl
in_closed change Commas raw commas m = refl
in_closed change Descriptors raw commas m = absurd m
in_closed change Parentheses raw commas m = absurd m

out_open : (p : SetPlace) (raw : List ℕ) → Outside p → left_open p raw ≡ []
out_open Before raw o = refl
out_open Url raw o = absurd o
out_open Commas raw o = absurd o
out_open Descriptors raw o = refl
out_open Parentheses raw o = refl

out_closed : (change : Change) (p : SetPlace) (raw commas : List ℕ) → Outside p → closed change p raw commas ≡ []
out_closed change Before raw commas o = refl
out_closed change Url raw commas o = absurd o
out_closed change Commas raw commas o = absurd o
out_closed change Descriptors raw commas o = refl
out_closed change Parentheses raw commas o = refl

in_or_out : (p : SetPlace) → MoveIn p ⊎ Outside p
in_or_out Before = inr tt
in_or_out Url = inl tt
in_or_out Commas = inl tt
in_or_out Descriptors = inr tt
in_or_out Parentheses = inr tt

closed_reads : (change : Change) → IsWriting change → (f : Front) (out : List ℕ) → Keeps change f out → ended (fed nothing_read (out ++ closed change f.place f.raw f.commas)) ≡ map (changed change) (ended f)
closed_reads change writing f out k = go (in_or_out f.place) where
  inside : MoveIn f.place → (to : Option (List ℕ)) → change (reference f.raw) ≡ to
      → ended (fed nothing_read (out ++ (anew change f.raw ++ f.commas))) ≡ map (changed change) f.found ++ changed change (reference f.raw) ∷ []
  inside m None g =
      ap (λ o. ended (fed nothing_read (out ++ (written_or f.raw o ++ f.commas)))) g ∙ ap ended k.behind
      ∙ ap (λ xs. map (changed change) f.found ++ xs) (in_open f.place f.raw m ∙ ap (λ o. or_same o (reference f.raw) ∷ []) (sym g))
  inside m (Some other) g =
      ap (λ o. ended (fed nothing_read (out ++ (written_or f.raw o ++ f.commas)))) g
      ∙ ap (λ xs. ended (fed nothing_read (out ++ (other ++ xs)))) (sym (append-nil f.commas))
      ∙ ap ended (anew_reads change f out other [] m k (writing (reference f.raw) other g))
      ∙ ap (λ xs. map (changed change) f.found ++ xs) (in_open f.place other m)
      ∙ ap (λ t. map (changed change) f.found ++ t ∷ []) (utf8_written other (writing (reference f.raw) other g) ∙ ap (λ o. or_same o (reference f.raw)) (sym g))

  go : MoveIn f.place ⊎ Outside f.place → ended (fed nothing_read (out ++ closed change f.place f.raw f.commas)) ≡ map (changed change) (ended f)
  go (inl m) =
      ap (λ xs. ended (fed nothing_read (out ++ xs))) (in_closed change f.place f.raw f.commas m) ∙ inside m (change (reference f.raw)) refl
      ∙ sym (ap (λ xs. map (changed change) (f.found ++ xs)) (in_open f.place f.raw m) ∙ map-append (changed change) f.found (reference f.raw ∷ []))
  go (inr o) =
      ap (λ xs. ended (fed nothing_read (out ++ xs))) (out_closed change f.place f.raw f.commas o ∙ sym (outside_nothing change f.place f out o k.good)) ∙ ap ended k.behind
      ∙ ap (λ xs. map (changed change) f.found ++ xs) (out_open f.place f.raw o)
      ∙ sym (ap (λ xs. map (changed change) (f.found ++ xs)) (out_open f.place f.raw o) ∙ map-append (changed change) f.found [])

-- The URLs of the set anew are those of the set, changed, one by one and in their order.
pub references_rewritten : (change : Change) → IsWriting change → (set : List ℕ) → references (rewritten change set) ≡ map (changed change) (references set)
unfolding references rewritten
references_rewritten change writing set =
    let w = rewrite_fed change nothing_written set in
    closed_reads change writing w.front w.out (keeps_fed change writing nothing_written set (record { behind = refl; good = (refl, refl) }))
    ∙ ap (λ (f : Front). map (changed change) (ended f)) (front_fed change nothing_written set)

-- what was written step by step is the set anew
pub rewritten_by : (change : Change) (out : List ℕ) (first last : Rewrite) (set : List ℕ) → first ≡ nothing_written → last ≡ rewrite_fed change first set → out ≡ rewrite_ended change last → out ≡ rewritten change set
unfolding rewritten
rewritten_by change out first last set e f g = g ∙ ap (rewrite_ended change) (f ∙ ap (λ (w : Rewrite). rewrite_fed change w set) e)
