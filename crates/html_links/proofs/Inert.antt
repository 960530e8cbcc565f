-- Escaped texts: what they say, and where they end.
use Rattle.std.proofs.Common.{◌≡◌, ◌≢◌, ◌==◌, ◌&&◌, ◌||◌, ℕ, Bool, true, false, not, List, [], ◌∷◌, ◌++◌, None, if◌then◌else◌, codes, length, ◌<◌, refl, sym, ap, ◌∙◌, append-nil, arith}
use Rattle.std.proofs.lemmas.Bool.{eqb-true, eq-eqb}
use Rattle.std.proofs.lemmas.List.Folds.{list_all-append}
use Rattle.std.specs.List.{list_all}
use Rattle.html_links.specs.Pieces.{until, from, beyond, is, is_quote, ends_bare_value}
use Rattle.html_links.specs.Markup.{valued, value_at}
use Rattle.html_links.specs.References.{reference_at, step, step_text, step_rest, referenced}
use Rattle.html_links.specs.Escaping.{escaped_byte, escaped}
use Rattle.html_links.proofs.Referencing.{referenced_step, referenced_none}

-- what holds of the references, and of any other byte, holds of an escaped byte
escaped_cases : (Q : List ℕ → Type 0) (b : ℕ)
    → (b ≡ 38 → Q (codes "&amp;")) → (b ≡ 34 → Q (codes "&quot;")) → (b ≡ 39 → Q (codes "&#39;")) → (b ≡ 60 → Q (codes "&lt;")) → (b ≡ 62 → Q (codes "&gt;"))
    → (b ≡ 9 → Q (codes "&#9;")) → (b ≡ 10 → Q (codes "&#10;")) → (b ≡ 12 → Q (codes "&#12;")) → (b ≡ 13 → Q (codes "&#13;")) → (b ≡ 32 → Q (codes "&#32;"))
    → ((b == 38) ≡ false → (b == 34) ≡ false → (b == 39) ≡ false → (b == 62) ≡ false → (b == 9) ≡ false → (b == 10) ≡ false → (b == 12) ≡ false → (b == 13) ≡ false → (b == 32) ≡ false → Q (b ∷ []))
    → Q (escaped_byte b)
escaped_cases Q b q1 q2 q3 q4 q5 q6 q7 q8 q9 q10 q =
    go (b == 38) (b == 34) (b == 39) (b == 60) (b == 62) (b == 9) (b == 10) (b == 12) (b == 13) (b == 32) refl refl refl refl refl refl refl refl refl refl where
      go : (t1 t2 t3 t4 t5 t6 t7 t8 t9 t10 : Bool) → (b == 38) ≡ t1 → (b == 34) ≡ t2 → (b == 39) ≡ t3 → (b == 60) ≡ t4 → (b == 62) ≡ t5 → (b == 9) ≡ t6 → (b == 10) ≡ t7 → (b == 12) ≡ t8 → (b == 13) ≡ t9 → (b == 32) ≡ t10
          → Q (if t1 then codes "&amp;" else if t2 then codes "&quot;" else if t3 then codes "&#39;" else if t4 then codes "&lt;" else if t5 then codes "&gt;"
          else if t6 then codes "&#9;" else if t7 then codes "&#10;" else if t8 then codes "&#12;" else if t9 then codes "&#13;" else if t10 then codes "&#32;" else b ∷ [])
      go true t2 t3 t4 t5 t6 t7 t8 t9 t10 e1 e2 e3 e4 e5 e6 e7 e8 e9 e10 = q1 (eqb-true b 38 e1)
      go false true t3 t4 t5 t6 t7 t8 t9 t10 e1 e2 e3 e4 e5 e6 e7 e8 e9 e10 = q2 (eqb-true b 34 e2)
      go false false true t4 t5 t6 t7 t8 t9 t10 e1 e2 e3 e4 e5 e6 e7 e8 e9 e10 = q3 (eqb-true b 39 e3)
      go false false false true t5 t6 t7 t8 t9 t10 e1 e2 e3 e4 e5 e6 e7 e8 e9 e10 = q4 (eqb-true b 60 e4)
      go false false false false true t6 t7 t8 t9 t10 e1 e2 e3 e4 e5 e6 e7 e8 e9 e10 = q5 (eqb-true b 62 e5)
      go false false false false false true t7 t8 t9 t10 e1 e2 e3 e4 e5 e6 e7 e8 e9 e10 = q6 (eqb-true b 9 e6)
      go false false false false false false true t8 t9 t10 e1 e2 e3 e4 e5 e6 e7 e8 e9 e10 = q7 (eqb-true b 10 e7)
      go false false false false false false false true t9 t10 e1 e2 e3 e4 e5 e6 e7 e8 e9 e10 = q8 (eqb-true b 12 e8)
      go false false false false false false false false true t10 e1 e2 e3 e4 e5 e6 e7 e8 e9 e10 = q9 (eqb-true b 13 e9)
      go false false false false false false false false false true e1 e2 e3 e4 e5 e6 e7 e8 e9 e10 = q10 (eqb-true b 32 e10)
      go false false false false false false false false false false e1 e2 e3 e4 e5 e6 e7 e8 e9 e10 = q e1 e2 e3 e5 e6 e7 e8 e9 e10

-- ---- what an escaped text says

abbrev SaysByte : ℕ → List ℕ → Type 0
SaysByte b text = (rest : List ℕ) → referenced (text ++ rest) ≡ b ∷ referenced rest

numbered : (b n : ℕ) (text : List ℕ) → SaysByte n text → b ≡ n → SaysByte b text
numbered b n text h e = λ rest. h rest ∙ ap (λ x. x ∷ referenced rest) (sym e)

text_same : (b : ℕ) (rest : List ℕ) → (b == 38) ≡ false → step_text b rest ≡ b ∷ []
text_same b rest e = ap (λ (t : Bool). (step b rest (if t then reference_at rest else None)).0) e

rest_same : (b : ℕ) (rest : List ℕ) → (b == 38) ≡ false → step_rest b rest ≡ rest
rest_same b rest e = ap (λ (t : Bool). (step b rest (if t then reference_at rest else None)).1) e

plain_step : (b : ℕ) (rest : List ℕ) → (b == 38) ≡ false → referenced (b ∷ rest) ≡ b ∷ referenced rest
plain_step b rest e = referenced_step b rest ∙ ap (λ xs. xs ++ referenced (step_rest b rest)) (text_same b rest e) ∙ ap (λ xs. b ∷ referenced xs) (rest_same b rest e)

says_byte : (b : ℕ) → SaysByte b (escaped_byte b)
unfolding reference_at lib.Utf8.encode
says_byte b = escaped_cases (SaysByte b) b
    (numbered b 38 (codes "&amp;") (λ rest. referenced_step 38 (codes "amp;" ++ rest)))
    (numbered b 34 (codes "&quot;") (λ rest. referenced_step 38 (codes "quot;" ++ rest)))
    (numbered b 39 (codes "&#39;") (λ rest. referenced_step 38 (codes "#39;" ++ rest)))
    (numbered b 60 (codes "&lt;") (λ rest. referenced_step 38 (codes "lt;" ++ rest)))
    (numbered b 62 (codes "&gt;") (λ rest. referenced_step 38 (codes "gt;" ++ rest)))
    (numbered b 9 (codes "&#9;") (λ rest. referenced_step 38 (codes "#9;" ++ rest)))
    (numbered b 10 (codes "&#10;") (λ rest. referenced_step 38 (codes "#10;" ++ rest)))
    (numbered b 12 (codes "&#12;") (λ rest. referenced_step 38 (codes "#12;" ++ rest)))
    (numbered b 13 (codes "&#13;") (λ rest. referenced_step 38 (codes "#13;" ++ rest)))
    (numbered b 32 (codes "&#32;") (λ rest. referenced_step 38 (codes "#32;" ++ rest)))
    (λ e1 e2 e3 e5 e6 e7 e8 e9 e10. λ rest. plain_step b rest e1)

pub referenced_escaped : (text : List ℕ) → referenced (escaped text) ≡ text
referenced_escaped [] = referenced_none
referenced_escaped (b ∷ bs) = says_byte b (escaped bs) ∙ ap (λ xs. b ∷ xs) (referenced_escaped bs)

-- ---- where it ends

-- a byte that ends no value
abbrev pub is_inert : ℕ → Bool
is_inert b = not (ends_bare_value b || is_quote b)

inert_byte : (b : ℕ) → list_all is_inert (escaped_byte b) ≡ true
inert_byte b = escaped_cases (λ text. list_all is_inert text ≡ true) b (λ _. refl) (λ _. refl) (λ _. refl) (λ _. refl) (λ _. refl) (λ _. refl) (λ _. refl) (λ _. refl) (λ _. refl) (λ _. refl)
    (λ e1 e2 e3 e5 e6 e7 e8 e9 e10. rw (e6, e7, e8, e9, e10, e5, e2, e3) refl)

inert_escaped : (text : List ℕ) → list_all is_inert (escaped text) ≡ true
inert_escaped [] = refl
inert_escaped (b ∷ bs) = list_all-append is_inert (escaped_byte b) (escaped bs) ∙ rw (inert_byte b, inert_escaped bs) refl

both : (x y : Bool) → (x && y) ≡ true → (x ≡ true) × (y ≡ true)
both true true e = (refl, refl)
both true false e = absurd (cc)
both false y e = absurd (cc)

not_or : (x y : Bool) → not (x || y) ≡ true → (x ≡ false) × (y ≡ false)
not_or true y e = absurd (cc)
not_or false true e = absurd (cc)
not_or false false e = (refl, refl)

stop_until : (stops : ℕ → Bool) (xs : List ℕ) (c : ℕ) (rest : List ℕ) → ((b : ℕ) → is_inert b ≡ true → stops b ≡ false) → list_all is_inert xs ≡ true → stops c ≡ true → until stops (xs ++ c ∷ rest) ≡ xs
stop_until stops [] c rest h g e = rw e refl
stop_until stops (b ∷ bs) c rest h g e = rw (h b (both (is_inert b) (list_all is_inert bs) g).0) (ap (λ xs. b ∷ xs) (stop_until stops bs c rest h (both (is_inert b) (list_all is_inert bs) g).1 e))

stop_from : (stops : ℕ → Bool) (xs : List ℕ) (c : ℕ) (rest : List ℕ) → ((b : ℕ) → is_inert b ≡ true → stops b ≡ false) → list_all is_inert xs ≡ true → stops c ≡ true → from stops (xs ++ c ∷ rest) ≡ c ∷ rest
stop_from stops [] c rest h g e = rw e refl
stop_from stops (b ∷ bs) c rest h g e = rw (h b (both (is_inert b) (list_all is_inert bs) g).0) (stop_from stops bs c rest h (both (is_inert b) (list_all is_inert bs) g).1 e)

stop_beyond : (stops : ℕ → Bool) (xs : List ℕ) (c : ℕ) (rest : List ℕ) → ((b : ℕ) → is_inert b ≡ true → stops b ≡ false) → list_all is_inert xs ≡ true → stops c ≡ true → beyond stops (xs ++ c ∷ rest) ≡ rest
stop_beyond stops [] c rest h g e = rw e refl
stop_beyond stops (b ∷ bs) c rest h g e = rw (h b (both (is_inert b) (list_all is_inert bs) g).0) (stop_beyond stops bs c rest h (both (is_inert b) (list_all is_inert bs) g).1 e)

inert_bare : (b : ℕ) → is_inert b ≡ true → ends_bare_value b ≡ false
inert_bare b e = (not_or (ends_bare_value b) (is_quote b) e).0

inert_quote : (quote b : ℕ) → is_quote quote ≡ true → is_inert b ≡ true → is quote b ≡ false
inert_quote quote b q e = go (b == quote) refl where
  go : (t : Bool) → (b == quote) ≡ t → t ≡ false
  go false h = refl
  go true h = let bad : is_quote b ≡ true = ap is_quote (eqb-true b quote h) ∙ q in let good : is_quote b ≡ false = (not_or (ends_bare_value b) (is_quote b) e).1 in absurd (cc)

quoted_at : (quote : ℕ) (text : List ℕ) → is_quote quote ≡ true → value_at (quote ∷ text) ≡ valued (until (is quote) text) (beyond (is quote) text)
quoted_at quote text e = rw e refl

pub quoted_ends : (text : List ℕ) (quote : ℕ) (rest : List ℕ) → is_quote quote ≡ true → value_at (quote ∷ (escaped text ++ quote ∷ rest)) ≡ valued (escaped text) rest
quoted_ends text quote rest e =
    quoted_at quote (escaped text ++ quote ∷ rest) e
    ∙ ap (λ v. valued v (beyond (is quote) (escaped text ++ quote ∷ rest))) (stop_until (is quote) (escaped text) quote rest (λ b h. inert_quote quote b e h) (inert_escaped text) (eq-eqb quote quote refl))
    ∙ ap (valued (escaped text)) (stop_beyond (is quote) (escaped text) quote rest (λ b h. inert_quote quote b e h) (inert_escaped text) (eq-eqb quote quote refl))

bare_at : (b : ℕ) (text : List ℕ) → is_quote b ≡ false → value_at (b ∷ text) ≡ valued (until ends_bare_value (b ∷ text)) (from ends_bare_value (b ∷ text))
bare_at b text e = go (is_quote b) e where
  go : (t : Bool) → t ≡ false → (if t then valued (until (is b) text) (beyond (is b) text) else valued (until ends_bare_value (b ∷ text)) (from ends_bare_value (b ∷ text))) ≡ valued (until ends_bare_value (b ∷ text)) (from ends_bare_value (b ∷ text))
  go true e = absurd (cc)
  go false e = refl

inert_at : (xs : List ℕ) (end : ℕ) (rest : List ℕ) → xs ≢ [] → list_all is_inert xs ≡ true → ends_bare_value end ≡ true → value_at (xs ++ end ∷ rest) ≡ valued xs (end ∷ rest)
inert_at [] end rest n h e = absurd (n refl)
inert_at (b ∷ bs) end rest n h e =
    bare_at b (bs ++ end ∷ rest) (not_or (ends_bare_value b) (is_quote b) (both (is_inert b) (list_all is_inert bs) h).0).1
    ∙ ap (λ v. valued v (from ends_bare_value (b ∷ (bs ++ end ∷ rest)))) (stop_until ends_bare_value (b ∷ bs) end rest inert_bare h e)
    ∙ ap (valued (b ∷ bs)) (stop_from ends_bare_value (b ∷ bs) end rest inert_bare h e)

something : (text : List ℕ) → text ≢ [] → escaped text ≢ []
something [] n e = n refl
something (b ∷ bs) n e = byte b (escaped bs) e where
  byte : (b : ℕ) (rest : List ℕ) → escaped_byte b ++ rest ≢ []
  byte b rest = escaped_cases (λ t. t ++ rest ≢ []) b (λ _ e. absurd (cc)) (λ _ e. absurd (cc)) (λ _ e. absurd (cc)) (λ _ e. absurd (cc)) (λ _ e. absurd (cc))
      (λ _ e. absurd (cc)) (λ _ e. absurd (cc)) (λ _ e. absurd (cc)) (λ _ e. absurd (cc)) (λ _ e. absurd (cc)) (λ e1 e2 e3 e5 e6 e7 e8 e9 e10 e. absurd (cc))

pub bare_ends : (text : List ℕ) → text ≢ [] → (end : ℕ) (rest : List ℕ) → ends_bare_value end ≡ true → value_at (escaped text ++ end ∷ rest) ≡ valued (escaped text) (end ∷ rest)
bare_ends text n end rest e = inert_at (escaped text) end rest (something text n) (inert_escaped text) e

pub wholly : (out left text : List ℕ) → length left < 1 → out ++ escaped left ≡ escaped text → out ≡ escaped text
wholly out [] text h e = sym (append-nil out) ∙ e
wholly out (b ∷ bs) text h e = absurd (omega arith)
