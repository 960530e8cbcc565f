-- Written texts: what is read of them in the place where a reference begins.
use Rattle.std.proofs.Common.{◌≡◌, ◌≢◌, ◌||◌, ◌&&◌, ℕ, nat_lt, Bool, true, false, List, [], ◌∷◌, ◌++◌, All, if◌then◌else◌, ◌==◌, codes, refl, sym, ap, ◌∙◌, append_assoc, append-nil, arith, le-ltb, subst}
use Rattle.std.proofs.lemmas.Bool.{eqb-true, ne_eqb}
use Rattle.std.proofs.lemmas.List.Elements.{All-head, All-tail}
use Rattle.css_links.specs.Bytes.{is_quote, is_white, is_unfit}
use Rattle.css_links.specs.Escapes.{Text, read, plainly, says, unescaped}
use Rattle.css_links.specs.Places.{bare, url_begun}
use Rattle.css_links.specs.References.{Seen, front, turned, fed}
use Rattle.css_links.specs.Rewriting.{written_byte, written, IsWritableByte}
use Rattle.css_links.specs.declared.escape.Reading.TheVariants.{Plain}
use Rattle.css_links.specs.declared.place.Turn.TheVariants.{At, With, Refer, UrlQuote}
use Rattle.css_links.specs.declared.place.Escape.TheVariants.{Begun}
use Rattle.css_links.specs.declared.place.SheetPart.TheVariants.{Reference, Bare, Bad}
use Rattle.css_links.specs.declared.place.Place.{Place}
use Rattle.css_links.specs.declared.place.Place.TheVariants.{Inside, Escaped, UrlBegun, UrlEnded}
use Rattle.css_links.proofs.Feeding.{fed-append}

-- what holds of the escapes, and of a byte that is none of those that are escaped, holds of a byte as it is written
pub written_cases : (Q : List ℕ → Type 0) (b : ℕ)
    → (b ≡ 34 → Q (codes "\\22 ")) → (b ≡ 39 → Q (codes "\\27 ")) → (b ≡ 40 → Q (codes "\\28 ")) → (b ≡ 41 → Q (codes "\\29 "))
    → (b ≡ 92 → Q (codes "\\5c ")) → (b ≡ 60 → Q (codes "\\3c "))
    → ((b == 34) ≡ false → (b == 39) ≡ false → (b == 40) ≡ false → (b == 41) ≡ false → (b == 92) ≡ false → Q (b ∷ [])) → Q (written_byte b)
written_cases Q b q1 q2 q3 q4 q5 q6 q = go (b == 34) (b == 39) (b == 40) (b == 41) (b == 92) (b == 60) refl refl refl refl refl refl where
  go : (t1 t2 t3 t4 t5 t6 : Bool) → (b == 34) ≡ t1 → (b == 39) ≡ t2 → (b == 40) ≡ t3 → (b == 41) ≡ t4 → (b == 92) ≡ t5 → (b == 60) ≡ t6
      → Q (if t1 then codes "\\22 " else if t2 then codes "\\27 " else if t3 then codes "\\28 " else if t4 then codes "\\29 " else if t5 then codes "\\5c " else if t6 then codes "\\3c " else b ∷ [])
  go true t2 t3 t4 t5 t6 e1 e2 e3 e4 e5 e6 = q1 (eqb-true b 34 e1)
  go false true t3 t4 t5 t6 e1 e2 e3 e4 e5 e6 = q2 (eqb-true b 39 e2)
  go false false true t4 t5 t6 e1 e2 e3 e4 e5 e6 = q3 (eqb-true b 40 e3)
  go false false false true t5 t6 e1 e2 e3 e4 e5 e6 = q4 (eqb-true b 41 e4)
  go false false false false true t6 e1 e2 e3 e4 e5 e6 = q5 (eqb-true b 92 e5)
  go false false false false false true e1 e2 e3 e4 e5 e6 = q6 (eqb-true b 60 e6)
  go false false false false false false e1 e2 e3 e4 e5 e6 = q e1 e2 e3 e4 e5

-- ---- what a written text says

abbrev pub SaysByte : ℕ → List ℕ → Type 0
SaysByte b text = (before rest : List ℕ) → says (read before Plain) (text ++ rest) ≡ says (read (before ++ b ∷ []) Plain) rest

says_number : (b n : ℕ) (text : List ℕ) → b ≡ n → SaysByte n text → SaysByte b text
says_number b n text e h = λ before rest. h before rest ∙ ap (λ x. says (read (before ++ x ∷ []) Plain) rest) (sym e)

plain_read : (before : List ℕ) (b : ℕ) → (b == 92) ≡ false → plainly before b ≡ read (before ++ b ∷ []) Plain
plain_read before b e = rw e refl

pub says_byte : (b : ℕ) → SaysByte b (written_byte b)
unfolding lib.Utf8.encode
says_byte b = written_cases (SaysByte b) b
    (λ e. says_number b 34 (codes "\\22 ") e (λ before rest. refl))
    (λ e. says_number b 39 (codes "\\27 ") e (λ before rest. refl))
    (λ e. says_number b 40 (codes "\\28 ") e (λ before rest. refl))
    (λ e. says_number b 41 (codes "\\29 ") e (λ before rest. refl))
    (λ e. says_number b 92 (codes "\\5c ") e (λ before rest. refl))
    (λ e. says_number b 60 (codes "\\3c ") e (λ before rest. refl))
    (λ e1 e2 e3 e4 e5. λ before rest. ap (λ (t : Text). says t rest) (plain_read before b e5))

says_written : (text before : List ℕ) → says (read before Plain) (written text) ≡ before ++ text
says_written [] before = sym (append-nil before)
says_written (b ∷ bs) before = says_byte b before (written bs) ∙ says_written bs (before ++ b ∷ []) ∙ append_assoc before (b ∷ []) bs

pub unescaped_written : (text : List ℕ) → unescaped (written text) ≡ text
unfolding unescaped
unescaped_written text = says_written text []

-- ---- where it is read

four : (raw : List ℕ) (a b c d : ℕ) → (((raw ++ a ∷ []) ++ b ∷ []) ++ c ∷ []) ++ d ∷ [] ≡ raw ++ (a ∷ b ∷ c ∷ d ∷ [])
four [] a b c d = refl
four (x ∷ xs) a b c d = ap (λ ys. x ∷ ys) (four xs a b c d)

-- a text that is read from one place leads to that other, with the text put down
abbrev pub LeadsOn : Place → Place → List ℕ → Type 0
LeadsOn p q text = (raw : List ℕ) (found : Seen) → fed (front p raw found) text ≡ front q (raw ++ text) found

-- the escapes, read in a place
escapes_lead : (p q : Place) (b : ℕ) → LeadsOn p q (codes "\\22 ") → LeadsOn p q (codes "\\27 ") → LeadsOn p q (codes "\\28 ") → LeadsOn p q (codes "\\29 ")
    → LeadsOn p q (codes "\\5c ") → LeadsOn p q (codes "\\3c ")
    → ((b == 34) ≡ false → (b == 39) ≡ false → (b == 40) ≡ false → (b == 41) ≡ false → (b == 92) ≡ false → LeadsOn p q (b ∷ [])) → LeadsOn p q (written_byte b)
escapes_lead p q b l1 l2 l3 l4 l5 l6 l = written_cases (LeadsOn p q) b (λ _. l1) (λ _. l2) (λ _. l3) (λ _. l4) (λ _. l5) (λ _. l6) l

-- a string that is a reference goes on with each written byte
leads34 : (b : ℕ) → IsWritableByte b → LeadsOn (Inside (Reference 34)) (Inside (Reference 34)) (written_byte b)
leads34 b w = escapes_lead (Inside (Reference 34)) (Inside (Reference 34)) b
    (λ raw found. ap (λ r. front (Inside (Reference 34)) r found) (four raw _ _ _ _))
    (λ raw found. ap (λ r. front (Inside (Reference 34)) r found) (four raw _ _ _ _))
    (λ raw found. ap (λ r. front (Inside (Reference 34)) r found) (four raw _ _ _ _))
    (λ raw found. ap (λ r. front (Inside (Reference 34)) r found) (four raw _ _ _ _))
    (λ raw found. ap (λ r. front (Inside (Reference 34)) r found) (four raw _ _ _ _))
    (λ raw found. ap (λ r. front (Inside (Reference 34)) r found) (four raw _ _ _ _))
    (λ e1 e2 e3 e4 e5. λ raw found. rw (e1, ne_eqb b 10 (omega (arith, w.0)), ne_eqb b 12 (omega (arith, w.0)), ne_eqb b 13 (omega (arith, w.0)), e5) refl)

leads39 : (b : ℕ) → IsWritableByte b → LeadsOn (Inside (Reference 39)) (Inside (Reference 39)) (written_byte b)
leads39 b w = escapes_lead (Inside (Reference 39)) (Inside (Reference 39)) b
    (λ raw found. ap (λ r. front (Inside (Reference 39)) r found) (four raw _ _ _ _))
    (λ raw found. ap (λ r. front (Inside (Reference 39)) r found) (four raw _ _ _ _))
    (λ raw found. ap (λ r. front (Inside (Reference 39)) r found) (four raw _ _ _ _))
    (λ raw found. ap (λ r. front (Inside (Reference 39)) r found) (four raw _ _ _ _))
    (λ raw found. ap (λ r. front (Inside (Reference 39)) r found) (four raw _ _ _ _))
    (λ raw found. ap (λ r. front (Inside (Reference 39)) r found) (four raw _ _ _ _))
    (λ e1 e2 e3 e4 e5. λ raw found. rw (e2, ne_eqb b 10 (omega (arith, w.0)), ne_eqb b 12 (omega (arith, w.0)), ne_eqb b 13 (omega (arith, w.0)), e5) refl)

-- a bare byte goes on with a bare URL
unfit_false : (b : ℕ) → IsWritableByte b → (b == 34) ≡ false → (b == 39) ≡ false → (b == 40) ≡ false → is_unfit b ≡ false
unfit_false b w e1 e2 e3 = rw (e1, e2, e3, ne_eqb b 127 w.1, ne_eqb b 11 (omega (arith, w.0)), le-ltb b 9 (omega (arith, w.0)), le-ltb b 32 (omega (arith, w.0))) (and_false (nat_lt 0 b) (nat_lt 13 b)) where
  and_false : (x y : Bool) → ((x && false) || (y && false)) ≡ false
  and_false true true = refl
  and_false true false = refl
  and_false false true = refl
  and_false false false = refl

white_false : (b : ℕ) → IsWritableByte b → is_white b ≡ false
white_false b w = rw (ne_eqb b 10 (omega (arith, w.0)), ne_eqb b 12 (omega (arith, w.0)), ne_eqb b 13 (omega (arith, w.0)), ne_eqb b 9 (omega (arith, w.0)), ne_eqb b 32 (omega (arith, w.0))) refl

bare_goes_on : (b : ℕ) → (b == 41) ≡ false → is_white b ≡ false → (b == 92) ≡ false → is_unfit b ≡ false → bare b ≡ With (Inside Bare)
bare_goes_on b e1 e2 e3 e4 = go (b == 41) (is_white b) (b == 92) (is_unfit b) e1 e2 e3 e4 where
  go : (t1 t2 t3 t4 : Bool) → t1 ≡ false → t2 ≡ false → t3 ≡ false → t4 ≡ false
      → (if t1 then Refer else if t2 then At UrlEnded else if t3 then With (Escaped Bare Begun) else if t4 then At (Inside Bad) else With (Inside Bare)) ≡ With (Inside Bare)
  go t1 t2 t3 t4 f1 f2 f3 f4 = rw (f1, f2, f3, f4) refl

begun_goes_on : (b : ℕ) → is_white b ≡ false → is_quote b ≡ false → bare b ≡ With (Inside Bare) → url_begun b ≡ With (Inside Bare)
begun_goes_on b e1 e2 e = go (is_white b) (is_quote b) e1 e2 where
  go : (t1 t2 : Bool) → t1 ≡ false → t2 ≡ false → (if t1 then At UrlBegun else if t2 then UrlQuote b else bare b) ≡ With (Inside Bare)
  go t1 t2 f1 f2 = rw (f1, f2) e

leads_bare : (b : ℕ) → IsWritableByte b → LeadsOn (Inside Bare) (Inside Bare) (written_byte b)
leads_bare b w = escapes_lead (Inside Bare) (Inside Bare) b
    (λ raw found. ap (λ r. front (Inside Bare) r found) (four raw _ _ _ _))
    (λ raw found. ap (λ r. front (Inside Bare) r found) (four raw _ _ _ _))
    (λ raw found. ap (λ r. front (Inside Bare) r found) (four raw _ _ _ _))
    (λ raw found. ap (λ r. front (Inside Bare) r found) (four raw _ _ _ _))
    (λ raw found. ap (λ r. front (Inside Bare) r found) (four raw _ _ _ _))
    (λ raw found. ap (λ r. front (Inside Bare) r found) (four raw _ _ _ _))
    (λ e1 e2 e3 e4 e5. λ raw found. ap (turned (front (Inside Bare) raw found) b) (bare_goes_on b e4 (white_false b w) e5 (unfit_false b w e1 e2 e3)))

leads_begun : (b : ℕ) → IsWritableByte b → LeadsOn UrlBegun (Inside Bare) (written_byte b)
leads_begun b w = escapes_lead UrlBegun (Inside Bare) b
    (λ raw found. ap (λ r. front (Inside Bare) r found) (four raw _ _ _ _))
    (λ raw found. ap (λ r. front (Inside Bare) r found) (four raw _ _ _ _))
    (λ raw found. ap (λ r. front (Inside Bare) r found) (four raw _ _ _ _))
    (λ raw found. ap (λ r. front (Inside Bare) r found) (four raw _ _ _ _))
    (λ raw found. ap (λ r. front (Inside Bare) r found) (four raw _ _ _ _))
    (λ raw found. ap (λ r. front (Inside Bare) r found) (four raw _ _ _ _))
    (λ e1 e2 e3 e4 e5. λ raw found. ap (turned (front UrlBegun raw found) b)
    (begun_goes_on b (white_false b w) (rw (e1, e2) refl) (bare_goes_on b e4 (white_false b w) e5 (unfit_false b w e1 e2 e3))))

-- one text after another
leads_both : (p q r : Place) (xs ys : List ℕ) → LeadsOn p q xs → LeadsOn q r ys → LeadsOn p r (xs ++ ys)
leads_both p q r xs ys l m = λ raw found.
    fed-append (front p raw found) xs ys ∙ ap (λ s. fed s ys) (l raw found) ∙ m (raw ++ xs) found ∙ ap (λ t. front r t found) (append_assoc raw xs ys)

leads_nothing : (p : Place) → LeadsOn p p []
leads_nothing p = λ raw found. ap (λ t. front p t found) (sym (append-nil raw))

-- a written text
leads_written : (p : Place) → ((b : ℕ) → IsWritableByte b → LeadsOn p p (written_byte b)) → (text : List ℕ) → All IsWritableByte text → LeadsOn p p (written text)
leads_written p each [] all = leads_nothing p
leads_written p each (b ∷ bs) all = leads_both p p p (written_byte b) (written bs) (each b (All-head IsWritableByte b bs all)) (leads_written p each bs (All-tail IsWritableByte b bs all))

pub quoted_written : (quote : ℕ) → is_quote quote ≡ true → (text : List ℕ) → All IsWritableByte text → LeadsOn (Inside (Reference quote)) (Inside (Reference quote)) (written text)
quoted_written quote e text all = go (quote == 34) (quote == 39) refl refl e where
  go : (t1 t2 : Bool) → (quote == 34) ≡ t1 → (quote == 39) ≡ t2 → (t1 || t2) ≡ true → LeadsOn (Inside (Reference quote)) (Inside (Reference quote)) (written text)
  go true t2 f1 f2 h = subst (λ (q : ℕ). LeadsOn (Inside (Reference q)) (Inside (Reference q)) (written text)) (sym (eqb-true quote 34 f1)) (leads_written (Inside (Reference 34)) leads34 text all)
  go false true f1 f2 h = subst (λ (q : ℕ). LeadsOn (Inside (Reference q)) (Inside (Reference q)) (written text)) (sym (eqb-true quote 39 f2)) (leads_written (Inside (Reference 39)) leads39 text all)
  go false false f1 f2 h = absurd (cc)

pub bare_written : (text : List ℕ) → text ≢ [] → All IsWritableByte text → LeadsOn UrlBegun (Inside Bare) (written text)
bare_written [] n all = absurd (n refl)
bare_written (b ∷ bs) n all = leads_both UrlBegun (Inside Bare) (Inside Bare) (written_byte b) (written bs) (leads_begun b (All-head IsWritableByte b bs all)) (leads_written (Inside Bare) leads_bare bs (All-tail IsWritableByte b bs all))
