-- Bytes that are passed over, or put to a text, many at a time.
use Rattle.std.proofs.Common.{◌≡◌, Option, Some, None, is_some, Result, Ok, Err, OnOk, IfOk, ℕ, Bool, true, false, not, ◌&&◌, ◌||◌, List, [], ◌∷◌, ◌++◌, ◌⊎◌, inl, inr, length, reverse, if◌then◌else◌, ◌==◌, refl, sym, ap, ap₂, subst, ◌<◌, zero, suc, ◌-◌, ◌∙◌, append_assoc, append-nil, arith}
use Rattle.std.proofs.lemmas.Bool.{or_parts, eqb-true, true≢false}
use Rattle.std.proofs.lemmas.List.{reverse-append, reverse-reverse, length-reverse}
use Rattle.memchr.specs.Find.{Nowhere, is_byte, Passes, IsFirstByte}
use Rattle.css_links.specs.Bytes.{is_newline, is_white, is_quote, is_name, is_unfit, is_loud}
use Rattle.css_links.specs.Escapes.{says, read, unescaped}
use Rattle.css_links.specs.Places.{turn, between, word, comment, import_comment, other_string, reference_string, bare, bad}
use Rattle.css_links.specs.References.{Seen, Front, front, without, step, fed}
use Rattle.css_links.specs.inner.Spans.{until, from, is, ends_span, quiet_span}
use Rattle.css_links.specs.inner.Quiet.{lead_behind, place_in, raw_in, place_after, named_end, place_behind, raw_behind}
use Rattle.css_links.specs.declared.escape.Reading.TheVariants.{Plain}
use Rattle.css_links.specs.declared.span.Span.TheVariants as span
use Rattle.css_links.specs.declared.place.Lead.{Lead}
use Rattle.css_links.specs.declared.place.Lead.TheVariants as lead
use Rattle.css_links.specs.declared.place.SheetPart.{SheetPart}
use Rattle.css_links.specs.declared.place.SheetPart.TheVariants.{Word, Reference, Other, Bare, Bad}
use Rattle.css_links.specs.declared.place.Turn.{Turn}
use Rattle.css_links.specs.declared.place.Turn.TheVariants.{At, Anew, First, With, Refer}
use Rattle.css_links.specs.declared.place.Place.{Place}
use Rattle.css_links.specs.declared.place.Place.TheVariants.{Between, Slash, Comment, CommentStar, Import, ImportSlash, ImportComment, ImportCommentStar, Inside, Escaped, UrlBegun, UrlEnded}
use Rattle.css_links.proofs.Feeding.{fed-append}
use Rattle.css_links.proofs.Searching.{until_from, end_is}

-- ---- places that bytes leave as they are

-- bytes that lead to the place in which they are
pub passed_at : (p : Place) (stops : ℕ → Bool) (r : List ℕ) (f : Seen) → ((b : ℕ) → stops b ≡ false → turn p r b ≡ At p)
    → (xs : List ℕ) → fed (front p r f) (from stops xs) ≡ fed (front p r f) xs
passed_at p stops r f stays [] = refl
passed_at p stops r f stays (b ∷ bs) = go (stops b) refl (passed_at p stops r f stays bs) where
  go : (t : Bool) → stops b ≡ t → fed (front p r f) (from stops bs) ≡ fed (front p r f) bs
      → fed (front p r f) (if t then b ∷ bs else from stops bs) ≡ fed (step (front p r f) b) bs
  go true e h = refl
  go false e h = rw (stays b e) h

-- bytes with which the text of their place goes on
pub passed_with : (p : Place) (stops : ℕ → Bool) (f : Seen) → ((r : List ℕ) (b : ℕ) → stops b ≡ false → turn p r b ≡ With p)
    → (r xs : List ℕ) → fed (front p (r ++ until stops xs) f) (from stops xs) ≡ fed (front p r f) xs
passed_with p stops f stays r [] = rw (append-nil r) refl
passed_with p stops f stays r (b ∷ bs) = go (stops b) refl (passed_with p stops f stays (r ++ b ∷ []) bs) where
  go : (t : Bool) → stops b ≡ t → fed (front p ((r ++ b ∷ []) ++ until stops bs) f) (from stops bs) ≡ fed (front p (r ++ b ∷ []) f) bs
      → fed (front p (r ++ (if t then [] else b ∷ until stops bs)) f) (if t then b ∷ bs else from stops bs) ≡ fed (step (front p r f) b) bs
  go true e h = rw (append-nil r) refl
  go false e h = rw (stays r b e) (rw (append_assoc r (b ∷ []) (until stops bs)) at h)

pub comment_passed : (r : List ℕ) (f : Seen) (xs : List ℕ) → fed (front Comment r f) (from (is 42) xs) ≡ fed (front Comment r f) xs
comment_passed r f = passed_at Comment (is 42) r f (λ b e. rw e refl)

pub import_comment_passed : (r : List ℕ) (f : Seen) (xs : List ℕ) → fed (front ImportComment r f) (from (is 42) xs) ≡ fed (front ImportComment r f) xs
import_comment_passed r f = passed_at ImportComment (is 42) r f (λ b e. rw e refl)

pub other_passed : (quote : ℕ) (r : List ℕ) (f : Seen) (xs : List ℕ)
    → fed (front (Inside (Other quote)) r f) (from (ends_span (span.Quoted quote)) xs) ≡ fed (front (Inside (Other quote)) r f) xs
other_passed quote r f = passed_at (Inside (Other quote)) (ends_span (span.Quoted quote)) r f stays where
  stays : (b : ℕ) → ends_span (span.Quoted quote) b ≡ false → other_string quote b ≡ At (Inside (Other quote))
  stays b e =
      let one = or_parts (b == quote) _ e in
      let two = or_parts (is_newline b) (b == 92) one.1 in
      rw (one.0, two.0, two.1) refl

pub bad_passed : (r : List ℕ) (f : Seen) (xs : List ℕ) → fed (front (Inside Bad) r f) (from (ends_span span.Bad) xs) ≡ fed (front (Inside Bad) r f) xs
bad_passed r f = passed_at (Inside Bad) (ends_span span.Bad) r f stays where
  stays : (b : ℕ) → ends_span span.Bad b ≡ false → bad b ≡ At (Inside Bad)
  stays b e = let one = or_parts (b == 41) (b == 92) e in rw (one.0, one.1) refl

pub reference_passed : (quote : ℕ) (f : Seen) (r xs : List ℕ)
    → fed (front (Inside (Reference quote)) (r ++ until (ends_span (span.Quoted quote)) xs) f) (from (ends_span (span.Quoted quote)) xs) ≡ fed (front (Inside (Reference quote)) r f) xs
reference_passed quote f = passed_with (Inside (Reference quote)) (ends_span (span.Quoted quote)) f stays where
  stays : (r : List ℕ) (b : ℕ) → ends_span (span.Quoted quote) b ≡ false → reference_string quote b ≡ With (Inside (Reference quote))
  stays r b e =
      let one = or_parts (b == quote) _ e in
      let two = or_parts (is_newline b) (b == 92) one.1 in
      rw (one.0, two.0, two.1) refl

pub bare_passed : (f : Seen) (r xs : List ℕ)
    → fed (front (Inside Bare) (r ++ until (ends_span span.Unquoted) xs) f) (from (ends_span span.Unquoted) xs) ≡ fed (front (Inside Bare) r f) xs
bare_passed f = passed_with (Inside Bare) (ends_span span.Unquoted) f stays where
  stays : (r : List ℕ) (b : ℕ) → ends_span span.Unquoted b ≡ false → bare b ≡ With (Inside Bare)
  stays r b e =
      let one = or_parts (b == 41) _ e in
      let two = or_parts (is_white b) _ one.1 in
      let three = or_parts (b == 92) (is_unfit b) two.1 in
      rw (one.0, two.0, three.0, three.1) refl

is_true : (t : Bool) → not t ≡ false → t ≡ true
is_true true e = refl
is_true false e = sym e

pub word_passed : (l : Lead) (f : Seen) (r xs : List ℕ)
    → fed (front (Inside (Word l)) (r ++ until (ends_span span.Name) xs) f) (from (ends_span span.Name) xs) ≡ fed (front (Inside (Word l)) r f) xs
word_passed l f = passed_with (Inside (Word l)) (ends_span span.Name) f stays where
  stays : (r : List ℕ) (b : ℕ) → ends_span span.Name b ≡ false → word l r b ≡ With (Inside (Word l))
  stays r b e = rw (is_true (is_name b) e) refl

-- what a run gives that leaves such a front and such a rest
pub run_gives : {X E : Type 0} (now : X → List ℕ) (r : Result X E) (new ran : Front) (left : List ℕ) (whole : Front) → OnOk r (new ≡ ran) → IfOk r (λ x. now x ≡ left)
    → fed ran left ≡ whole → IfOk r (λ x. fed new (now x) ≡ whole)
run_gives now (Ok x) new ran left whole front rest law = ap₂ fed front rest ∙ law
run_gives now (Err e) new ran left whole front rest law = tt

-- ---- words between tokens

-- a byte that is neither loud, nor of a name, nor `#`
record IsPlain (b : ℕ) : Type 0 where
  slash : (b == 47) ≡ false
  quote : is_quote b ≡ false
  paren : (b == 40) ≡ false
  close : (b == 41) ≡ false
  at : (b == 64) ≡ false
  escape : (b == 92) ≡ false
  hash : (b == 35) ≡ false
  name : is_name b ≡ false

between_plain : (b : ℕ) → IsPlain b → between b ≡ At Between
between_plain b p = rw (p.slash, p.quote, p.paren, p.close, p.hash, p.at, p.escape, p.name) refl

-- the places where words are passed over: between tokens, and in a word that is no at-keyword
abbrev Passing : Place → Type 0
Passing p = (p ≡ Between) ⊎ ((p ≡ Inside (Word lead.Nothing)) ⊎ (p ≡ Inside (Word lead.Hash)))

plain_step : (p : Place) (r : List ℕ) (f : Seen) (b : ℕ) → Passing p → IsPlain b → step (front p r f) b ≡ front Between r f
plain_step p r f b (inl e) plain = rw e (rw (between_plain b plain) refl)
plain_step p r f b (inr (inl e)) plain = rw e (rw (plain.slash, plain.quote, plain.paren, plain.close, plain.hash, plain.at, plain.escape, plain.name) refl)
plain_step p r f b (inr (inr e)) plain = rw e (rw (plain.slash, plain.quote, plain.paren, plain.close, plain.hash, plain.at, plain.escape, plain.name) refl)

hash_step : (p : Place) (r : List ℕ) (f : Seen) → Passing p → step (front p r f) 35 ≡ front (Inside (Word lead.Hash)) [] f
hash_step p r f (inl e) = rw e refl
hash_step p r f (inr (inl e)) = rw e refl
hash_step p r f (inr (inr e)) = rw e refl

lead_passing : (before : List ℕ) → Passing (Inside (Word (lead_behind before)))
lead_passing [] = inr (inl refl)
lead_passing (b ∷ bs) = go (b == 35) where
  go : (t : Bool) → Passing (Inside (Word (if t then lead.Hash else lead.Nothing)))
  go true = inr (inr refl)
  go false = inr (inl refl)

place_passing : (plain named before : List ℕ) → Passing (place_in plain named before)
place_passing plain [] before = inl refl
place_passing [] (n ∷ named) before = lead_passing before
place_passing (p ∷ plain) (n ∷ named) before = inl refl

between_behind : (p : ℕ) (plain named before : List ℕ) → place_in (p ∷ plain) named before ≡ Between
between_behind p plain [] before = refl
between_behind p plain (n ∷ named) before = refl

-- a byte of a name that isn't loud
record IsNamed (b : ℕ) : Type 0 where
  slash : (b == 47) ≡ false
  quote : is_quote b ≡ false
  paren : (b == 40) ≡ false
  close : (b == 41) ≡ false
  at : (b == 64) ≡ false
  escape : (b == 92) ≡ false
  hash : (b == 35) ≡ false
  name : is_name b ≡ true

first_step : (p : Place) (r : List ℕ) (f : Seen) (b : ℕ) → p ≡ Between → IsNamed b → step (front p r f) b ≡ front (Inside (Word lead.Nothing)) (b ∷ []) f
first_step p r f b e n = rw e (rw (n.slash, n.quote, n.paren, n.close, n.hash, n.at, n.escape, n.name) refl)

with_step : (l : Lead) (r : List ℕ) (f : Seen) (b : ℕ) → is_name b ≡ true → step (front (Inside (Word l)) r f) b ≡ front (Inside (Word l)) (r ++ b ∷ []) f
with_step l r f b e = rw e refl

reverse_more : (b : ℕ) (xs : List ℕ) → reverse (b ∷ xs) ≡ reverse xs ++ b ∷ []
reverse_more b xs = reverse-append (b ∷ []) xs

-- what comes after bytes of which the last is a `#`, a byte of a name, or another one
hash_behind : (bs : List ℕ) (r : List ℕ) (f : Seen) → front (place_behind (35 ∷ bs)) (raw_behind r (35 ∷ bs)) f ≡ front (Inside (Word lead.Hash)) [] f
hash_behind bs r f = refl

name_behind : (b : ℕ) (bs : List ℕ) (r : List ℕ) (f : Seen) → is_name b ≡ true
    → front (place_behind (b ∷ bs)) (raw_behind r (b ∷ bs)) f ≡ front (Inside (Word (lead_behind (from (ends_span span.Name) bs)))) (reverse (b ∷ until (ends_span span.Name) bs)) f
name_behind b bs r f e = rw e (rw e refl)

plain_behind : (b : ℕ) (bs : List ℕ) (r : List ℕ) (f : Seen) → is_name b ≡ false → (b == 35) ≡ false
    → front (place_behind (b ∷ bs)) (raw_behind r (b ∷ bs)) f ≡ front Between (raw_behind r bs) f
plain_behind b bs r f e h =
    rw (e, h) (ap (λ p. front p (raw_behind r bs) f) (between_behind b (until (ends_span span.Plain) bs) (named_end bs) (from (ends_span span.Name) (named_end bs))))

-- a byte of a name after such bytes
name_more : (r : List ℕ) (f : Seen) (b : ℕ) (bs : List ℕ) → IsNamed b
    → step (front (place_behind bs) (raw_behind r bs) f) b ≡ front (Inside (Word (lead_behind (from (ends_span span.Name) bs)))) (reverse (b ∷ until (ends_span span.Name) bs)) f
name_more r f b [] n = first_step Between r f b refl n
name_more r f b (c ∷ cs) n = go (c == 35) refl where
  plain : (c == 35) ≡ false → (t : Bool) → is_name c ≡ t
      → step (front (place_behind (c ∷ cs)) (raw_behind r (c ∷ cs)) f) b ≡ front (Inside (Word (lead_behind (from (ends_span span.Name) (c ∷ cs))))) (reverse (b ∷ until (ends_span span.Name) (c ∷ cs))) f
  plain h true e =
      ap (λ s. step s b) (name_behind c cs r f e)
      ∙ with_step (lead_behind (from (ends_span span.Name) cs)) (reverse (c ∷ until (ends_span span.Name) cs)) f b n.name
      ∙ rw e (ap (λ text. front (Inside (Word (lead_behind (from (ends_span span.Name) cs)))) text f) (sym (reverse_more b (c ∷ until (ends_span span.Name) cs))))
  plain h false e =
      ap (λ s. step s b) (plain_behind c cs r f e h)
      ∙ first_step Between (raw_behind r cs) f b refl n
      ∙ rw (e, h) refl

  go : (t : Bool) → (c == 35) ≡ t
      → step (front (place_behind (c ∷ cs)) (raw_behind r (c ∷ cs)) f) b ≡ front (Inside (Word (lead_behind (from (ends_span span.Name) (c ∷ cs))))) (reverse (b ∷ until (ends_span span.Name) (c ∷ cs))) f
  go true h = rw (eqb-true c 35 h) (with_step lead.Hash [] f b n.name)
  go false h = plain h (is_name c) refl

-- a parenthesis that closes nothing that is counted
without_none : (f : Seen) → f.depth ≡ 0 → without f ≡ f
without_none f h = ap (λ d. record { found = f.found; depth = d }) (ap (λ d. d - 1) h ∙ sym h)

close_step : (p : Place) (r : List ℕ) (f : Seen) → Passing p → f.depth ≡ 0 → step (front p r f) 41 ≡ front Between r f
close_step p r f (inl e) h = rw e (ap (front Between r) (without_none f h))
close_step p r f (inr (inl e)) h = rw e (ap (front Between r) (without_none f h))
close_step p r f (inr (inr e)) h = rw e (ap (front Between r) (without_none f h))

-- a byte that isn't loud, nor a `)` if parentheses are counted
abbrev IsQuiet : Seen → ℕ → Type 0
IsQuiet f b = (is_loud b ≡ false) × ((b == 41) ≡ true → f.depth ≡ 0)

-- such a byte after such bytes
quiet_more : (r : List ℕ) (f : Seen) (b : ℕ) (bs : List ℕ) → IsQuiet f b
    → step (front (place_behind bs) (raw_behind r bs) f) b ≡ front (place_behind (b ∷ bs)) (raw_behind r (b ∷ bs)) f
quiet_more r f b bs quiet = go (b == 41) refl where
  passing : Passing (place_behind bs)
  passing = place_passing (until (ends_span span.Plain) bs) (named_end bs) (from (ends_span span.Name) (named_end bs))

  other : (b == 41) ≡ false → (b == 35) ≡ false → (t : Bool) → is_name b ≡ t → step (front (place_behind bs) (raw_behind r bs) f) b ≡ front (place_behind (b ∷ bs)) (raw_behind r (b ∷ bs)) f
  other g h true e =
      let one = or_parts (is_quote b) _ quiet.0 in
      let two = or_parts (b == 40) _ one.1 in
      let three = or_parts (b == 47) _ two.1 in
      let four = or_parts (b == 64) (b == 92) three.1 in
      name_more r f b bs (record { slash = three.0; quote = one.0; paren = two.0; close = g; at = four.0; escape = four.1; hash = h; name = e }) ∙ sym (name_behind b bs r f e)
  other g h false e =
      let one = or_parts (is_quote b) _ quiet.0 in
      let two = or_parts (b == 40) _ one.1 in
      let three = or_parts (b == 47) _ two.1 in
      let four = or_parts (b == 64) (b == 92) three.1 in
      plain_step (place_behind bs) (raw_behind r bs) f b passing (record { slash = three.0; quote = one.0; paren = two.0; close = g; at = four.0; escape = four.1; hash = h; name = e })
      ∙ sym (plain_behind b bs r f e h)

  unclosed : (b == 41) ≡ false → (t : Bool) → (b == 35) ≡ t → step (front (place_behind bs) (raw_behind r bs) f) b ≡ front (place_behind (b ∷ bs)) (raw_behind r (b ∷ bs)) f
  unclosed g true h = rw (eqb-true b 35 h) (hash_step (place_behind bs) (raw_behind r bs) f passing ∙ sym (hash_behind bs r f))
  unclosed g false h = other g h (is_name b) refl

  go : (t : Bool) → (b == 41) ≡ t → step (front (place_behind bs) (raw_behind r bs) f) b ≡ front (place_behind (b ∷ bs)) (raw_behind r (b ∷ bs)) f
  go true g = rw (eqb-true b 41 g) (close_step (place_behind bs) (raw_behind r bs) f passing (quiet.1 g) ∙ sym (plain_behind 41 bs r f refl refl))
  go false g = unclosed g (b == 35) refl

-- such bytes
abbrev AreQuiet : Seen → List ℕ → Type 0
AreQuiet f [] = Unit
AreQuiet f (b ∷ bs) = IsQuiet f b × AreQuiet f bs

quiet_fed : (r : List ℕ) (f : Seen) (back : List ℕ) → AreQuiet f back → fed (front Between r f) (reverse back) ≡ front (place_behind back) (raw_behind r back) f
quiet_fed r f [] q = refl
quiet_fed r f (b ∷ bs) q =
    ap (fed (front Between r f)) (reverse_more b bs)
    ∙ fed-append (front Between r f) (reverse bs) (b ∷ [])
    ∙ ap (λ s. step s b) (quiet_fed r f bs q.1)
    ∙ quiet_more r f b bs q.0

quiet_append : (f : Seen) (xs ys : List ℕ) → AreQuiet f xs → AreQuiet f ys → AreQuiet f (xs ++ ys)
quiet_append f [] ys p q = q
quiet_append f (x ∷ xs) ys p q = (p.0, quiet_append f xs ys p.1 q)

quiet_reverse : (f : Seen) (xs : List ℕ) → AreQuiet f xs → AreQuiet f (reverse xs)
quiet_reverse f [] q = tt
quiet_reverse f (x ∷ xs) q = subst (AreQuiet f) (sym (reverse_more x xs)) (quiet_append f (reverse xs) (x ∷ []) (quiet_reverse f xs q.1) (q.0, tt))

quiet_until : (f : Seen) (stops : ℕ → Bool) → ((b : ℕ) → stops b ≡ false → IsQuiet f b) → (xs : List ℕ) → AreQuiet f (until stops xs)
quiet_until f stops h [] = tt
quiet_until f stops h (b ∷ bs) = go (stops b) refl (quiet_until f stops h bs) where
  go : (t : Bool) → stops b ≡ t → AreQuiet f (until stops bs) → AreQuiet f (if t then [] else b ∷ until stops bs)
  go true e q = tt
  go false e q = (h b e, q)

-- what ends such bytes, by how many parentheses are open
abbrev stops_in : Seen → ℕ → Bool
stops_in f = ends_span (quiet_span f.depth)

stops_quiet : (f : Seen) (b : ℕ) → stops_in f b ≡ false → IsQuiet f b
stops_quiet f b = go f.depth refl where
  go : (d : ℕ) → f.depth ≡ d → ends_span (quiet_span d) b ≡ false → IsQuiet f b
  go zero h e = (e, λ _. h)
  go (suc d) h e = let one = or_parts (b == 41) (is_loud b) e in (one.1, λ is. absurd (true≢false (sym is ∙ one.0)))

-- what is passed over between tokens, up to the first byte that ends it
pub quiet_passed : (r : List ℕ) (f : Seen) (quiet left text : List ℕ) → quiet ≡ until (ends_span (quiet_span f.depth)) text → left ≡ from (ends_span (quiet_span f.depth)) text
    → fed (front (place_behind (reverse quiet)) (raw_behind r (reverse quiet)) f) left ≡ fed (front Between r f) text
quiet_passed r f quiet left text is_quiet is_left =
    let silent = subst (AreQuiet f) (sym is_quiet) (quiet_until f (stops_in f) (stops_quiet f) text) in
    ap (λ s. fed s left) (sym (quiet_fed r f (reverse quiet) (quiet_reverse f quiet silent)) ∙ ap (fed (front Between r f)) (reverse-reverse quiet))
    ∙ sym (fed-append (front Between r f) quiet left)
    ∙ ap (fed (front Between r f)) (ap (λ xs. xs ++ left) is_quiet ∙ ap (λ ys. until (stops_in f) text ++ ys) is_left ∙ until_from (stops_in f) text)

place_of : (p n before plain : List ℕ) → length p ≡ length plain → 0 < length n → place_in p n before ≡ place_after before plain
place_of [] (x ∷ n) before [] e h = refl
place_of (y ∷ p) (x ∷ n) before (z ∷ plain) e h = refl
place_of [] (x ∷ n) before (z ∷ plain) e h = absurd (omega arith)
place_of (y ∷ p) (x ∷ n) before [] e h = absurd (omega arith)
place_of p [] before plain e h = absurd (omega arith)

raw_of : (r n word : List ℕ) → 0 < length n → raw_in r n word ≡ reverse word
raw_of r [] word h = absurd (omega arith)
raw_of r (x ∷ n) word h = refl

place_none : (p n before : List ℕ) → length n ≡ 0 → place_in p n before ≡ Between
place_none p [] before h = refl
place_none p (x ∷ n) before h = absurd (omega arith)

raw_none : (r n word : List ℕ) → length n ≡ 0 → raw_in r n word ≡ r
raw_none r [] word h = refl
raw_none r (x ∷ n) word h = absurd (omega arith)

-- the part of a text that isn't plain at its end, from its last byte back
named_is : (quiet named : List ℕ) → named ≡ reverse (named_end (reverse quiet)) → named_end (reverse quiet) ≡ reverse named
named_is quiet named e = sym (reverse-reverse (named_end (reverse quiet))) ∙ ap reverse (sym e)

pub quiet_without_words : (r : List ℕ) (f : Seen) (quiet left text named : List ℕ) → quiet ≡ until (ends_span (quiet_span f.depth)) text → left ≡ from (ends_span (quiet_span f.depth)) text
    → named ≡ reverse (named_end (reverse quiet)) → length named ≡ 0 → fed (front Between r f) left ≡ fed (front Between r f) text
quiet_without_words r f quiet left text named is_quiet is_left is_named none =
    let back = reverse quiet in
    let empty = ap length (named_is quiet named is_named) ∙ length-reverse named ∙ none in
    ap₂ (λ p raw. fed (front p raw f) left)
    (sym (place_none (until (ends_span span.Plain) back) (named_end back) (from (ends_span span.Name) (named_end back)) empty))
    (sym (raw_none r (named_end back) (until (ends_span span.Name) (named_end back)) empty))
    ∙ quiet_passed r f quiet left text is_quiet is_left

pub quiet_with_words : (r : List ℕ) (f : Seen) (quiet left text named plain before word : List ℕ) → quiet ≡ until (ends_span (quiet_span f.depth)) text → left ≡ from (ends_span (quiet_span f.depth)) text
    → named ≡ reverse (named_end (reverse quiet)) → quiet ≡ named ++ plain → before ≡ reverse (from (ends_span span.Name) (reverse named)) → named ≡ before ++ word
    → 0 < length named → fed (front (place_after (reverse before) plain) word f) left ≡ fed (front Between r f) text
quiet_with_words r f quiet left text named plain before word is_quiet is_left is_named whole is_before named_whole some =
    let back = reverse quiet in
    let names = named_is quiet named is_named in
    let there = subst (λ n. 0 < n) (sym (ap length names ∙ length-reverse named)) some in
    let same_plain = ap length (sym (reverse-reverse (until (ends_span span.Plain) back)) ∙ ap reverse (sym (end_is (ends_span span.Plain) quiet named plain whole is_named))) ∙ length-reverse plain in
    let same_before = ap (from (ends_span span.Name)) names ∙ sym (reverse-reverse (from (ends_span span.Name) (reverse named))) ∙ ap reverse (sym is_before) in
    let same_word = ap (λ n. reverse (until (ends_span span.Name) n)) names ∙ sym (end_is (ends_span span.Name) named before word named_whole is_before) in
    ap₂ (λ p raw. fed (front p raw f) left)
    (sym (place_of (until (ends_span span.Plain) back) (named_end back) (from (ends_span span.Name) (named_end back)) plain same_plain there ∙ ap (λ b. place_after b plain) same_before))
    (sym (raw_of r (named_end back) (until (ends_span span.Name) (named_end back)) there ∙ same_word))
    ∙ quiet_passed r f quiet left text is_quiet is_left

-- ---- texts without escapes

pub plain_says : (t raw : List ℕ) → Nowhere (Passes (is_byte 92) raw) 0 (length raw) → says (read t Plain) raw ≡ t ++ raw
plain_says t [] n = sym (append-nil t)
plain_says t (b ∷ bs) n = go (b == 92) refl (plain_says (t ++ b ∷ []) bs (λ j _ below. n (suc j) (omega arith) (omega arith))) where
  go : (e : Bool) → (b == 92) ≡ e → says (read (t ++ b ∷ []) Plain) bs ≡ (t ++ b ∷ []) ++ bs → says (read t Plain) (b ∷ bs) ≡ t ++ b ∷ bs
  go true e h = absurd (n 0 (omega arith) (omega arith) e)
  go false e h = rw e (h ∙ append_assoc t (b ∷ []) bs)

pub no_escape : (raw : List ℕ) → Nowhere (Passes (is_byte 92) raw) 0 (length raw) → unescaped raw ≡ raw
unfolding unescaped
no_escape raw n = plain_says [] raw n

pub not_found : (place : Option ℕ) (raw : List ℕ) → IsFirstByte (is_byte 92) raw place → is_some place ≡ false → unescaped raw ≡ raw
not_found None raw first none = no_escape raw first
not_found (Some k) raw first none = absurd (true≢false none)

-- bytes outside of escapes are put down as they are
pub run_says : (t raw : List ℕ) → says (read (t ++ until (is 92) raw) Plain) (from (is 92) raw) ≡ says (read t Plain) raw
run_says t [] = rw (append-nil t) refl
run_says t (b ∷ bs) = go (b == 92) refl (run_says (t ++ b ∷ []) bs) where
  go : (e : Bool) → (b == 92) ≡ e → says (read ((t ++ b ∷ []) ++ until (is 92) bs) Plain) (from (is 92) bs) ≡ says (read (t ++ b ∷ []) Plain) bs
      → says (read (t ++ (if e then [] else b ∷ until (is 92) bs)) Plain) (if e then b ∷ bs else from (is 92) bs) ≡ says (read t Plain) (b ∷ bs)
  go true e h = rw (append-nil t) refl
  go false e h = rw e (rw (append_assoc t (b ∷ []) (until (is 92) bs)) at h)
