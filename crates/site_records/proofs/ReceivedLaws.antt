-- What is left of a record without what failed.
use Rattle.std.proofs.Common.{◌≡◌, ℕ, ◌++◌, ◌∙◌, Bool, true, false, cond, List, [], ◌∷◌, Option, Some, None, refl, sym, ap, subst, map}
use Rattle.std.specs.Prelude.{⊤, not, ◌||◌, flat_map}
use Rattle.std.specs.List.{filter}
use Rattle.std.specs.Map.{lookup}
use Rattle.std.specs.Str.{bytes_eq}
use Rattle.std.proofs.lemmas.Slice.Eq.{bytes_eq-Decides}
use Rattle.std.proofs.lemmas.List.{append-nil}
use Rattle.std.proofs.lemmas.List.Folds.{list_any-append}
use Rattle.fetcher.specs.declared.outcome.Outcome.{Outcome}
use Rattle.kept_bodies.specs.Bodies.{BodyValue}
use Rattle.address.specs.Address.{AddressText, OriginText}
use Rattle.robots_rules.specs.Access.{RuleSetValue}
use Rattle.fetcher.specs.declared.answer.Answer.{Answer}
use Rattle.fetcher.specs.Outcomes.{is_fault}
use Rattle.answer_notes.specs.HopChains.{rules_of_hops}
use Rattle.answer_notes.specs.declared.received.Received.TheVariants.{Whole, Fault}
use Rattle.answer_notes.specs.declared.noted.Noted.{Noted}
use Rattle.answer_notes.specs.declared.noted.Noted.TheVariants.{Page, Chain}
use Rattle.response_answer.specs.Digests.{digest_of, outcome_by, is_document, is_sheet, target_of}
use Rattle.response_reader.specs.Response.{ResponseParts}
use Rattle.site_records.specs.declared.version.Version.{Version}
use Rattle.site_records.specs.Entries.{Entry, answered, ruled, chained, IsNew}
use Rattle.site_records.specs.Received.{has_lost, has_failed, received_of, taken_of, Stating, stating}
use Rattle.site_records.specs.Records.{answers_of, rules_of, IsFront, none, next}
use Rattle.site_records.specs.RecordNotes.{SayJust, HasNotes}
use Rattle.site_records.specs.WrittenEntries.{note_entry}
use Rattle.site_records.specs.inner.Readings.{lost_of, is_among}
use Rattle.site_records.specs.inner.RecordNotes.{is_failure}
use Rattle.site_records.proofs.ReadLaws.{lost_of-append, not_lost, passed}
use Rattle.html_links.specs.declared.rules.LinkRules.{LinkRules}

-- ---- the answers

-- the answer is a response
abbrev stays : AddressText × Answer BodyValue → Bool
stays a = not (is_fault a.1.outcome)

pub answers_received : (said : List Entry) → answers_of (received_of said) ≡ filter stays (answers_of said)
answers_received [] = refl
answers_received (answered at a ∷ more) = by (not (is_fault a.outcome)) (answers_received more)
  where
    by : (b : Bool) → answers_of (received_of more) ≡ filter stays (answers_of more)
        → answers_of (cond b (answered at a ∷ received_of more) (received_of more)) ≡ cond b ((at, a) ∷ filter stays (answers_of more)) (filter stays (answers_of more))
    by true rest = ap (λ l. (at, a) ∷ l) rest
    by false rest = rest
answers_received (ruled of r ∷ more) = by (not r.closed) (answers_received more)
  where
    by : (b : Bool) → answers_of (received_of more) ≡ filter stays (answers_of more) → answers_of (cond b (ruled of r ∷ received_of more) (received_of more)) ≡ filter stays (answers_of more)
    by true rest = rest
    by false rest = rest
answers_received (chained of hops ∷ more) = by (not (has_lost hops)) (answers_received more)
  where
    by : (b : Bool) → answers_of (received_of more) ≡ filter stays (answers_of more) → answers_of (cond b (chained of hops ∷ received_of more) (received_of more)) ≡ filter stays (answers_of more)
    by true rest = rest
    by false rest = rest

-- ---- the rules

-- the origin isn't one of these
abbrev is_other : List OriginText → OriginText × RuleSetValue → Bool
is_other lost r = not (is_among lost r.0)

-- the origins that entries name are among these if they failed, and else aren't
abbrev Agree : List OriginText → List Entry → Type 0
Agree lost [] = ⊤
Agree lost (answered at a ∷ more) = Agree lost more
Agree lost (ruled of r ∷ more) = (is_among lost of ≡ r.closed) × Agree lost more
Agree lost (chained of hops ∷ more) = (is_among lost of ≡ has_lost hops) × Agree lost more

rules_left : (lost : List OriginText) (said : List Entry) → Agree lost said → rules_of (received_of said) ≡ filter (is_other lost) (rules_of said)
rules_left lost [] agree = refl
rules_left lost (answered at a ∷ more) agree = by (not (is_fault a.outcome)) (rules_left lost more agree)
  where
    by : (b : Bool) → rules_of (received_of more) ≡ filter (is_other lost) (rules_of more) → rules_of (cond b (answered at a ∷ received_of more) (received_of more)) ≡ filter (is_other lost) (rules_of more)
    by true rest = rest
    by false rest = rest
rules_left lost (ruled of r ∷ more) (is, agree) = by (not r.closed) (not (is_among lost of)) (ap not (sym is)) (rules_left lost more agree)
  where
    by : (b d : Bool) → b ≡ d → rules_of (received_of more) ≡ filter (is_other lost) (rules_of more)
        → rules_of (cond b (ruled of r ∷ received_of more) (received_of more)) ≡ cond d ((of, r) ∷ filter (is_other lost) (rules_of more)) (filter (is_other lost) (rules_of more))
    by true true e rest = ap (λ l. (of, r) ∷ l) rest
    by false false e rest = rest
    by true false e rest = absurd cc
    by false true e rest = absurd cc
rules_left lost (chained of hops ∷ more) (is, agree) = by (not (has_lost hops)) (not (is_among lost of)) (ap not (sym is)) (rules_left lost more agree)
  where
    by : (b d : Bool) → b ≡ d → rules_of (received_of more) ≡ filter (is_other lost) (rules_of more)
        → rules_of (cond b (chained of hops ∷ received_of more) (received_of more)) ≡ cond d ((of, rules_of_hops hops) ∷ filter (is_other lost) (rules_of more)) (filter (is_other lost) (rules_of more))
    by true true e rest = ap (λ l. (of, rules_of_hops hops) ∷ l) rest
    by false false e rest = rest
    by true false e rest = absurd cc
    by false true e rest = absurd cc

agree-append : (lost : List OriginText) (xs ys : List Entry) → Agree lost xs → Agree lost ys → Agree lost (xs ++ ys)
agree-append lost [] ys first second = second
agree-append lost (answered at a ∷ xs) ys first second = agree-append lost xs ys first second
agree-append lost (ruled of r ∷ xs) ys (is, first) second = (is, agree-append lost xs ys first second)
agree-append lost (chained of hops ∷ xs) ys (is, first) second = (is, agree-append lost xs ys first second)

-- texts that differ do so in either order
differs : (a b : List ℕ) → bytes_eq a b ≡ false → bytes_eq b a ≡ false
differs a b apart = by (bytes_eq b a) refl
  where
    by : (t : Bool) → bytes_eq b a ≡ t → bytes_eq b a ≡ false
    by false is = is
    by true is =
        let same = (bytes_eq-Decides a b).1 (sym ((bytes_eq-Decides b a).0 is)) in
        absurd cc

-- perhaps one origin
abbrev perhaps : Bool → OriginText → List OriginText
perhaps b of = cond b (of ∷ []) []

-- one origin more makes no difference to others
still : (lost : List OriginText) (b : Bool) (of other : OriginText) → bytes_eq other of ≡ false → is_among (lost ++ perhaps b of) other ≡ is_among lost other
still lost true of other apart = list_any-append (bytes_eq other) lost (of ∷ []) ∙ ap (λ t. is_among lost other || (t || false)) apart ∙ no_more (is_among lost other)
  where
    no_more : (t : Bool) → (t || (false || false)) ≡ t
    no_more true = refl
    no_more false = refl
still lost false of other apart = list_any-append (bytes_eq other) lost [] ∙ no_more (is_among lost other)
  where
    no_more : (t : Bool) → (t || false) ≡ t
    no_more true = refl
    no_more false = refl

agree-more : (lost : List OriginText) (b : Bool) (of : OriginText) (said : List Entry) → lookup (bytes_eq of) (rules_of said) ≡ None → Agree lost said → Agree (lost ++ perhaps b of) said
agree-more lost b of [] fresh agree = tt
agree-more lost b of (answered at a ∷ more) fresh agree = agree-more lost b of more fresh agree
agree-more lost b of (ruled o r ∷ more) fresh (is, agree) =
    let p = passed (bytes_eq of o) r (lookup (bytes_eq of) (rules_of more)) fresh in (still lost b of o (differs of o p.0) ∙ is, agree-more lost b of more p.1 agree)
agree-more lost b of (chained o hops ∷ more) fresh (is, agree) =
    let p = passed (bytes_eq of o) (rules_of_hops hops) (lookup (bytes_eq of) (rules_of more)) fresh in (still lost b of o (differs of o p.0) ∙ is, agree-more lost b of more p.1 agree)

-- the origin itself is there if it failed
added : (lost : List OriginText) (b : Bool) (of : OriginText) → is_among lost of ≡ false → is_among (lost ++ perhaps b of) of ≡ b
added lost true of apart =
    let same = (bytes_eq-Decides of of).1 refl in
    list_any-append (bytes_eq of) lost (of ∷ []) ∙ rw (apart, same) refl
added lost false of apart = list_any-append (bytes_eq of) lost [] ∙ rw apart refl

-- the origins that failed are those of which entries say so: no origin is named twice
all_agree : (version : Version) (links : LinkRules) (text : List ℕ) (said : List Entry) (rest : List ℕ) → IsFront version links text said rest → Agree (lost_of said) said
all_agree version links text _ _ none = tt
all_agree version links text _ _ (next said rest e after front is new) =
    rw (lost_of-append said (e ∷ [])) (one (all_agree version links text said rest front) e new)
  where
    one : Agree (lost_of said) said → (e : Entry) → IsNew (answers_of said) (rules_of said) e → Agree (lost_of said ++ lost_of (e ∷ [])) (said ++ e ∷ [])
    one before (answered at a) fresh = rw (append-nil (lost_of said)) (agree-append (lost_of said) said (answered at a ∷ []) before tt)
    one before (ruled of r) fresh =
        rw (append-nil (perhaps r.closed of))
        (agree-append (lost_of said ++ perhaps r.closed of) said (ruled of r ∷ []) (agree-more (lost_of said) r.closed of said fresh before) (added (lost_of said) r.closed of (not_lost of said fresh), tt))
    one before (chained of hops) fresh =
        rw (append-nil (perhaps (has_lost hops) of))
        (agree-append (lost_of said ++ perhaps (has_lost hops) of) said (chained of hops ∷ []) (agree-more (lost_of said) (has_lost hops) of said fresh before)
        (added (lost_of said) (has_lost hops) of (not_lost of said fresh), tt))

pub rules_received : (version : Version) (links : LinkRules) (text : List ℕ) (said : List Entry) (rest : List ℕ) → IsFront version links text said rest
    → rules_of (received_of said) ≡ filter (is_other (lost_of said)) (rules_of said)
rules_received version links text said rest front = rules_left (lost_of said) said (all_agree version links text said rest front)

-- ---- the notes

-- what a filter by what a function gives leaves
filter-map : {X Y : Type 0} (p : Y → Bool) (f : X → Y) (xs : List X) → filter p (map f xs) ≡ map f (filter (λ x. p (f x)) xs)
filter-map p f [] = refl
filter-map p f (x ∷ xs) = by (p (f x)) (filter-map p f xs)
  where
    by : (b : Bool) → filter p (map f xs) ≡ map f (filter (λ x. p (f x)) xs)
        → cond b (f x ∷ filter p (map f xs)) (filter p (map f xs)) ≡ map f (cond b (x ∷ filter (λ x. p (f x)) xs) (filter (λ x. p (f x)) xs))
    by true rest = ap (λ l. f x ∷ l) rest
    by false rest = rest

-- a response is no fault
no_fault : (links : LinkRules) (at : AddressText) (r : ResponseParts) → is_fault (digest_of links at r) ≡ false
no_fault links at r = by (target_of at r.head)
  where
    leads : (page sheet : Bool) (a b c : Outcome) → is_fault a ≡ false → is_fault b ≡ false → is_fault c ≡ false → is_fault (cond page a (cond sheet b c)) ≡ false
    leads true sheet a b c first second third = first
    leads false true a b c first second third = second
    leads false false a b c first second third = third

    by : (target : Option AddressText) → is_fault (outcome_by links at r target) ≡ false
    by None = leads (is_document r.head) (is_sheet r.head) _ _ _ refl refl refl
    by (Some target) = refl

-- a note of no response is an entry that failed
fails : (links : LinkRules) (note : Noted) → not (has_failed (note_entry links note)) ≡ not (is_failure note)
fails links (Page at (Whole r)) = ap not (no_fault links at r)
fails links (Page at (Fault kind)) = refl
fails links (Chain c) = refl

-- what each entry states is the same of those that haven't failed
each_received : (xs : List Entry) → map stating (received_of xs) ≡ filter (λ (s : Stating). not s.failed) (map stating xs)
each_received xs = sym (filter-map (λ (s : Stating). not s.failed) stating xs)

answers_each : (xs : List Entry) → answers_of xs ≡ flat_map (λ (s : Stating). s.answers) (map stating xs)
answers_each [] = refl
answers_each (answered at a ∷ xs) = ap (λ l. (at, a) ∷ l) (answers_each xs)
answers_each (ruled of r ∷ xs) = answers_each xs
answers_each (chained of hops ∷ xs) = answers_each xs

rules_each : (xs : List Entry) → rules_of xs ≡ flat_map (λ (s : Stating). s.rules) (map stating xs)
rules_each [] = refl
rules_each (answered at a ∷ xs) = rules_each xs
rules_each (ruled of r ∷ xs) = ap (λ l. (of, r) ∷ l) (rules_each xs)
rules_each (chained of hops ∷ xs) = ap (λ l. (of, rules_of_hops hops) ∷ l) (rules_each xs)

-- notes that say each entry say what the entries state
say_each : (links : LinkRules) (notes : List Noted) (said : List Entry) → map stating (map (note_entry links) notes) ≡ map stating said → SayJust links notes said
say_each links notes said each = record {
  answers = answers_each (map (note_entry links) notes) ∙ ap (flat_map (λ (s : Stating). s.answers)) each ∙ sym (answers_each said);
  rules = rules_each (map (note_entry links) notes) ∙ ap (flat_map (λ (s : Stating). s.rules)) each ∙ sym (rules_each said);
  each = each;
}

pub notes_received : (keeps : Bool) (links : LinkRules) (notes : List Noted) (said : List Entry) → HasNotes keeps links notes said
    → HasNotes keeps links (filter (λ n. not (is_failure n)) notes) (received_of said)
notes_received true links notes said has =
    let f = note_entry links in
    let left : map f (filter (λ n. not (is_failure n)) notes) ≡ received_of (map f notes) =
    ap (λ t. map f (filter t notes)) (λ i n. sym (fails links n) i) ∙ sym (filter-map (λ e. not (has_failed e)) f notes) in
    say_each links (filter (λ n. not (is_failure n)) notes) (received_of said)
    (ap (map stating) left ∙ each_received (map f notes) ∙ ap (filter (λ (s : Stating). not s.failed)) has.each ∙ sym (each_received said))
notes_received false links notes said has = ap (filter (λ n. not (is_failure n))) has

-- ---- all of it, or what was received

pub answers_taken : (b : Bool) (said : List Entry) (xs ys : List (AddressText × Answer BodyValue)) → xs ≡ answers_of said → ys ≡ cond b xs (filter stays xs) → ys ≡ answers_of (taken_of b said)
answers_taken true said xs ys is left = left ∙ is
answers_taken false said xs ys is left = left ∙ ap (filter stays) is ∙ sym (answers_received said)

pub rules_taken : (b : Bool) (version : Version) (links : LinkRules) (text : List ℕ) (said : List Entry) (rest : List ℕ) (lost : List OriginText) (xs ys : List (OriginText × RuleSetValue)) → IsFront version links text said rest
    → lost ≡ lost_of said → xs ≡ rules_of said → ys ≡ cond b xs (filter (is_other lost) xs) → ys ≡ rules_of (taken_of b said)
rules_taken true version links text said rest lost xs ys front lost_is is left = left ∙ is
rules_taken false version links text said rest lost xs ys front lost_is is left =
    left ∙ ap (λ l. filter (is_other l) xs) lost_is ∙ ap (filter (is_other (lost_of said))) is ∙ sym (rules_received version links text said rest front)

pub notes_taken : (b keeps : Bool) (links : LinkRules) (said : List Entry) (xs ys : List Noted) → HasNotes keeps links xs said → ys ≡ cond b xs (filter (λ n. not (is_failure n)) xs)
    → HasNotes keeps links ys (taken_of b said)
notes_taken true keeps links said xs ys has left = subst (λ l. HasNotes keeps links l said) (sym left) has
notes_taken false keeps links said xs ys has left = subst (λ l. HasNotes keeps links l (received_of said)) (sym left) (notes_received keeps links xs said has)
