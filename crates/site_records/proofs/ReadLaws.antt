-- A record that is read so far, and how it ends.
use Rattle.std.proofs.Common.{cond, ◌≡◌, ◌≢◌, ◌==◌, ℕ, ◌+◌, ◌<◌, ◌≤◌, ◌++◌, ◌∙◌, Bool, true, false, List, [], ◌∷◌, Option, Some, None, refl, sym, ap, subst, inl, inr, length, arith, take, drop, map}
use Rattle.std.specs.Str.{bytes_eq}
use Rattle.std.specs.Map.{lookup}
use Rattle.std.proofs.lemmas.List.{append-nil, append_assoc, take-append-drop, length-append, map-append}
use Rattle.std.proofs.lemmas.Bool.{eqb-true}
use Rattle.std.proofs.lemmas.Slice.Eq.{bytes_eq-Decides}
use Rattle.std.proofs.Math.Seq.{take-append_seam}
use Rattle.kept_bodies.specs.Bodies.{BodyValue}
use Rattle.site_inputs.specs.declared.input_fault.InputLineFault.TheVariants.{Line, Address, Memory}
use Rattle.address.specs.Address.{AddressText, OriginText}
use Rattle.robots_rules.specs.Access.{RuleSetValue}
use Rattle.fetcher.specs.declared.answer.Answer.{Answer}
use Rattle.answer_notes.specs.HopChains.{rules_of_hops}
use Rattle.site_records.specs.declared.entry_fault.EntryFault.{EntryFault}
use Rattle.site_records.specs.declared.entry_fault.EntryFault.TheVariants.{Own, Hop}
use Rattle.site_records.specs.declared.version.Version.{Version}
use Rattle.site_records.specs.declared.version.Version.TheVariants.{First, Second}
use Rattle.site_records.specs.declared.reading.RecordReading.{RecordReading}
use Rattle.site_records.specs.Entries.{Entry, answered, ruled, chained, lines_of, IsEntry, IsNew, IsBadLine, IsBadAddress, IsFormed}
use Rattle.site_records.specs.Records.{answers_of, rules_of, version_line, IsFront, none, next, IsRecord, line_count, lines_ahead, FirstBad, HasVersion, IsFault}
use Rattle.answer_notes.specs.declared.noted.Noted.{Noted}
use Rattle.site_records.specs.WrittenEntries.{note_entry}
use Rattle.site_records.specs.RecordNotes.{HasNotes}
use Rattle.site_records.specs.inner.RecordNotes.{AddsNote}
use Rattle.site_records.specs.inner.Readings.{Reads, IsBad, fault_at, lost_of, is_among, with_lost, lost_with}
use Rattle.site_records.specs.Received.{has_lost, stating}
use Rattle.html_links.specs.declared.rules.LinkRules.{LinkRules}

-- the entries so far are kept, and this is the rest
pub record IsReadTo (links : LinkRules) (bytes : List ℕ) (reading : RecordReading) (number : ℕ) (rest : List ℕ) : Type 0 where
  pub text : List ℕ
  pub above : List Entry
  pub begins : bytes ≡ version_line reading.version ++ text
  pub front : IsFront reading.version links text above rest
  pub answers : reading.answers.entries ≡ answers_of above
  pub rules : reading.rules.entries ≡ rules_of above
  pub lost : reading.lost.keys ≡ lost_of above
  pub robots_is : reading.links ≡ links
  pub noted : HasNotes reading.keeps_notes links reading.notes.items above
  pub count : number ≡ line_count above + 1
  pub within : number + length rest < length bytes

-- the answers of more entries are those of the first and those of the others
pub answers_of-append : (xs ys : List Entry) → answers_of (xs ++ ys) ≡ answers_of xs ++ answers_of ys
answers_of-append [] ys = refl
answers_of-append (answered at a ∷ xs) ys = ap (λ l. (at, a) ∷ l) (answers_of-append xs ys)
answers_of-append (ruled of r ∷ xs) ys = answers_of-append xs ys
answers_of-append (chained of hops ∷ xs) ys = answers_of-append xs ys

pub rules_of-append : (xs ys : List Entry) → rules_of (xs ++ ys) ≡ rules_of xs ++ rules_of ys
rules_of-append [] ys = refl
rules_of-append (answered at a ∷ xs) ys = rules_of-append xs ys
rules_of-append (ruled of r ∷ xs) ys = ap (λ l. (of, r) ∷ l) (rules_of-append xs ys)
rules_of-append (chained of hops ∷ xs) ys = ap (λ l. (of, rules_of_hops hops) ∷ l) (rules_of-append xs ys)

pub lost_of-append : (xs ys : List Entry) → lost_of (xs ++ ys) ≡ lost_of xs ++ lost_of ys
lost_of-append [] ys = refl
lost_of-append (answered at a ∷ xs) ys = lost_of-append xs ys
lost_of-append (ruled of r ∷ xs) ys = ap (λ l. cond r.closed (of ∷ []) [] ++ l) (lost_of-append xs ys) ∙ sym (append_assoc (cond r.closed (of ∷ []) []) (lost_of xs) (lost_of ys))
lost_of-append (chained of hops ∷ xs) ys = ap (λ l. cond (has_lost hops) (of ∷ []) [] ++ l) (lost_of-append xs ys) ∙ sym (append_assoc (cond (has_lost hops) (of ∷ []) []) (lost_of xs) (lost_of ys))

-- a key that isn't the first, and what is looked up after it
pub passed : {X : Type 0} (b : Bool) (x : X) (rest : Option X) → cond b (Some x) rest ≡ None → (b ≡ false) × (rest ≡ None)
passed true x rest e = absurd cc
passed false x rest e = (refl, e)

-- an origin without rules isn't among those that were lost
pub not_lost : (of : OriginText) (said : List Entry) → lookup (bytes_eq of) (rules_of said) ≡ None → is_among (lost_of said) of ≡ false
not_lost of [] fresh = refl
not_lost of (answered at a ∷ more) fresh = not_lost of more fresh
not_lost of (ruled o r ∷ more) fresh =
    let p = passed (bytes_eq of o) r (lookup (bytes_eq of) (rules_of more)) fresh in
    one r.closed p.0 (not_lost of more p.1)
  where
    one : (b : Bool) → bytes_eq of o ≡ false → is_among (lost_of more) of ≡ false → is_among (cond b (o ∷ []) [] ++ lost_of more) of ≡ false
    one true apart rest = rw (apart, rest) refl
    one false apart rest = rest
not_lost of (chained o hops ∷ more) fresh =
    let p = passed (bytes_eq of o) (rules_of_hops hops) (lookup (bytes_eq of) (rules_of more)) fresh in
    one (has_lost hops) p.0 (not_lost of more p.1)
  where
    one : (b : Bool) → bytes_eq of o ≡ false → is_among (lost_of more) of ≡ false → is_among (cond b (o ∷ []) [] ++ lost_of more) of ≡ false
    one true apart rest = rw (apart, rest) refl
    one false apart rest = rest

-- an origin that isn't there goes after the others
after_others : (lost : List OriginText) (failed : Bool) (of : OriginText) → is_among lost of ≡ false → with_lost lost failed of ≡ lost ++ (cond failed (of ∷ []) [] ++ [])
after_others lost true of apart = ap (λ b. cond b lost (lost ++ of ∷ [])) apart
after_others lost false of apart = sym (append-nil lost)

lost_grows : (said : List Entry) (e : Entry) → IsNew (answers_of said) (rules_of said) e → lost_with (lost_of said) e ≡ lost_of (said ++ e ∷ [])
lost_grows said (answered at a) fresh = sym (lost_of-append said (answered at a ∷ []) ∙ append-nil (lost_of said))
lost_grows said (ruled of r) fresh = after_others (lost_of said) r.closed of (not_lost of said fresh) ∙ sym (lost_of-append said (ruled of r ∷ []))
lost_grows said (chained of hops) fresh = after_others (lost_of said) (has_lost hops) of (not_lost of said fresh) ∙ sym (lost_of-append said (chained of hops ∷ []))

-- one more entry has its lines after those of the others
line_count-push : (xs : List Entry) (e : Entry) → line_count (xs ++ e ∷ []) ≡ line_count xs + lines_of e
line_count-push [] e = omega arith
line_count-push (x ∷ xs) e = let more = line_count-push xs e in omega (arith, more)

-- nothing is noted of nothing
no_notes : (keeps : Bool) (links : LinkRules) (notes : List Noted) → notes ≡ [] → HasNotes keeps links notes []
no_notes true links notes e = record { answers = ap (λ l. answers_of (map (note_entry links) l)) e; rules = ap (λ l. rules_of (map (note_entry links) l)) e; each = ap (λ l. map stating (map (note_entry links) l)) e }
no_notes false links notes e = e

-- a note more says one entry more
notes_grow : (keeps : Bool) (links : LinkRules) (old new : List Noted) (above : List Entry) (e : Entry) → HasNotes keeps links old above → AddsNote keeps links old e new → HasNotes keeps links new (above ++ e ∷ [])
notes_grow false links old new above e was adds = adds ∙ was
notes_grow true links old new above e was (note, pushed, says) =
    let f = note_entry links in
    let more : map f new ≡ map f old ++ map f (note ∷ []) = ap (map f) pushed ∙ map-append f old (note ∷ []) in
    record {
      answers = ap answers_of more ∙ answers_of-append (map f old) (map f (note ∷ [])) ∙ ap (λ l. l ++ answers_of (map f (note ∷ []))) was.answers
          ∙ ap (λ l. answers_of above ++ l) says.answers ∙ sym (answers_of-append above (e ∷ []));
      rules = ap rules_of more ∙ rules_of-append (map f old) (map f (note ∷ [])) ∙ ap (λ l. l ++ rules_of (map f (note ∷ []))) was.rules
          ∙ ap (λ l. rules_of above ++ l) says.rules ∙ sym (rules_of-append above (e ∷ []));
      each = ap (map stating) more ∙ map-append stating (map f old) (map f (note ∷ [])) ∙ ap (λ l. l ++ map stating (map f (note ∷ []))) was.each
          ∙ ap (λ l. map stating above ++ l) says.each ∙ sym (map-append stating above (e ∷ []));
    }

-- nothing is read yet after the first line
pub starts : (links : LinkRules) (bytes : List ℕ) (reading : RecordReading) (rest : List ℕ) → bytes ≡ version_line reading.version ++ rest
    → reading.answers.entries ≡ [] → reading.rules.entries ≡ [] → reading.lost.keys ≡ [] → reading.links ≡ links → reading.notes.items ≡ [] → IsReadTo links bytes reading 1 rest
starts links bytes reading rest is answers rules lost same none_noted =
    let some = long_line reading.version in
    let long = length-append (version_line reading.version) rest in
    let all = ap length is in
    record {
      text = rest;
      above = [];
      begins = is;
      front = none;
      answers = answers;
      rules = rules;
      lost = lost;
      robots_is = same;
      noted = no_notes reading.keeps_notes links reading.notes.items none_noted;
      count = refl;
      within = omega (arith, some, long, all);
    }
  where
    long_line : (version : Version) → 1 < length (version_line version)
    long_line First = omega arith
    long_line Second = omega arith

-- bytes that begin with neither line
pub begins_so : (line bytes text : List ℕ) → bytes_eq (take (length line) bytes) line ≡ false → bytes ≢ line ++ text
begins_so line bytes text other is =
    let begins : take (length line) bytes ≡ line = ap (λ l. take (length line) l) is ∙ take-append_seam line text in
    let same = (bytes_eq-Decides (take (length line) bytes) line).1 begins in
    cc

pub no_version : (bytes : List ℕ) → bytes_eq (take (length (version_line First)) bytes) (version_line First) ≡ false
    → bytes_eq (take (length (version_line Second)) bytes) (version_line Second) ≡ false → ¬ HasVersion bytes
no_version bytes one two (First, text, is) = begins_so (version_line First) bytes text one is
no_version bytes one two (Second, text, is) = begins_so (version_line Second) bytes text two is

-- bytes that begin with one of them
pub has_version : (version : Version) (bytes rest : List ℕ) → bytes_eq (take (length (version_line version)) bytes) (version_line version) ≡ true
    → rest ≡ drop (length (version_line version)) bytes → bytes ≡ version_line version ++ rest
has_version version bytes rest front is =
    let begins : take (length (version_line version)) bytes ≡ version_line version = (bytes_eq-Decides (take (length (version_line version)) bytes) (version_line version)).0 front in
    sym (take-append-drop (length (version_line version)) bytes) ∙ ap (λ l. l ++ drop (length (version_line version)) bytes) begins ∙ ap (λ l. version_line version ++ l) (sym is)

-- one more entry is read
pub goes_on : (links : LinkRules) (bytes : List ℕ) (old new : RecordReading) (number lines : ℕ) (rest after : List ℕ) → IsReadTo links bytes old number rest
    → Reads old rest lines after new → length after + lines ≤ length rest → IsReadTo links bytes new (number + lines) after
goes_on links bytes old new number lines rest after so_far r less =
    let e : IsEntry old.version links rest r.entry after = rw so_far.robots_is at r.is in
    let fresh : IsNew (answers_of so_far.above) (rules_of so_far.above) r.entry = rw (so_far.answers, so_far.rules) at r.keeps.is_new in
    let longer = line_count-push so_far.above r.entry in
    record {
      text = so_far.text;
      above = so_far.above ++ r.entry ∷ [];
      begins = subst (λ v. bytes ≡ version_line v ++ so_far.text) (sym r.keeps.version) so_far.begins;
      front = subst (λ v. IsFront v links so_far.text (so_far.above ++ r.entry ∷ []) after) (sym r.keeps.version) (next so_far.above rest r.entry after so_far.front e fresh);
      answers = r.keeps.answers ∙ ap (λ l. l ++ answers_of (r.entry ∷ [])) so_far.answers ∙ sym (answers_of-append so_far.above (r.entry ∷ []));
      rules = r.keeps.rules ∙ ap (λ l. l ++ rules_of (r.entry ∷ [])) so_far.rules ∙ sym (rules_of-append so_far.above (r.entry ∷ []));
      lost = r.keeps.lost ∙ ap (λ l. lost_with l r.entry) so_far.lost ∙ lost_grows so_far.above r.entry fresh;
      robots_is = r.keeps.links ∙ so_far.robots_is;
      noted = subst (λ b. HasNotes b links new.notes.items (so_far.above ++ r.entry ∷ [])) (sym r.keeps.keeps_notes)
          (notes_grow old.keeps_notes links old.notes.items new.notes.items so_far.above r.entry so_far.noted (subst (λ b. AddsNote old.keeps_notes b old.notes.items r.entry new.notes.items) so_far.robots_is r.keeps.noted));
      count = let was = so_far.count in let lines_are = r.lines_are in omega (arith, was, longer, lines_are);
      within = let was = so_far.within in omega (arith, was, less);
    }

-- a bad entry is the first
pub first_bad_at : (links : LinkRules) (bytes : List ℕ) (old : RecordReading) (number : ℕ) (rest : List ℕ) (IsBadSo : Version → List (AddressText × Answer BodyValue) → List (OriginText × RuleSetValue) → Option ℕ → List ℕ → Type 0)
    (place : Option ℕ) (line : ℕ) → IsReadTo links bytes old number rest → rest ≢ [] → line ≡ number + 1 + lines_ahead place
    → IsBadSo old.version old.answers.entries old.rules.entries place rest → FirstBad links bytes line IsBadSo
first_bad_at links bytes old number rest IsBadSo place line s more is bad = record {
  version = old.version;
  text = s.text;
  begins = s.begins;
  above = s.above;
  rest = rest;
  front = s.front;
  more = more;
  place = place;
  count = let was = s.count in omega (arith, is, was);
  bad = subst (λ answers. IsBadSo old.version answers (rules_of s.above) place rest) s.answers (subst (λ rules. IsBadSo old.version old.answers.entries rules place rest) s.rules bad);
}

pub first_bad : (links : LinkRules) (bytes : List ℕ) (old : RecordReading) (number : ℕ) (rest : List ℕ) (f : EntryFault) → IsReadTo links bytes old number rest
    → rest ≢ [] → IsBad old rest f → IsFault links bytes (fault_at f (number + 1))
first_bad links bytes old number rest (Own Line) s more bad = inr (first_bad_at links bytes old number rest IsBadLine None (number + 1) s more (omega arith) bad)
first_bad links bytes old number rest (Own Address) s more bad = first_bad_at links bytes old number rest IsBadAddress None (number + 1) s more (omega arith) bad
first_bad links bytes old number rest (Own Memory) s more bad =
    inl (number + 1, first_bad_at links bytes old number rest (λ version _ _ _ rest. IsFormed version rest) None (number + 1) s more (omega arith) bad)
first_bad links bytes old number rest (Hop k Line) s more bad = inr (first_bad_at links bytes old number rest IsBadLine (Some k) (number + 1 + k + 1) s more (omega arith) bad)
first_bad links bytes old number rest (Hop k Address) s more bad = first_bad_at links bytes old number rest IsBadAddress (Some k) (number + 1 + k + 1) s more (omega arith) bad
first_bad links bytes old number rest (Hop k Memory) s more bad =
    inl (number + 1 + k + 1, first_bad_at links bytes old number rest (λ version _ _ _ rest. IsFormed version rest) (Some k) (number + 1 + k + 1) s more (omega arith) bad)

-- the lines in front of a fault are fewer than the bytes
pub line_within : (links : LinkRules) (bytes : List ℕ) (old : RecordReading) (number : ℕ) (rest : List ℕ) (lines : ℕ) → IsReadTo links bytes old number rest
    → lines ≤ length rest → number + 1 + lines ≤ length bytes
line_within links bytes old number rest lines s le = let was = s.within in omega (arith, was, le)

-- if nothing is left, all is read
pub all_read : (links : LinkRules) (bytes : List ℕ) (old : RecordReading) (number : ℕ) (rest : List ℕ) → (s : IsReadTo links bytes old number rest)
    → rest ≡ [] → IsRecord links bytes s.above
all_read links bytes old number rest s empty = record { version = old.version; text = s.text; begins = s.begins; all = rw empty at s.front }

-- a text that was found empty, or wasn't
pub is_empty : (xs : List ℕ) → (length xs == 0) ≡ true → xs ≡ []
is_empty [] h = refl
is_empty (x ∷ xs) h = absurd (omega (arith, eqb-true (length (x ∷ xs)) 0 h))

pub not_empty : (xs : List ℕ) → (length xs == 0) ≡ false → xs ≢ []
not_empty [] h e = absurd cc
not_empty (x ∷ xs) h e = absurd cc

pub some_left : (xs : List ℕ) → (length xs == 0) ≡ false → 0 < length xs
some_left [] h = absurd cc
some_left (x ∷ xs) h = omega arith
