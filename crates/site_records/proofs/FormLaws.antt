-- Which fields are no line of a record, and the number that a length is.
use Rattle.std.proofs.Common.{◌≡◌, ◌≢◌, ℕ, ◌≤◌, ◌<◌, ◌^◌, ◌-◌, Bool, true, false, ◌&&◌, ◌||◌, ◌∙◌, List, [], ◌∷◌, Some, Err, length, min, refl, sym, ap, inl, inr, arith, rules}
use Rattle.std.specs.Prelude.{nat_lt, codes, not}
use Rattle.std.specs.Str.{bytes_eq}
use Rattle.site_inputs.specs.Fields.{fields}
use Rattle.site_records.specs.declared.version.Version.{Version}
use Rattle.site_records.specs.declared.version.Version.TheVariants.{First, Second}
use Rattle.std.specs.Char.{is_ascii_digit}
use Rattle.std.specs.List.{list_all}
use Rattle.std.specs.Str.Parse.{digits_value, ParsesUnsigned}
use Rattle.std.proofs.lemmas.Bool.{cases_lt, ltb-true}
use Rattle.std.proofs.lemmas.Str.Parse.{IsNumeralModel, numerals_by_value, parse_digits}
use Rattle.fetcher.specs.FaultWords.{word_of}
use Rattle.site_records.specs.EntryLines.{Statement, page, fault, file, free, closed, chain, is_of, IsForm, HasForm, HopStatement, hop, hopfault, IsHopForm, is_numeral, is_length, length_of}

-- no form has another number of fields than three
pub not_three : (fs : List (List ℕ)) → ((a b c : List ℕ) → fs ≢ a ∷ b ∷ c ∷ []) → (s : Statement) → ¬ IsForm fs s
not_three fs never (page text n) h = never (codes "page") text h.0 h.1
not_three fs never (fault kind text) h = never (codes "fault") (word_of kind) text h
not_three fs never (file text n) h = never (codes "robots") text h.0 h.1
not_three fs never (free text) h = never (codes "rules") (codes "all") text h
not_three fs never (closed text) h = never (codes "rules") (codes "none") text h
not_three fs never (chain text n) h = never (codes "chain") text h.0 h.1

-- nor has one of a hop
pub not_three_of_hop : (fs : List (List ℕ)) → ((a b c : List ℕ) → fs ≢ a ∷ b ∷ c ∷ []) → (s : HopStatement) → ¬ IsHopForm fs s
not_three_of_hop fs never (hop text n) h = never (codes "hop") text h.0 h.1
not_three_of_hop fs never (hopfault kind text) h = never (codes "hopfault") (word_of kind) text h

-- ---- which version has a line is known by its word

abbrev word_in : List (List ℕ) → List ℕ
word_in [] = []
word_in (w ∷ fs) = w

abbrev word : Statement → List ℕ
word (page text n) = codes "page"
word (fault kind text) = codes "fault"
word (file text n) = codes "robots"
word (free text) = codes "rules"
word (closed text) = codes "rules"
word (chain text n) = codes "chain"

first_word : (fs : List (List ℕ)) (s : Statement) → IsForm fs s → word_in fs ≡ word s
first_word fs (page text n) h = ap word_in h.1
first_word fs (fault kind text) h = ap word_in h
first_word fs (file text n) h = ap word_in h.1
first_word fs (free text) h = ap word_in h
first_word fs (closed text) h = ap word_in h
first_word fs (chain text n) h = ap word_in h.1

abbrev by_word : Version → List ℕ → Bool
by_word First w = not (bytes_eq w (codes "chain"))
by_word Second w = not (bytes_eq w (codes "robots") || bytes_eq w (codes "rules"))

of_word : (version : Version) (s : Statement) → is_of version s ≡ by_word version (word s)
of_word First (page text n) = refl
of_word First (fault kind text) = refl
of_word First (file text n) = refl
of_word First (free text) = refl
of_word First (closed text) = refl
of_word First (chain text n) = refl
of_word Second (page text n) = refl
of_word Second (fault kind text) = refl
of_word Second (file text n) = refl
of_word Second (free text) = refl
of_word Second (closed text) = refl
of_word Second (chain text n) = refl

-- if the version doesn't have what a line says, the line has no form
pub other_version : (version : Version) (line : List ℕ) (s : Statement) → IsForm (fields line) s → is_of version s ≡ false → (t : Statement) → ¬ HasForm version line t
other_version version line s form lacks t h =
    let same : is_of version s ≡ is_of version t =
    of_word version s ∙ ap (by_word version) (sym (first_word (fields line) s form) ∙ first_word (fields line) t h.1) ∙ sym (of_word version t) in
    let yes = h.2 in
    cc

-- of two tests that are true each is
pub and_parts : (a b : Bool) → (a && b) ≡ true → (a ≡ true) × (b ≡ true)
and_parts true b h = (refl, h)
and_parts false b h = absurd cc

-- digits of ASCII are a numeral
pub own_digits : IsNumeralModel (λ ds. list_all is_ascii_digit ds ≡ true) (digits_value 10)
own_digits = numerals_by_value _ (search rules)

-- a length that no number holds counts as the greatest
pub long_length : {E : Type 0} (ds : List ℕ) (e : E) → is_length ds ≡ true → ParsesUnsigned 64 10 ds (Err e) → Some (2 ^ 64 - 1) ≡ length_of ds
long_length ds e h refused =
    let numeral = (and_parts (is_numeral ds) _ h).0 in
    let (some, digits) = and_parts (nat_lt 0 (length ds)) (list_all is_ascii_digit ds) numeral in
    let more : 0 < length ds = ltb-true 0 (length ds) some in
    let long : 2 ^ 64 ≤ digits_value 10 ds =
    elim (cases_lt (digits_value 10 ds) (2 ^ 64)) [
      | inl fits ↦ absurd (parse_digits own_digits 64 ds (Err e) refused digits (more, fits))
      | inr long ↦ long
    ] in
    rw h (ap Some (greatest (digits_value 10 ds) long))
  where
    greatest : (n : ℕ) → 2 ^ 64 ≤ n → 2 ^ 64 - 1 ≡ min n (2 ^ 64 - 1)
    greatest n long = omega (arith, long)
