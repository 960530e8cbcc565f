-- The fields of an answer's text, and the answer that they say.
use Rattle.std.proofs.Common.{◌≡◌, ◌∙◌, ◌==◌, ◌^◌, ◌<◌, ◌++◌, ℕ, Bool, true, false, not, List, [], ◌∷◌, Option, Some, None, refl, ap, subst, arith}
use Rattle.std.specs.Prelude.{All, IsUtf8, codes, decimal}
use Rattle.std.proofs.lemmas.Bool.{ne_eqb}
use Rattle.std.proofs.lemmas.Fmt.{decimal_is_IsNumeral}
use Rattle.std.proofs.lemmas.List.Elements.{All-append, All-cons, All-weaker}
use Rattle.std.proofs.lemmas.List.Splits.{slice_split_at}
use Rattle.std.proofs.lemmas.Str.{IsUtf8-from_ascii}
use Rattle.address.specs.Address.{AddressText, IsAddress}
use Rattle.fetcher.specs.Statuses.{is_successful}
use Rattle.fetcher.specs.declared.outcome.Outcome.{Outcome}
use Rattle.fetcher.specs.declared.outcome.Outcome.TheVariants.{Page, Moved, Leaf, Fault}
use Rattle.site_inputs.specs.Fields.{fields}
use Rattle.site_records.specs.WrittenEntries.{line_of_three}
use Rattle.site_records.proofs.WrittenEntryLaws.{IsPlain, IsVisible, address_visible, all_visible, ascii_line, digits_visible, plain_line, three_fields}
use Rattle.earlier_answers.specs.Texts.{IsOutcome, Text, answer_text, has_no_file}
use Rattle.earlier_answers.specs.inner.Fields.{AnswerFields, fields_by, fields_in, last_field, status_of, target_of, word_of}

-- five fields are too many
pub no_five : (a b c d e : Text) (more : List Text) (f : AnswerFields) → a ∷ b ∷ c ∷ d ∷ e ∷ more ≡ fields_in f → ⊥
no_five a b c d e more f is = let rest : d ∷ e ∷ more ≡ last_field f.target = cc in short f.target rest
  where
    short : (target : Option Text) → d ∷ e ∷ more ≡ last_field target → ⊥
    short None same = cc
    short (Some t) same = cc

-- the digits of a status are visible
status_visible : (n : ℕ) → n < 2 ^ 16 → All IsVisible (decimal n)
status_visible n small = let wide : n < 2 ^ 64 = omega (arith, small) in digits_visible (decimal n) (decimal_is_IsNumeral n wide).0.1

-- the text is a text of characters and has these fields
abbrev HasFields : Text → List Text → Type 0
HasFields text said = IsUtf8 text × (fields text ≡ said)

leaf_fields : (n : ℕ) (at : AddressText) → n < 2 ^ 16 → IsAddress at → HasFields (line_of_three (codes "leaf") (decimal n) at) (codes "leaf" ∷ decimal n ∷ at ∷ [])
leaf_fields n at small is =
    let line = line_of_three (codes "leaf") (decimal n) at in
    let word = all_visible (codes "leaf") refl in
    let digits = status_visible n small in
    let visible = address_visible at is in
    (IsUtf8-from_ascii line (ascii_line line (plain_line (codes "leaf") (decimal n) at word digits visible)), three_fields (codes "leaf") (decimal n) at word digits visible)

moved_fields : (n : ℕ) (at to : AddressText) → n < 2 ^ 16 → IsAddress at → IsAddress to
    → HasFields (codes "moved " ++ line_of_three (decimal n) at to) (codes "moved" ∷ decimal n ∷ at ∷ to ∷ [])
moved_fields n at to small is leads =
    let rest = line_of_three (decimal n) at to in
    let word = all_visible (codes "moved") refl in
    let digits = status_visible n small in
    let visible = address_visible at is in
    let last = address_visible to leads in
    let plain : All IsPlain (codes "moved" ++ 32 ∷ rest) =
    All-append IsPlain (codes "moved") (32 ∷ rest) (All-weaker IsVisible IsPlain (λ x v. let low = v.0 in (omega arith, v.1)) (codes "moved") word)
    (All-cons IsPlain 32 rest space (plain_line (decimal n) at to digits visible last)) in (
      IsUtf8-from_ascii (codes "moved" ++ 32 ∷ rest) (ascii_line (codes "moved" ++ 32 ∷ rest) plain),
      slice_split_at (λ b. b == 32) (codes "moved") 32 rest (All-weaker IsVisible (λ b. (b == 32) ≡ false) no_space (codes "moved") word) refl
          ∙ ap (λ more. codes "moved" ∷ more) (three_fields (decimal n) at to digits visible last),
    )
  where
    space : IsPlain 32
    space = (omega arith, omega arith)

    no_space : (b : ℕ) → IsVisible b → (b == 32) ≡ false
    no_space b v = ne_eqb b 32 (λ e. let low = v.0 in omega arith)

-- what the text of an answer is
pub record IsSaid (at : AddressText) (outcome : Outcome) (text : Text) : Type 0 where
  pub utf8 : IsUtf8 text
  pub said : fields text ≡ fields_in (fields_by at outcome)
  pub small : status_of outcome < 2 ^ 16
  pub no_file : has_no_file outcome ≡ true

some_same : (x y : Text) → Some x ≡ Some y → x ≡ y
some_same x y is = cc

pub is_said : (at : AddressText) (outcome : Outcome) (text : Text) → IsAddress at → IsOutcome outcome → answer_text at outcome ≡ Some text → IsSaid at outcome text
is_said at (Page status edges) text is parts same = absurd cc
is_said at (Fault kind) text is parts same = absurd cc
is_said at (Moved n to) text is parts same =
    let all = subst (λ t. HasFields t (codes "moved" ∷ decimal n ∷ at ∷ to ∷ [])) (some_same _ text same) (moved_fields n at to parts.0 is parts.1) in
    record { utf8 = all.0; said = all.1; small = parts.0; no_file = refl }
is_said at (Leaf n) text is parts same = by (is_successful n) refl
  where
    by : (b : Bool) → is_successful n ≡ b → IsSaid at (Leaf n) text
    by true good = absurd (let none : answer_text at (Leaf n) ≡ None = rw good refl in cc)
    by false bad =
        let line : Some (line_of_three (codes "leaf") (decimal n) at) ≡ Some text = rw bad at same in
        let all = subst (λ t. HasFields t (codes "leaf" ∷ decimal n ∷ at ∷ [])) (some_same _ text line) (leaf_fields n at parts is) in
        record { utf8 = all.0; said = all.1; small = parts; no_file = ap not bad }

-- the outcome that the fields say
pub outcome_is : (x : Outcome) (word : Text) (n : ℕ) (target : Option Text) (read : Option Outcome) → IsOutcome x → has_no_file x ≡ true → word ≡ word_of x → n ≡ status_of x
    → target ≡ target_of x → (word ≡ codes "leaf" → target ≡ None → read ≡ Some (Leaf n)) → ((to : AddressText) → IsAddress to → word ≡ codes "moved" → target ≡ Some to → read ≡ Some (Moved n to))
    → read ≡ Some x
outcome_is (Page status edges) word n target read parts bare w s t leaf moved = absurd cc
outcome_is (Fault kind) word n target read parts bare w s t leaf moved = absurd cc
outcome_is (Leaf status) word n target read parts bare w s t leaf moved = leaf w t ∙ ap (λ k. Some (Leaf k)) s
outcome_is (Moved status to) word n target read parts bare w s t leaf moved = moved to parts.1 w t ∙ ap (λ k. Some (Moved k to)) s

-- lists of fields that are the same have the same fields
pub same_fields : (word status at : Text) (target : Option Text) (f : AnswerFields) → word ∷ status ∷ at ∷ last_field target ≡ fields_in f
    → (word ≡ f.word) × (status ≡ f.status) × (at ≡ f.at) × (target ≡ f.target)
same_fields word status at target f is =
    let w : word ≡ f.word = cc in
    let s : status ≡ f.status = cc in
    let a : at ≡ f.at = cc in
    let rest : last_field target ≡ last_field f.target = cc in
    (w, s, a, last target f.target rest)
  where
    last : (x y : Option Text) → last_field x ≡ last_field y → x ≡ y
    last None None same = refl
    last None (Some t) same = absurd cc
    last (Some t) None same = absurd cc
    last (Some t) (Some u) same = let e : t ≡ u = cc in ap Some e
