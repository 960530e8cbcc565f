-- The rules that are kept allow what all rules do.
use Rattle.std.proofs.Common.{◌≡◌, ◌≢◌, ◌↔◌, ℕ, ◌≤◌, ◌⊎◌, Bool, true, false, not, cond, ◌||◌, ◌==◌, List, [], ◌∷◌, ◌++◌, length, Contains, sym, refl, ap, ◌∙◌, subst, inl, inr, arith, map, Vec}
use Rattle.std.proofs.lemmas.Bool.{cases_Bool, and_parts, or_cases, or_right, eqb-true, eq-eqb, false_from_ne_true}
use Rattle.std.proofs.lemmas.Slice.Eq.{bytes_eq-Decides}
use Rattle.std.proofs.lemmas.List.Elements.{Contains-append_left, Contains-append_right, Contains-append_cases, Contains-push, Contains-push_cases}
use Rattle.std.proofs.lemmas.List.{map-append}
use Rattle.std.proofs.lemmas.List.Folds.{Any-from_list_any}
use Rattle.std.proofs.lemmas.List.Sums.{fold-append}
use Rattle.std.specs.Prelude.{fold}
use Rattle.std.specs.Bool.{beq}
use Rattle.std.specs.List.{list_any}
use Rattle.indexmap.specs.IndexSet.{insert_key}
use Rattle.robots_rules.specs.Access.{RuleValue, RulesAllow}
use Rattle.robots_rules.specs.Groups.{is_same_rule, with_rule}
use Rattle.robots_rules.specs.inner.RuleView.{rule_by}

beq-true : (a b : Bool) → beq a b ≡ true → a ≡ b
beq-true true true e = refl
beq-true true false e = cc
beq-true false true e = cc
beq-true false false e = refl

is_same_rule-true : (a b : RuleValue) → is_same_rule a b ≡ true → a ≡ b
is_same_rule-true a b e =
    let both = and_parts _ _ e in
    let with_allows : Bool → RuleValue = λ x. record { allows = x; pattern = a.pattern } in
    let with_pattern : List ℕ → RuleValue = λ p. record { allows = b.allows; pattern = p } in
    ap with_allows (beq-true a.allows b.allows both.0) ∙ ap with_pattern ((bytes_eq-Decides a.pattern b.pattern).0 both.1)

-- ---- one rule more

with_rule-new : (kept : List RuleValue) (rule : RuleValue) → length rule.pattern ≢ 0 → list_any (is_same_rule rule) kept ≡ false → with_rule kept rule ≡ kept ++ rule ∷ []
with_rule-new kept rule some fresh = rw (false_from_ne_true (length rule.pattern == 0) (λ e. some (eqb-true (length rule.pattern) 0 e)), fresh) refl

pub with_rule-none : (kept : List RuleValue) (rule : RuleValue) → length rule.pattern ≡ 0 → with_rule kept rule ≡ kept
with_rule-none kept rule none = rw (eq-eqb (length rule.pattern) 0 none) refl

with_rule-old : (kept : List RuleValue) (rule : RuleValue) → list_any (is_same_rule rule) kept ≡ true → with_rule kept rule ≡ kept
with_rule-old kept rule there = rw (or_right (length rule.pattern == 0) (list_any (is_same_rule rule) kept) there) refl

-- the rules gone through and one more
pub kept-push : (kept through : List RuleValue) (new : RuleValue) (more : List RuleValue) → kept ≡ fold with_rule [] through → more ≡ with_rule kept new → more ≡ fold with_rule [] (through ++ new ∷ [])
kept-push kept through new more so is = is ∙ ap (λ (rules : List RuleValue). with_rule rules new) so ∙ sym (fold-append with_rule [] through (new ∷ []))

-- ---- keys

-- whether two keys are equal
abbrev pub key_eq : {Z : Type 0} → Bool × Vec ℕ Z → Bool × Vec ℕ Z → Bool
key_eq a b = is_same_rule (rule_by a) (rule_by b)

list_any-keys : {Z : Type 0} (k : Bool × Vec ℕ Z) (ks : List (Bool × Vec ℕ Z)) → list_any (key_eq k) ks ≡ list_any (is_same_rule (rule_by k)) (map rule_by ks)
list_any-keys k [] = refl
list_any-keys k (x ∷ xs) = ap (λ b. is_same_rule (rule_by k) (rule_by x) || b) (list_any-keys k xs)

pub rule_by-is : {Z : Type 0} (key : Bool × Vec ℕ Z) (new : RuleValue) → key.0 ≡ new.allows → key.1.items ≡ new.pattern → rule_by key ≡ new
rule_by-is key new allows pattern =
    let with_allows : Bool → RuleValue = λ x. record { allows = x; pattern = key.1.items } in
    let with_pattern : List ℕ → RuleValue = λ p. record { allows = new.allows; pattern = p } in
    ap with_allows allows ∙ ap with_pattern pattern

-- a rule is there already if its key was seen
seen-is : {Z : Type 0} (seen : List (Bool × Vec ℕ Z)) (kept : List RuleValue) (key : Bool × Vec ℕ Z) (new : RuleValue) → map rule_by seen ≡ kept → rule_by key ≡ new → list_any (is_same_rule new) kept ≡ list_any (key_eq key) seen
seen-is seen kept key new keys is =
    sym (list_any-keys key seen ∙ ap (list_any (is_same_rule (rule_by key))) keys ∙ ap (λ (r : RuleValue). list_any (is_same_rule r) kept) is)

keys-new : {Z : Type 0} (seen more : List (Bool × Vec ℕ Z)) (kept : List RuleValue) (key : Bool × Vec ℕ Z) (new : RuleValue) → map rule_by seen ≡ kept → rule_by key ≡ new → list_any (key_eq key) seen ≡ false → more ≡ insert_key key_eq seen key → map rule_by more ≡ kept ++ new ∷ []
keys-new seen more kept key new keys is fresh put =
    let pushed : insert_key key_eq seen key ≡ seen ++ key ∷ [] = rw fresh refl in
    ap (map rule_by) (put ∙ pushed) ∙ map-append rule_by seen (key ∷ []) ∙ ap (λ (rules : List RuleValue). rules ++ rule_by key ∷ []) keys ∙ ap (λ (r : RuleValue). kept ++ r ∷ []) is

keys-old : {Z : Type 0} (seen more : List (Bool × Vec ℕ Z)) (key : Bool × Vec ℕ Z) → list_any (key_eq key) seen ≡ true → more ≡ insert_key key_eq seen key → map rule_by more ≡ map rule_by seen
keys-old seen more key there put = let same : insert_key key_eq seen key ≡ seen = rw there refl in ap (map rule_by) (put ∙ same)

-- the keys after a rule's key is put to those seen, and whether it is new there
pub keys-put : {Z : Type 0} (seen more : List (Bool × Vec ℕ Z)) (key : Bool × Vec ℕ Z) (new : RuleValue) (added : Bool) → length new.pattern ≢ 0 → rule_by key ≡ new → added ≡ not (list_any (key_eq key) seen) → more ≡ insert_key key_eq seen key → (map rule_by more ≡ with_rule (map rule_by seen) new) × (with_rule (map rule_by seen) new ≡ cond added (map rule_by seen ++ new ∷ []) (map rule_by seen))
keys-put seen more key new added some is told put =
    let same = seen-is seen (map rule_by seen) key new refl is in
    elim (cases_Bool (list_any (key_eq key) seen)) [
      | inl there ↦ (
          let old = with_rule-old (map rule_by seen) new (same ∙ there) in
          (keys-old seen more key there put ∙ sym old, rw (told, there) old))
      | inr fresh ↦ (
          let one_more = with_rule-new (map rule_by seen) new some (same ∙ fresh) in
          (keys-new seen more (map rule_by seen) key new refl is fresh put ∙ sym one_more, rw (told, fresh) one_more))
    ]

-- ---- the same answers

in_one : (x y : RuleValue) → Contains (x ∷ []) y → x ≡ y
in_one x y h = elim (Contains-push_cases [] x y h) [ inl (k, below, is) ↦ absurd (omega arith) | inr same ↦ same ]

-- a rule with a pattern is among the kept ones if it was before or is the new one
with_rule-members : (so : List RuleValue) (x r : RuleValue) → 1 ≤ length r.pattern → Contains (with_rule so x) r ↔ (Contains so r ⊎ (x ≡ r))
with_rule-members so x r some =
    elim (cases_Bool (length x.pattern == 0 || list_any (is_same_rule x) so)) [
      | inl passed ↦ (
          let same : with_rule so x ≡ so = rw passed refl in (
            λ h. inl (subst (λ (rs : List RuleValue). Contains rs r) same h),
            λ h. subst (λ (rs : List RuleValue). Contains rs r) (sym same)
                (elim h [
                  | inl before ↦ before
                  | inr is ↦ elim (or_cases _ _ passed) [
                    | inl none ↦ (let n : length x.pattern ≡ 0 = eqb-true _ _ none in let e = ap (λ (z : RuleValue). length z.pattern) is in absurd (omega arith))
                    | inr there ↦ (
                        let found = Any-from_list_any (is_same_rule x) so there in
                        let same_rule : x ≡ found.1 = is_same_rule-true x found.1 found.4 in
                        subst (Contains so) (sym same_rule ∙ is) (found.0, found.2, found.3))
                  ]
                ]),
          ))
      | inr added ↦ (
          let same : with_rule so x ≡ so ++ x ∷ [] = rw added refl in (
            λ h. Contains-push_cases so x r (subst (λ (rs : List RuleValue). Contains rs r) same h),
            λ h. subst (λ (rs : List RuleValue). Contains rs r) (sym same)
                (elim h [ inl before ↦ Contains-append_left so (x ∷ []) r before | inr is ↦ subst (Contains (so ++ x ∷ [])) is (Contains-push so x) ]),
          ))
    ]

-- of all rules the ones with a pattern are kept
kept-members : (rules so : List RuleValue) (r : RuleValue) → 1 ≤ length r.pattern → Contains (fold with_rule so rules) r ↔ (Contains so r ⊎ Contains rules r)
kept-members [] so r some = (λ h. inl h, λ h. elim h [ inl before ↦ before | inr (k, below, is) ↦ absurd (omega arith) ])
kept-members (x ∷ rules) so r some =
    let one = with_rule-members so x r some in
    let rest = kept-members rules (with_rule so x) r some in (
      λ h. elim (rest.0 h) [
        | inl early ↦ elim (one.0 early) [
          | inl before ↦ inl before
          | inr is ↦ inr (Contains-append_left (x ∷ []) rules r (subst (Contains (x ∷ [])) is (Contains-push [] x)))
        ]
        | inr later ↦ inr (Contains-append_right (x ∷ []) rules r later)
      ],
      λ h. rest.1 (elim h [
        | inl before ↦ inl (one.1 (inl before))
        | inr among ↦ elim (Contains-append_cases (x ∷ []) rules r among) [
          | inl here ↦ inl (one.1 (inr (in_one x r here)))
          | inr later ↦ inr later
        ]
      ]),
    )

-- rules among which the same ones have a pattern allow the same texts
same_answers : (some others : List RuleValue) (text : List ℕ) → ((r : RuleValue) → 1 ≤ length r.pattern → Contains some r → Contains others r) → ((r : RuleValue) → 1 ≤ length r.pattern → Contains others r → Contains some r) → RulesAllow some text → RulesAllow others text
same_answers some others text into from allow =
    elim allow [
      | inl silent ↦ inl (λ r listed applies. silent r (from r applies.nonempty listed) applies)
      | inr decider ↦ (
          let best = decider.1 in
          inr (
            decider.0,
            record {
              listed = into decider.0 (best.applies).nonempty best.listed;
              applies = best.applies;
              longest = λ other among applies. best.longest other (from other applies.nonempty among) applies;
            },
            decider.2,
          ))
    ]

pub kept-answers : (rules : List RuleValue) (text : List ℕ) → RulesAllow (fold with_rule [] rules) text ↔ RulesAllow rules text
kept-answers rules text =
    let members : (r : RuleValue) → 1 ≤ length r.pattern → Contains (fold with_rule [] rules) r ↔ (Contains [] r ⊎ Contains rules r) = kept-members rules [] in
    let into : (r : RuleValue) → 1 ≤ length r.pattern → Contains (fold with_rule [] rules) r → Contains rules r =
    λ r some h. elim ((members r some).0 h) [ inl (k, below, is) ↦ absurd (omega arith) | inr among ↦ among ] in
    let from : (r : RuleValue) → 1 ≤ length r.pattern → Contains rules r → Contains (fold with_rule [] rules) r = λ r some h. (members r some).1 (inr h) in (
      same_answers (fold with_rule [] rules) rules text into from,
      same_answers rules (fold with_rule [] rules) text from into,
    )
