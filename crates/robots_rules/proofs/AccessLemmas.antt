-- Which of the rules that were gone through decide.
use Rattle.std.proofs.Common.{Option, Some, None, leb-true, le-leb, not, ◌≡◌, ◌≢◌, ◌↔◌, ℕ, ◌≤◌, ◌<◌, ◌⊎◌, Bool, true, false, ◌&&◌, ◌||◌, ◌==◌, List, [], ◌∷◌, ◌++◌, length, get_or, IsTrue, Contains, sym, refl, ap, ◌∙◌, subst, inl, inr, arith}
use Rattle.std.proofs.lemmas.Bool.{cases_Bool, both_ways, or_cases, or_left, or_right, or_parts, and_parts, and_from, eqb-true, eq-eqb, false_from_ne_true}
use Rattle.std.proofs.lemmas.List.Elements.{Contains-get_or, Contains-append_left, Contains-push, Contains-push_cases}
use Rattle.std.proofs.lemmas.List.Folds.{Any-from_list_any, list_any-from_Any}
use Rattle.std.proofs.lemmas.List.Sums.{AllPass-from_list_all, list_all-from_AllPass}
use Rattle.std.specs.Prelude.{nat_le, IfSome}
use Rattle.std.specs.List.{list_any}
use Rattle.part_match.specs.Cuts.{is_match}
use Rattle.part_match.proofs.Decided.{is_match-cuts}
use Rattle.robots_rules.specs.Octets.{normal_path}
use Rattle.robots_rules.specs.Patterns.{is_run, takes, matching_parts}
use Rattle.robots_rules.specs.Access.{RuleValue, RuleSetValue, Applies, RulesAllow, IsLongest, IsAllowed, applies, is_longest, rules_allow, is_allowed}

-- a rule that matches and has so many octets
pub record Reaches (text : List ℕ) (done : List RuleValue) (longest : ℕ) (rule : RuleValue) : Type 0 where
  pub listed : Contains done rule
  pub applies : Applies text rule
  pub octets : length rule.pattern ≡ longest

-- after these rules, the longest that match have so many octets, and this is the answer
pub record AnswersFor (text : List ℕ) (done : List RuleValue) (longest : ℕ) (answer : Bool) : Type 0 where
  pub top : (rule : RuleValue) → Contains done rule → Applies text rule → length rule.pattern ≤ longest
  pub reached : (longest ≡ 0) ⊎ ((rule : RuleValue) × Reaches text done longest rule)
  pub yes : answer ≡ true → (longest ≡ 0) ⊎ ((rule : RuleValue) × Reaches text done longest rule × (rule.allows ≡ true))
  pub no : answer ≡ false → (longest ≢ 0) × ((rule : RuleValue) → Reaches text done longest rule → rule.allows ≡ false)

pub AnswersFor-nil : (text : List ℕ) → AnswersFor text [] 0 true
AnswersFor-nil text =
    record {
      top = λ rule (k, below, is) m. absurd (omega arith);
      reached = inl refl;
      yes = λ e. inl refl;
      no = λ e. cc;
    }

Reaches-push : (text : List ℕ) (done : List RuleValue) (new : RuleValue) (longest : ℕ) (rule : RuleValue) → Reaches text done longest rule → Reaches text (done ++ new ∷ []) longest rule
Reaches-push text done new longest rule r = record { listed = Contains-append_left done (new ∷ []) rule r.listed; applies = r.applies; octets = r.octets }

pub AnswersFor-skip : (text : List ℕ) (done : List RuleValue) (new : RuleValue) (longest : ℕ) (answer : Bool) → AnswersFor text done longest answer → (Applies text new → length new.pattern < longest) → AnswersFor text (done ++ new ∷ []) longest answer
AnswersFor-skip text done new longest answer so short =
    record {
      top = λ rule held m. elim (Contains-push_cases done new rule held) [ inl before ↦ so.top rule before m | inr is ↦ (let less = short (subst (Applies text) (sym is) m) in let same = ap (λ (r : RuleValue). length r.pattern) is in omega arith) ];
      reached = elim so.reached [ inl none ↦ inl none | inr r ↦ inr (r.0, Reaches-push text done new longest r.0 r.1) ];
      yes = λ e. elim (so.yes e) [ inl none ↦ inl none | inr r ↦ inr (r.0, Reaches-push text done new longest r.0 r.1, r.2) ];
      no = λ e. (
        (so.no e).0,
        λ rule r. elim (Contains-push_cases done new rule r.listed) [
          | inl before ↦ (so.no e).1 rule (record { listed = before; applies = r.applies; octets = r.octets })
          | inr is ↦ (let less = short (subst (Applies text) (sym is) r.applies) in let same = ap (λ (r : RuleValue). length r.pattern) is in let o = r.octets in absurd (omega arith))
        ],
      );
    }

pub AnswersFor-take : (text : List ℕ) (done : List RuleValue) (new : RuleValue) (longest : ℕ) (answer : Bool) → AnswersFor text done longest answer → longest ≤ length new.pattern → Applies text new → AnswersFor text (done ++ new ∷ []) (length new.pattern) (new.allows || (answer && (length new.pattern == longest)))
AnswersFor-take text done new longest answer so order match =
    let this : Reaches text (done ++ new ∷ []) (length new.pattern) new = record { listed = Contains-push done new; applies = match; octets = refl } in
    record {
      top = λ rule held m. elim (Contains-push_cases done new rule held) [ inl before ↦ (let below = so.top rule before m in omega arith) | inr is ↦ (let same = ap (λ (r : RuleValue). length r.pattern) is in omega arith) ];
      reached = inr (new, this);
      yes = λ e. elim (or_cases _ _ e) [
        | inl own ↦ inr (new, this, own)
        | inr old ↦ (let both = and_parts _ _ old in let same : length new.pattern ≡ longest = eqb-true _ _ both.1 in
            elim (so.yes both.0) [
              | inl none ↦ (let some = match.nonempty in absurd (omega arith))
              | inr r ↦ inr (r.0, subst (λ n. Reaches text (done ++ new ∷ []) n r.0) (sym same) (Reaches-push text done new longest r.0 r.1), r.2)
            ])
      ];
      no = λ e. (
        (let some = match.nonempty in let n : length new.pattern ≢ 0 = λ z. absurd (omega arith) in n),
        λ rule r. let parts = or_parts _ _ e in elim (Contains-push_cases done new rule r.listed) [
          | inl before ↦ (
              let below = so.top rule before r.applies in
              let o = r.octets in
              let same : length new.pattern ≡ longest = omega arith in
              elim (cases_Bool answer) [
                | inl true_before ↦ absurd (both_ways _ parts.1 (and_from _ _ true_before (eq-eqb _ _ same)))
                | inr false_before ↦ (so.no false_before).1 rule (record { listed = before; applies = r.applies; octets = r.octets ∙ same })
              ])
          | inr is ↦ ap (λ (r : RuleValue). r.allows) (sym is) ∙ parts.0
        ],
      );
    }

pub RulesAllow_from : (text : List ℕ) (rules : List RuleValue) (longest : ℕ) (answer : Bool) → AnswersFor text rules longest answer → IsTrue answer ↔ RulesAllow rules text
RulesAllow_from text rules longest answer so = (
  λ e. elim (so.yes e) [
    | inl none ↦ inl (λ rule held m. let below = so.top rule held m in (let some = m.nonempty in absurd (omega arith)))
    | inr r ↦ inr (r.0, record { listed = r.1.listed; applies = r.1.applies; longest = λ other held m. let below = so.top other held m in let o = r.1.octets in omega arith }, r.2)
  ],
  λ allow. elim (cases_Bool answer) [
    | inl e ↦ e
    | inr e ↦ elim so.reached [
      | inl none ↦ absurd ((so.no e).0 none)
      | inr best ↦ elim allow [
        | inl none ↦ absurd (none best.0 best.1.listed best.1.applies)
        | inr decider ↦ (
            let above = (decider.1).longest best.0 best.1.listed best.1.applies in
            let below = so.top decider.0 (decider.1).listed (decider.1).applies in
            let o = best.1.octets in
            let refused = (so.no e).1 decider.0 (record { listed = (decider.1).listed; applies = (decider.1).applies; octets = (let z : length (decider.0).pattern ≡ longest = omega arith in z) }) in
            absurd (both_ways _ refused decider.2))
      ]
    ]
  ],
)

-- ---- the definitions as values

-- a rule with a pattern applies if its parts match
pub applies_by_value : (text : List ℕ) (rule : RuleValue) (b : Bool) → 1 ≤ length rule.pattern → b ≡ is_match is_run takes (matching_parts rule.pattern) text → IsTrue b ↔ Applies text rule
applies_by_value text rule b some is =
    let cut = is_match-cuts is_run takes (matching_parts rule.pattern) text in
    (λ e. record { nonempty = some; matches = cut.0 (sym is ∙ e) }, λ (a : Applies text rule). is ∙ cut.1 a.matches)

-- the same for every text with a front
pub applies_if : (answer : Option Bool) (parts front : List ℕ) (rule : RuleValue) → 1 ≤ length rule.pattern → parts ≡ matching_parts rule.pattern
    → IfSome answer (λ b. (rest : List ℕ) → b ≡ is_match is_run takes parts (front ++ rest)) → IfSome answer (λ b. (rest : List ℕ) → IsTrue b ↔ Applies (front ++ rest) rule)
applies_if None parts front rule some whole h = tt
applies_if (Some b) parts front rule some whole h = λ rest. applies_by_value (front ++ rest) rule b some (h rest ∙ ap (λ ps. is_match is_run takes ps (front ++ rest)) whole)

pub applies-is : (text : List ℕ) (rule : RuleValue) → IsTrue (applies text rule) ↔ Applies text rule
applies-is text rule =
    let cut = is_match-cuts is_run takes (matching_parts rule.pattern) text in (
      λ e. let both = and_parts _ _ e in record { nonempty = leb-true _ _ both.0; matches = cut.0 both.1 },
      λ (a : Applies text rule). and_from _ _ (le-leb _ _ a.nonempty) (cut.1 a.matches),
    )

-- some rule passes a test that means this
some_by_test : (P : RuleValue → Type 0) (p : RuleValue → Bool) (rules : List RuleValue) → ((rule : RuleValue) → IsTrue (p rule) ↔ P rule) → IsTrue (list_any p rules) ↔ ((rule : RuleValue) × Contains rules rule × P rule)
some_by_test P p rules means = (
  λ e. (let found = Any-from_list_any p rules e in (found.1, (found.0, found.2, found.3), (means found.1).0 found.4)),
  λ (rule, listed, holds). list_any-from_Any p rules (listed.0, rule, listed.1, listed.2, (means rule).1 holds),
)

not-true : (b : Bool) → not b ≡ true → b ≡ false
not-true true e = cc
not-true false e = refl

-- no rule does
none_by_test : (P : RuleValue → Type 0) (p : RuleValue → Bool) (rules : List RuleValue) → ((rule : RuleValue) → IsTrue (p rule) ↔ P rule) → IsTrue (not (list_any p rules)) ↔ ((rule : RuleValue) → Contains rules rule → ¬ P rule)
none_by_test P p rules means =
    let some = some_by_test P p rules means in (
      λ e rule listed holds. both_ways (list_any p rules) (not-true _ e) (some.1 (rule, listed, holds)),
      λ none. ap not (false_from_ne_true _ (λ e. let found = some.0 e in none found.0 found.1 found.2)),
    )

-- the tests of all rules say that the rule is the longest of those that apply
is_longest-is : (rules : List RuleValue) (text : List ℕ) (rule : RuleValue) → Contains rules rule → IsTrue (is_longest rules text rule) ↔ IsLongest rules text rule
is_longest-is rules text rule listed = (
  λ e.
      let both = and_parts _ _ e in
      record {
        listed = listed;
        applies = (applies-is text rule).0 both.0;
        longest = λ other among matches.
            let passes = subst (λ o. (not (applies text o) || nat_le (length o.pattern) (length rule.pattern)) ≡ true) among.2 (AllPass-from_list_all (λ o. not (applies text o) || nat_le (length o.pattern) (length rule.pattern)) rules both.1 among.0 other among.1) in
            elim (or_cases _ _ passes) [
              | inl silent ↦ absurd (both_ways (applies text other) (not-true _ silent) ((applies-is text other).1 matches))
              | inr below ↦ leb-true _ _ below
            ];
      },
  λ (l : IsLongest rules text rule).
      and_from _ _ ((applies-is text rule).1 l.applies)
      (list_all-from_AllPass _ rules (λ k d below.
      let other = get_or rules k d in
      elim (cases_Bool (applies text other)) [
        | inl yes_ ↦ or_right _ _ (le-leb _ _ (l.longest other (Contains-get_or rules k d below) ((applies-is text other).0 yes_)))
        | inr no_ ↦ or_left _ _ (ap not no_)
      ])),
)

-- the value is true exactly of the paths that are allowed
pub rules_allow-is : (rules : List RuleValue) (text : List ℕ) → IsTrue (rules_allow rules text) ↔ RulesAllow rules text
unfolding rules_allow
rules_allow-is rules text =
    let none = none_by_test (Applies text) (applies text) rules (applies-is text) in (
      λ e. elim (or_cases _ _ e) [
        | inl silent ↦ inl (none.0 silent)
        | inr some ↦ (
            let found = Any-from_list_any (λ rule. is_longest rules text rule && rule.allows) rules some in
            let both = and_parts _ _ found.4 in
            inr (found.1, (is_longest-is rules text found.1 (found.0, found.2, found.3)).0 both.0, both.1))
      ],
      λ allow. elim allow [
        | inl silent ↦ or_left _ _ (none.1 silent)
        | inr decider ↦ (
            let rule = decider.0 in
            let listed = (decider.1).listed in
            or_right _ _ (list_any-from_Any (λ r. is_longest rules text r && r.allows) rules
            (listed.0, rule, listed.1, listed.2, and_from _ _ ((is_longest-is rules text rule listed).1 decider.1) decider.2)))
      ],
    )

pub is_allowed-is : (set : RuleSetValue) (path : List ℕ) → IsTrue (is_allowed set path) ↔ IsAllowed set path
is_allowed-is set path =
    let rules = rules_allow-is set.rules (normal_path path) in (
      λ e. (let both = and_parts _ _ e in (not-true _ both.0, rules.0 both.1)),
      λ (opened, allow). and_from _ _ (ap not opened) (rules.1 allow),
    )

pub allowed_by_value : (set : RuleSetValue) (path : List ℕ) (b : Bool) → b ≡ is_allowed set path → IsTrue b ↔ IsAllowed set path
allowed_by_value set path b is = rw is (is_allowed-is set path)

pub closed_value : (set : RuleSetValue) (path : List ℕ) → set.closed ≡ true → false ≡ is_allowed set path
closed_value set path closed = rw closed refl

-- if it isn't closed, its rules say what is allowed
pub opened_value : (set : RuleSetValue) (path : List ℕ) (rules : List RuleValue) (text : List ℕ) (b : Bool) → set.closed ≡ false → b ≡ rules_allow rules text → rules ≡ set.rules → text ≡ normal_path path
    → b ≡ is_allowed set path
opened_value set path rules text b opened is same normal = rw opened (is ∙ ap (λ rs. rules_allow rs text) same ∙ ap (rules_allow set.rules) normal)

-- if nothing is stated, every path is allowed
pub nothing_stated : (closed : Bool) (rules : List RuleValue) (text : List ℕ) → closed ≡ false → (length rules == 0) ≡ true → true ≡ (not closed && rules_allow rules text)
unfolding rules_allow
nothing_stated closed [] text opened none = rw opened refl
nothing_stated closed (rule ∷ rules) text opened none = let n : length (rule ∷ rules) ≡ 0 = eqb-true _ _ none in absurd (omega arith)

-- what is true of the same is the same
pub same_truth : (P : Type 0) (a b : Bool) → IsTrue a ↔ P → IsTrue b ↔ P → a ≡ b
same_truth P a b f g = go a b (λ e. g.1 (f.0 e)) (λ e. f.1 (g.0 e))
  where
    go : (x y : Bool) → (x ≡ true → y ≡ true) → (y ≡ true → x ≡ true) → x ≡ y
    go true y f g = sym (f refl)
    go false true f g = g refl
    go false false f g = refl
