-- What a map says once one more line is read.
use Rattle.std.proofs.Common.{◌≡◌, ℕ, ◌⊎◌, ◌++◌, Bool, true, false, List, [], ◌∷◌, Some, refl, sym, ap, ◌∙◌, inl, inr, append_assoc, IsTrue}
use Rattle.std.specs.List.{All}
use Rattle.std.proofs.lemmas.List.Elements.{All-nil, All-head, All-tail, All-push, All-pop}
use Rattle.fetcher.specs.declared.outcome.Outcome.TheVariants.{Page, Moved, Leaf, Fault}
use Rattle.address.specs.Address.{origin_of}
use Rattle.robots_rules.specs.Groups.{rules_in}
use Rattle.site_maps.specs.RuleLines.{file_head, file_line}
use Rattle.site_maps.specs.Lines.{Statement, skipped, page, edge, moved, leaf, fault, robots, closed, rule}
use Rattle.site_inputs.specs.Names.{named}
use Rattle.site_maps.specs.Maps.{edges_below, answers_of, file_below, rules_of, is_between, is_ruling, HasAbove, IsPage, IsRobots}

-- ---- lists

-- the last element and what is before it are the list's own
pub snoc_same : {A : Type 0} (xs ys : List A) (x y : A) → xs ++ x ∷ [] ≡ ys ++ y ∷ [] → (xs ≡ ys) × (x ≡ y)
snoc_same [] [] x y e = (refl, cc)
snoc_same [] (b ∷ ys) x y e = absurd (no_nil ys y cc)
  where
    no_nil : {A : Type 0} (zs : List A) (z : A) → ¬ ([] ≡ zs ++ z ∷ [])
    no_nil [] z h = cc
    no_nil (w ∷ zs) z h = cc
snoc_same (a ∷ xs) [] x y e = absurd (no_nil xs x cc)
  where
    no_nil : {A : Type 0} (zs : List A) (z : A) → ¬ (zs ++ z ∷ [] ≡ [])
    no_nil [] z h = cc
    no_nil (w ∷ zs) z h = cc
snoc_same (a ∷ xs) (b ∷ ys) x y e = let h = snoc_same xs ys x y cc in let p = h.0 in (cc, h.1)

-- a list is empty or has a last element
pub snoc_view : {A : Type 0} (xs : List A) → (xs ≡ []) ⊎ ((front : List A) × (end : A) × (xs ≡ front ++ end ∷ []))
snoc_view [] = inl refl
snoc_view (x ∷ xs) = elim (snoc_view xs) [ inl e ↦ inr ([], x, ap (λ l. x ∷ l) e) | inr h ↦ inr (x ∷ h.0, h.1, ap (λ l. x ∷ l) h.2) ]

-- ---- the lines that a page line's edges come from

-- a line of another kind ends them
pub edges_below-stop : (more : List Statement) (s : Statement) (rest : List Statement) → is_between s ≡ false → edges_below (more ++ s ∷ rest) ≡ edges_below more
edges_below-stop [] skipped rest h = cc
edges_below-stop [] (edge kind text) rest h = cc
edges_below-stop [] other rest h = refl
edges_below-stop (skipped ∷ more) s rest h = edges_below-stop more s rest h
edges_below-stop (edge kind text ∷ more) s rest h = ap (λ l. record { target = named text; kind = kind } ∷ l) (edges_below-stop more s rest h)
edges_below-stop (other ∷ more) s rest h = refl

-- edge and skipped lines don't
pub edges_below-go : (between more : List Statement) → All (λ s. IsTrue (is_between s)) between → edges_below (between ++ more) ≡ edges_below between ++ edges_below more
edges_below-go [] more h = refl
edges_below-go (skipped ∷ between) more h = edges_below-go between more (All-tail (λ s. IsTrue (is_between s)) skipped between h)
edges_below-go (edge kind text ∷ between) more h =
    ap (λ l. record { target = named text; kind = kind } ∷ l) (edges_below-go between more (All-tail (λ s. IsTrue (is_between s)) (edge kind text) between h))
edges_below-go (other ∷ between) more h = absurd (let k = All-head (λ s. IsTrue (is_between s)) other between h in cc)

-- nor does a skipped line at the end
pub edges_below-skipped : (more : List Statement) → edges_below (more ++ skipped ∷ []) ≡ edges_below more
edges_below-skipped [] = refl
edges_below-skipped (skipped ∷ more) = edges_below-skipped more
edges_below-skipped (edge kind text ∷ more) = ap (λ l. record { target = named text; kind = kind } ∷ l) (edges_below-skipped more)
edges_below-skipped (other ∷ more) = refl

-- ---- the answers

-- a line that isn't an edge line leaves the answers above it as they are
pub answers_of-append : (above : List Statement) (s : Statement) (rest : List Statement) → is_between s ≡ false → answers_of (above ++ s ∷ rest) ≡ answers_of above ++ answers_of (s ∷ rest)
answers_of-append [] s rest h = refl
answers_of-append (page status text ∷ above) s rest h =
    let e = edges_below-stop above s rest h in let t = answers_of-append above s rest h in cc
answers_of-append (moved status text target ∷ above) s rest h = ap (λ l. (named text, Moved status (named target)) ∷ l) (answers_of-append above s rest h)
answers_of-append (leaf status text ∷ above) s rest h = ap (λ l. (named text, Leaf status) ∷ l) (answers_of-append above s rest h)
answers_of-append (fault kind text ∷ above) s rest h = ap (λ l. (named text, Fault kind) ∷ l) (answers_of-append above s rest h)
answers_of-append (other ∷ above) s rest h = answers_of-append above s rest h

-- a skipped line states none
pub answers_of-skipped : (above : List Statement) → answers_of (above ++ skipped ∷ []) ≡ answers_of above
answers_of-skipped [] = refl
answers_of-skipped (page status text ∷ above) =
    let e = edges_below-skipped above in let t = answers_of-skipped above in cc
answers_of-skipped (moved status text target ∷ above) = ap (λ l. (named text, Moved status (named target)) ∷ l) (answers_of-skipped above)
answers_of-skipped (leaf status text ∷ above) = ap (λ l. (named text, Leaf status) ∷ l) (answers_of-skipped above)
answers_of-skipped (fault kind text ∷ above) = ap (λ l. (named text, Fault kind) ∷ l) (answers_of-skipped above)
answers_of-skipped (other ∷ above) = answers_of-skipped above

-- edge and skipped lines by themselves state none
pub answers_of-between : (between : List Statement) → All (λ s. IsTrue (is_between s)) between → answers_of between ≡ []
answers_of-between [] h = refl
answers_of-between (skipped ∷ between) h = answers_of-between between (All-tail (λ s. IsTrue (is_between s)) skipped between h)
answers_of-between (edge kind text ∷ between) h = answers_of-between between (All-tail (λ s. IsTrue (is_between s)) (edge kind text) between h)
answers_of-between (other ∷ between) h = absurd (let k = All-head (λ s. IsTrue (is_between s)) other between h in cc)

-- the last answer is that of the page line that is open
pub answers_of-open : (above : List Statement) (status : ℕ) (text : List ℕ) (between : List Statement) → All (λ s. IsTrue (is_between s)) between
    → answers_of (above ++ page status text ∷ between) ≡ answers_of above ++ (named text, Page status (edges_below between)) ∷ []
answers_of-open above status text between h =
    answers_of-append above (page status text) between refl
    ∙ ap (λ l. answers_of above ++ (named text, Page status (edges_below between)) ∷ l) (answers_of-between between h)

-- ---- the lines that an origin's rules come from

-- a line of another kind ends them
pub file_below-stop : (more : List Statement) (s : Statement) (rest : List Statement) → is_ruling s ≡ false → file_below (more ++ s ∷ rest) ≡ file_below more
file_below-stop [] skipped rest h = cc
file_below-stop [] (rule kind pattern) rest h = cc
file_below-stop [] other rest h = refl
file_below-stop (skipped ∷ more) s rest h = file_below-stop more s rest h
file_below-stop (rule kind pattern ∷ more) s rest h = ap (λ l. file_line kind pattern ++ l) (file_below-stop more s rest h)
file_below-stop (other ∷ more) s rest h = refl

-- rule and skipped lines don't
pub file_below-go : (between more : List Statement) → All (λ s. IsTrue (is_ruling s)) between → file_below (between ++ more) ≡ file_below between ++ file_below more
file_below-go [] more h = refl
file_below-go (skipped ∷ between) more h = file_below-go between more (All-tail (λ s. IsTrue (is_ruling s)) skipped between h)
file_below-go (rule kind pattern ∷ between) more h =
    ap (λ l. file_line kind pattern ++ l) (file_below-go between more (All-tail (λ s. IsTrue (is_ruling s)) (rule kind pattern) between h))
    ∙ sym (append_assoc (file_line kind pattern) (file_below between) (file_below more))
file_below-go (other ∷ between) more h = absurd (let k = All-head (λ s. IsTrue (is_ruling s)) other between h in cc)

-- nor does a skipped line at the end
pub file_below-skipped : (more : List Statement) → file_below (more ++ skipped ∷ []) ≡ file_below more
file_below-skipped [] = refl
file_below-skipped (skipped ∷ more) = file_below-skipped more
file_below-skipped (rule kind pattern ∷ more) = ap (λ l. file_line kind pattern ++ l) (file_below-skipped more)
file_below-skipped (other ∷ more) = refl

-- ---- the rule sets

-- a line that isn't a rule line leaves the rule sets above it as they are
pub rules_of-append : (above : List Statement) (s : Statement) (rest : List Statement) → is_ruling s ≡ false → rules_of (above ++ s ∷ rest) ≡ rules_of above ++ rules_of (s ∷ rest)
rules_of-append [] s rest h = refl
rules_of-append (robots text ∷ above) s rest h =
    let e = file_below-stop above s rest h in let t = rules_of-append above s rest h in cc
rules_of-append (closed text ∷ above) s rest h = let t = rules_of-append above s rest h in cc
rules_of-append (other ∷ above) s rest h = rules_of-append above s rest h

-- a skipped line states none
pub rules_of-skipped : (above : List Statement) → rules_of (above ++ skipped ∷ []) ≡ rules_of above
rules_of-skipped [] = refl
rules_of-skipped (robots text ∷ above) =
    let e = file_below-skipped above in let t = rules_of-skipped above in cc
rules_of-skipped (closed text ∷ above) = let t = rules_of-skipped above in cc
rules_of-skipped (other ∷ above) = rules_of-skipped above

-- rule and skipped lines by themselves state none
pub rules_of-between : (between : List Statement) → All (λ s. IsTrue (is_ruling s)) between → rules_of between ≡ []
rules_of-between [] h = refl
rules_of-between (skipped ∷ between) h = rules_of-between between (All-tail (λ s. IsTrue (is_ruling s)) skipped between h)
rules_of-between (rule kind pattern ∷ between) h = rules_of-between between (All-tail (λ s. IsTrue (is_ruling s)) (rule kind pattern) between h)
rules_of-between (other ∷ between) h = absurd (let k = All-head (λ s. IsTrue (is_ruling s)) other between h in cc)

-- the last rule set is that of the robots line that is open
pub rules_of-open : (above : List Statement) (text : List ℕ) (between : List Statement) → All (λ s. IsTrue (is_ruling s)) between
    → rules_of (above ++ robots text ∷ between) ≡ rules_of above ++ (origin_of (named text), rules_in (file_head ++ file_below between)) ∷ []
rules_of-open above text between h =
    rules_of-append above (robots text) between refl
    ∙ ap (λ l. rules_of above ++ (origin_of (named text), rules_in (file_head ++ file_below between)) ∷ l) (rules_of-between between h)

-- ---- the line above that others belong to

-- such a line is above what follows it
pub head_above : (IsHead : Statement → Type 0) (passes : Statement → Bool) (above : List Statement) (head : Statement) → IsHead head → HasAbove IsHead passes (above ++ head ∷ [])
head_above IsHead passes above head is = (above, head, [], refl, is, All-nil (λ s. IsTrue (passes s)))

-- a line that passes leaves it above
pub still_above : (IsHead : Statement → Type 0) (passes : Statement → Bool) (above : List Statement) (s : Statement) → passes s ≡ true → HasAbove IsHead passes above
    → HasAbove IsHead passes (above ++ s ∷ [])
still_above IsHead passes above s h (higher, head, between, e, is, all) =
    (higher, head, between ++ s ∷ [], ap (λ l. l ++ s ∷ []) e ∙ append_assoc higher (head ∷ between) (s ∷ []), is, All-push (λ x. IsTrue (passes x)) between s all h)

-- with the last line taken off, the lines between are as before, or the page line was the last
last_between : (above : List Statement) (s : Statement) (higher : List Statement) (p : Statement) (between : List Statement)
    → above ++ s ∷ [] ≡ higher ++ p ∷ between
    → ((above ≡ higher) × (s ≡ p)) ⊎ ((front : List Statement) × (between ≡ front ++ s ∷ []) × (above ≡ higher ++ p ∷ front))
last_between above s higher p between e =
    elim (snoc_view between) [
      | inl none ↦ inl (snoc_same above higher s p (e ∙ ap (λ l. higher ++ p ∷ l) none))
      | inr some ↦
          let h = snoc_same above (higher ++ p ∷ some.0) s some.1 (e ∙ ap (λ l. higher ++ p ∷ l) some.2 ∙ sym (append_assoc higher (p ∷ some.0) (some.1 ∷ []))) in
          inr (some.0, some.2 ∙ ap (λ x. some.0 ++ x ∷ []) (sym h.1), h.0)
    ]

-- a line that passes brings none above
pub was_above : (IsHead : Statement → Type 0) (passes : Statement → Bool) (above : List Statement) (s : Statement) → ((head : Statement) → IsHead head → passes head ≡ false) → passes s ≡ true
    → HasAbove IsHead passes (above ++ s ∷ []) → HasAbove IsHead passes above
was_above IsHead passes above s apart h (higher, head, between, e, is, all) =
    elim (last_between above s higher head between e) [
      | inl same ↦ absurd (let k = ap passes same.1 in let n = apart head is in cc)
      | inr some ↦ (higher, head, some.0, some.2, is, (All-pop (λ x. IsTrue (passes x)) between some.0 (Some s) some.1 all).0)
    ]

-- another line is one itself or ends what belongs to it
pub ends_above : (IsHead : Statement → Type 0) (passes : Statement → Bool) (above : List Statement) (s : Statement) → passes s ≡ false → ¬ IsHead s → ¬ HasAbove IsHead passes (above ++ s ∷ [])
ends_above IsHead passes above s h other (higher, head, between, e, is, all) =
    elim (last_between above s higher head between e) [
      | inl same ↦ other (rw same.1 is)
      | inr some ↦ let k = (All-pop (λ x. IsTrue (passes x)) between some.0 (Some s) some.1 all).1 in cc
    ]

-- a page line isn't between
pub page_apart : (head : Statement) → IsPage head → is_between head ≡ false
page_apart head (status, text, e) = ap is_between e

-- a robots line is no rule line
pub robots_apart : (head : Statement) → IsRobots head → is_ruling head ≡ false
robots_apart head (text, e) = ap is_ruling e
