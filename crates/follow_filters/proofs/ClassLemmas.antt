-- Reading the items of a class from the left.
use Rattle.std.proofs.Common.{◌≡◌, ◌≢◌, ◌⊎◌, ⊎_elim, if◌then◌else◌, get_or, drop, length, ◌∙◌, ℕ, ◌<◌, ◌≤◌, ◌==◌, Bool, true, false, inl, inr, List, [], ◌∷◌, ◌++◌, Option, Some, None, option_map, is_some, nat_lt, refl, sym, ap, append_assoc, arith}
use Rattle.std.proofs.lemmas.Bool.Decides.{nat_tests, Decides-eqb}
use Rattle.std.proofs.lemmas.Bool.{cases_Bool}
use Rattle.follow_filters.specs.declared.class.Range.{Range}
use Rattle.follow_filters.specs.declared.elements.ElementFault.{ElementFault}
use Rattle.follow_filters.specs.Classes.{bracketed_class, class_with, ranges_of, range, then_range}
use Rattle.follow_filters.specs.Elements.{IsFaultOf}

-- what is read so far, and what is still to be read
abbrev pub behind : {X : Type 0} → List X → Option (List X) → Option (List X)
behind front rest = option_map (λ xs. front ++ xs) rest

pub behind-more : {X : Type 0} (front : List X) (x : X) (rest : Option (List X)) → behind (front ++ x ∷ []) rest ≡ behind front (option_map (λ xs. x ∷ xs) rest)
behind-more front x None = refl
behind-more front x (Some xs) = ap Some (append_assoc front (x ∷ []) xs)

pub behind-nothing : {X : Type 0} (rest : Option (List X)) → behind [] rest ≡ rest
behind-nothing None = refl
behind-nothing (Some xs) = refl

-- an item `x-y`
pub ranges_of-span : (items : List ℕ) → 3 ≤ length items → get_or items 1 0 ≡ 45 → ranges_of items ≡ then_range (range (get_or items 0 0) (get_or items 2 0)) (ranges_of (drop 3 items))
ranges_of-span [] long dash = absurd (omega arith)
ranges_of-span (x ∷ []) long dash = absurd (omega arith)
ranges_of-span (x ∷ d ∷ []) long dash = absurd (omega arith)
ranges_of-span (x ∷ d ∷ y ∷ items) long dash = ap (λ b. if b then then_range (range x y) (ranges_of items) else then_range (range x x) (ranges_of (d ∷ y ∷ items))) ((Decides-eqb d 45).1 dash)

-- any other item
pub ranges_of-one : (items : List ℕ) → 1 ≤ length items → (length items < 3) ⊎ (get_or items 1 0 ≢ 45) → ranges_of items ≡ then_range (range (get_or items 0 0) (get_or items 0 0)) (ranges_of (drop 1 items))
ranges_of-one [] long other = absurd (omega arith)
ranges_of-one (x ∷ []) long other = refl
ranges_of-one (x ∷ d ∷ []) long other = refl
ranges_of-one (x ∷ d ∷ y ∷ items) long other =
    let differs : (d == 45) ≡ false = ⊎_elim (λ short. absurd (omega arith)) (λ no. ⊎_elim (λ yes. absurd (no ((Decides-eqb d 45).0 yes))) (λ f. f) (cases_Bool (d == 45))) other in
    ap (λ b. if b then then_range (range x y) (ranges_of items) else then_range (range x x) (ranges_of (d ∷ y ∷ items))) differs

-- one more item is read
pub ranges_of-more : (front : List Range) (first : Range) (items rest : List ℕ) → first.low ≤ first.high → ranges_of items ≡ then_range first (ranges_of rest) → behind (front ++ first ∷ []) (ranges_of rest) ≡ behind front (ranges_of items)
ranges_of-more front first items rest ordered is =
    let straight : nat_lt first.high first.low ≡ false = grind (arith, nat_tests) in
    behind-more front first (ranges_of rest)
    ∙ ap (behind front) (sym (is ∙ ap (λ b. if b then None else option_map (λ rs. first ∷ rs) (ranges_of rest)) straight))

-- an item whose greater byte comes first
pub bad_range : (first : Range) (others : Option (List Range)) → first.high < first.low → then_range first others ≡ None
bad_range first others crossed =
    let bad : nat_lt first.high first.low ≡ true = grind (arith, nat_tests) in
    ap (λ b. if b then None else option_map (λ rs. first ∷ rs) others) bad

-- ---- a class

-- with a `!` in front
pub bracketed_class-negated : (inner : List ℕ) → 1 ≤ length inner → get_or inner 0 0 ≡ 33 → bracketed_class inner ≡ class_with true (ranges_of (drop 1 inner))
bracketed_class-negated [] some bang = absurd (omega arith)
bracketed_class-negated (x ∷ items) some bang = ap (λ b. if b then class_with true (ranges_of items) else class_with false (ranges_of (x ∷ items))) ((Decides-eqb x 33).1 bang)

-- and with none
pub bracketed_class-plain : (inner : List ℕ) → (length inner < 1) ⊎ (get_or inner 0 0 ≢ 33) → bracketed_class inner ≡ class_with false (ranges_of inner)
bracketed_class-plain [] other = refl
bracketed_class-plain (x ∷ items) (inl short) = absurd (omega arith)
bracketed_class-plain (x ∷ items) (inr other) =
    let differs : (x == 33) ≡ false = ⊎_elim (λ yes. absurd (other ((Decides-eqb x 33).0 yes))) (λ f. f) (cases_Bool (x == 33)) in
    ap (λ b. if b then class_with true (ranges_of items) else class_with false (ranges_of (x ∷ items))) differs

pub class_fault : (inner items : List ℕ) (is_negated : Bool) (fault : ElementFault) → bracketed_class inner ≡ class_with is_negated (ranges_of items)
    → IsFaultOf (ranges_of items) fault → IsFaultOf (bracketed_class inner) fault
class_fault inner items is_negated fault is (inl bad) = inl (bad.0, is ∙ ap (class_with is_negated) bad.1)
class_fault inner items is_negated fault is (inr memory) = inr memory

pub no_class : (is_negated : Bool) (ranges : List Range) → length ranges ≡ 0 → class_with is_negated (Some ranges) ≡ None
no_class is_negated [] none = refl
no_class is_negated (r ∷ rs) none = absurd (omega arith)

pub some_class : (is_negated : Bool) (ranges : List Range) → length ranges ≢ 0
    → class_with is_negated (Some ranges) ≡ Some (record { is_negated = is_negated; ranges = ranges })
some_class is_negated [] some = absurd (some refl)
some_class is_negated (r ∷ rs) some = refl

-- ---- whether a class can be read

-- a range that isn't crossed is read if those after it are
pub then_range-some : (first : Range) (others : Option (List Range)) → first.low ≤ first.high → is_some (then_range first others) ≡ is_some others
then_range-some first others ordered =
    let straight : nat_lt first.high first.low ≡ false = grind (arith, nat_tests) in
    ap (λ b. is_some (if b then None else option_map (λ rs. first ∷ rs) others)) straight ∙ mapped others
  where
    mapped : (o : Option (List Range)) → is_some (option_map (λ (rs : List Range). first ∷ rs) o) ≡ is_some o
    mapped None = refl
    mapped (Some rs) = refl

-- ranges make a class if there is one
then_class : (is_negated : Bool) (first : Range) (others : Option (List Range)) → is_some (class_with is_negated (then_range first others)) ≡ is_some (then_range first others)
then_class is_negated first others = go (nat_lt first.high first.low) others
  where
    go : (b : Bool) (o : Option (List Range)) → is_some (class_with is_negated (if b then None else option_map (λ (rs : List Range). first ∷ rs) o)) ≡ is_some (if b then None else option_map (λ (rs : List Range). first ∷ rs) o)
    go true o = refl
    go false None = refl
    go false (Some rs) = refl

-- items make a class if there are some and they are ranges
pub class_with-some : (is_negated : Bool) (items : List ℕ) → length items ≢ 0 → is_some (class_with is_negated (ranges_of items)) ≡ is_some (ranges_of items)
class_with-some is_negated [] full = absurd (full refl)
class_with-some is_negated (x ∷ []) full = then_class is_negated (range x x) (Some [])
class_with-some is_negated (x ∷ d ∷ []) full = then_class is_negated (range x x) (ranges_of (d ∷ []))
class_with-some is_negated (x ∷ d ∷ y ∷ items) full = go (d == 45)
  where
    go : (b : Bool) → is_some (class_with is_negated (if b then then_range (range x y) (ranges_of items) else then_range (range x x) (ranges_of (d ∷ y ∷ items)))) ≡ is_some (if b then then_range (range x y) (ranges_of items) else then_range (range x x) (ranges_of (d ∷ y ∷ items)))
    go true = then_class is_negated (range x y) (ranges_of items)
    go false = then_class is_negated (range x x) (ranges_of (d ∷ y ∷ items))
