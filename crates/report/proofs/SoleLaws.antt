-- Two reports that say the same of the same addresses, and give them the same names, have the same lines.
use Rattle.std.proofs.Common.{◌≡◌, ℕ, ◌<◌, ◌⊎◌, inl, inr, Bool, true, false, List, [], ◌∷◌, Option, Some, None, length, get_or, zero, suc, refl, sym, ap, ◌∙◌, subst, arith}
use Rattle.std.specs.Prelude.{Contains, is_some}
use Rattle.std.specs.List.{AllZip}
use Rattle.std.specs.Cmp.Lexicographic.{nat_list_cmp_total}
use Rattle.std.specs.Ordering.{is_lt}
use Rattle.std.specs.declared.cmp.Ordering.{Ordering}
use Rattle.std.specs.declared.cmp.Ordering.TheVariants.{Less, Equal, Greater}
use Rattle.std.proofs.lemmas.Bool.{false≢true}
use Rattle.address.specs.AddressOrder.{IsBefore}
use Rattle.address.proofs.AddressOrderLaws.{not_before_itself}
use Rattle.report.specs.Named.{named_pages, names_in}
use Rattle.report.specs.Report.{Line, Fate, AreAscending}
use Rattle.report.proofs.ListLaws.{contains_cases}

-- ---- the order of addresses

less_lt : (o : Ordering) → is_lt o ≡ true → o ≡ Less
less_lt Less h = refl
less_lt Equal h = cc
less_lt Greater h = cc

before_trans : (u v w : List ℕ) → IsBefore u v → IsBefore v w → IsBefore u w
before_trans u v w a b = ap is_lt (nat_list_cmp_total.trans u v w (less_lt _ a) (less_lt _ b))

not_before : (u v : List ℕ) → IsBefore u v → u ≡ v → ⊥
not_before u v h same = not_before_itself v (subst (λ (w : List ℕ). IsBefore w v) same h)

-- ---- lines except for their names

-- two lines say the same of one address, except for the name, which both have or neither
pub record AreAlike (a b : Line) : Type 0 where
  pub address : a.address ≡ b.address
  pub depth : a.depth ≡ b.depth
  pub fate : a.fate ≡ b.fate
  pub named : is_some a.name ≡ is_some b.name

-- a line is before each later one
before_later : (x b : Line) (xs : List Line) → AreAscending (x ∷ xs) → Contains xs b → IsBefore x.address b.address
before_later x b xs up (k, lt, is) = subst (λ (l : Line). IsBefore x.address l.address) is (up zero (suc k) b (omega arith) (omega (arith, lt)))

later_up : (x : Line) (xs : List Line) → AreAscending (x ∷ xs) → AreAscending xs
later_up x xs up = λ i j d lt lj. up (suc i) (suc j) d (omega (arith, lt)) (omega (arith, lj))

-- each line of the one list has one that is alike in the other
abbrev pub HasEach : List Line → List Line → Type 0
HasEach xs ys = (a : Line) → Contains xs a → (b : Line) × Contains ys b × AreAlike a b

turned : (a b : Line) → AreAlike a b → AreAlike b a
turned a b same = record { address = sym same.address; depth = sym same.depth; fate = sym same.fate; named = sym same.named }

first_alike : (x y : Line) (xs ys : List Line) → AreAscending (x ∷ xs) → AreAscending (y ∷ ys) → HasEach (x ∷ xs) (y ∷ ys) → HasEach (y ∷ ys) (x ∷ xs) → AreAlike x y
first_alike x y xs ys up up' there back =
    let (b, among, same) = there x (zero, omega arith, refl) in
    elim (contains_cases y b ys among) [
      | inl is ↦ subst (λ (l : Line). AreAlike x l) (sym is) same
      | inr later ↦ (
          let (a, among', same') = back y (zero, omega arith, refl) in
          let below : IsBefore y.address x.address = subst (λ (u : List ℕ). IsBefore y.address u) (sym same.address) (before_later y b ys up' later) in
          elim (contains_cases x a xs among') [
            | inl first ↦ absurd (not_before y.address x.address below (same'.address ∙ ap (λ (l : Line). l.address) (sym first)))
            | inr others ↦ absurd (
                let above : IsBefore x.address y.address = subst (λ (u : List ℕ). IsBefore x.address u) (sym same'.address) (before_later x a xs up others) in
                not_before x.address x.address (before_trans x.address y.address x.address above below) refl
                )
          ]
          )
    ]

later_each : (x y : Line) (xs ys : List Line) → AreAscending (x ∷ xs) → AreAlike x y → HasEach (x ∷ xs) (y ∷ ys) → HasEach xs ys
later_each x y xs ys up first there a among =
    let (k, lt, is) = among in
    let (b, among', same) = there a (suc k, omega (arith, lt), is) in
    elim (contains_cases y b ys among') [
      | inl at ↦ absurd (not_before x.address a.address (before_later x a xs up among) (first.address ∙ (ap (λ (l : Line). l.address) at ∙ sym same.address)))
      | inr later ↦ (b, later, same)
    ]

-- lists of lines that ascend, each of which has what the other has, are alike line by line
pub all_alike : (xs ys : List Line) → AreAscending xs → AreAscending ys → HasEach xs ys → HasEach ys xs → AllZip AreAlike xs ys
all_alike [] [] up up' there back = tt
all_alike [] (y ∷ ys) up up' there back = let (a, (k, lt, is), same) = back y (zero, omega arith, refl) in absurd (omega (arith, lt))
all_alike (x ∷ xs) [] up up' there back = let (b, (k, lt, is), same) = there x (zero, omega arith, refl) in absurd (omega (arith, lt))
all_alike (x ∷ xs) (y ∷ ys) up up' there back =
    let first = first_alike x y xs ys up up' there back in (
      first,
      all_alike xs ys (later_up x xs up) (later_up y ys up') (later_each x y xs ys up first there) (later_each y x ys xs up' (turned x y first) back),
    )

-- ---- names

pub same_pages : (xs ys : List Line) → AllZip AreAlike xs ys → named_pages xs ≡ named_pages ys
same_pages [] [] alike = refl
same_pages [] (y ∷ ys) alike = absurd alike
same_pages (x ∷ xs) [] alike = absurd alike
same_pages (x ∷ xs) (y ∷ ys) alike = go x.name y.name refl refl (same_pages xs ys alike.1)
  where
    go : (n m : Option (List ℕ)) → x.name ≡ n → y.name ≡ m → named_pages xs ≡ named_pages ys → named_pages (x ∷ xs) ≡ named_pages (y ∷ ys)
    go None None is is' rest = rw (is, is') rest
    go None (Some m) is is' rest = absurd (false≢true (sym (ap is_some is) ∙ alike.0.named ∙ ap is_some is'))
    go (Some n) None is is' rest = absurd (false≢true (sym (ap is_some is') ∙ sym alike.0.named ∙ ap is_some is))
    go (Some n) (Some m) is is' rest = rw (is, is', alike.0.address, rest) refl

line_is : (a b : Line) → AreAlike a b → a.name ≡ b.name → a ≡ b
line_is a b same name =
    let line : List ℕ → ℕ → Fate → Option (List ℕ) → Line = λ u d f n. record { address = u; depth = d; fate = f; name = n } in
    let is : line a.address a.depth a.fate a.name ≡ line b.address b.depth b.fate b.name =
    ap (λ u. line u a.depth a.fate a.name) same.address ∙ ap (λ d. line b.address d a.fate a.name) same.depth
    ∙ ap (λ f. line b.address b.depth f a.name) same.fate ∙ ap (λ n. line b.address b.depth b.fate n) name in
    is

-- lines that are alike are the same if their names are
pub same_lines : (xs ys : List Line) → AllZip AreAlike xs ys → names_in xs ≡ names_in ys → xs ≡ ys
same_lines [] [] alike names = refl
same_lines [] (y ∷ ys) alike names = absurd alike
same_lines (x ∷ xs) [] alike names = absurd alike
same_lines (x ∷ xs) (y ∷ ys) alike names = go x.name y.name refl refl
    (λ name rest. let first : x ≡ y = line_is x y alike.0 name in let others : xs ≡ ys = same_lines xs ys alike.1 rest in cc)
  where
    go : (n m : Option (List ℕ)) → x.name ≡ n → y.name ≡ m → (x.name ≡ y.name → names_in xs ≡ names_in ys → x ∷ xs ≡ y ∷ ys) → x ∷ xs ≡ y ∷ ys
    go None None is is' both = both (is ∙ sym is') (rw (is, is') at names)
    go None (Some m) is is' both = absurd (false≢true (sym (ap is_some is) ∙ alike.0.named ∙ ap is_some is'))
    go (Some n) None is is' both = absurd (false≢true (sym (ap is_some is') ∙ sym alike.0.named ∙ ap is_some is))
    go (Some n) (Some m) is is' both =
        let same : n ∷ names_in xs ≡ m ∷ names_in ys = rw (is, is') at names in
        let name : n ≡ m = cc in
        let rest : names_in xs ≡ names_in ys = cc in
        both (is ∙ (ap Some name ∙ sym is')) rest
