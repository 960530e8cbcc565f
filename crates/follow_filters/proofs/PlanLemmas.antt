-- When plans are equal: if their values are, since their facts have one proof each. No field is named: `to` of a type lists its
-- values in the order in which a derived `==` compares them. A field of a type that no field had before needs its test in `values`.
use Rattle.std.proofs.Common.{◌≡◌, ◌&&◌, ℕ, Bool, List, bytes_eq, refl, ap}
use Rattle.std.specs.Bool.{Decides}
use Rattle.std.specs.Cmp.{booleans_Decides}
use Rattle.std.specs.Cmp.Lexicographic.{pointwise}
use Rattle.std.proofs.lemmas.Bool.Decides.{Decides-eqb, Decides-and, Decides-like}
use Rattle.std.proofs.lemmas.Slice.Eq.{bytes_eq-Decides, slice_eq-Decides}
use Rattle.follow_filters.specs.declared.plan.Plan.{Plan}
use Rattle.follow_filters.specs.declared.limit.Limit.{Limit}
use Rattle.follow_filters.specs.declared.limit.Limit.TheVariants.{AtMost, Unlimited}
use Rattle.follow_filters.specs.contracts.plan.Plan.{the_type as plans}
use Rattle.follow_filters.specs.contracts.limit.Limit.{the_type as limits}
use Rattle.follow_filters.specs.contracts.plan.PlanPartialEq.TheImpl as plan_eq
use Rattle.follow_filters.specs.contracts.limit.LimitPartialEq.TheImpl as limit_eq

-- pairs of equal parts are equal
pub pairs : {X Y : Type 0} {x x' : X} {y y' : Y} → x ≡ x' → y ≡ y' → ◌≡◌ {A = X × Y} (x, y) (x', y')
pairs first second = λ i. (first i, second i)

-- ---- a test of values is one of their first and one of the rest

pair-Decides : {X Y : Type 0} {x x' : X} {y y' : Y} (p q : Bool) → Decides p (x ≡ x') → Decides q (y ≡ y') → Decides (p && q) (◌≡◌ {A = X × Y} (x, y) (x', y'))
pair-Decides {X} {Y} p q first rest =
    Decides-like (p && q) (λ both. pairs both.0 both.1) (λ same. (ap (λ (pair : X × Y). pair.0) same, ap (λ (pair : X × Y). pair.1) same)) (Decides-and p q first rest)

last-Decides : {X : Type 0} {x x' : X} (p : Bool) → Decides p (x ≡ x') → Decides p (◌≡◌ {A = X × Unit {0}} (x, tt) (x', tt))
last-Decides {X} p last = Decides-like p (λ same. pairs same refl) (λ same. ap (λ (pair : X × Unit {0}). pair.0) same) last

-- ---- the tests of fields

lists-Decides : (xs ys : List (List ℕ)) → Decides (pointwise bytes_eq xs ys) (xs ≡ ys)
lists-Decides xs ys = slice_eq-Decides bytes_eq-Decides xs ys (pointwise bytes_eq xs ys) refl

same_limits : (a b : Limit) → Decides (limit_eq.ghosts.eq a b) (a ≡ b)
same_limits (AtMost a) (AtMost b) = (λ yes. ap AtMost ((Decides-eqb a b).0 yes), λ same. (Decides-eqb a b).1 (cc))
same_limits (AtMost a) Unlimited = (λ yes. cc, λ same. cc)
same_limits Unlimited (AtMost b) = (λ yes. cc, λ same. cc)
same_limits Unlimited Unlimited = (λ yes. refl, λ same. refl)

limits-Decides : (a b : Limit) → Decides (limit_eq.ghosts.eq a b) (limits.to a ≡ limits.to b)
limits-Decides a b = Decides-like (limit_eq.ghosts.eq a b) (ap limits.to) (limits.to_one a b) (same_limits a b)

-- ---- the test of plans

pub same_plans : (a b : Plan) → Decides (plan_eq.ghosts.eq a b) (a ≡ b)
same_plans a b =
    let values : Decides (plan_eq.ghosts.eq a b) (plans.to a ≡ plans.to b) = search (pair-Decides, last-Decides, bytes_eq-Decides, lists-Decides, limits-Decides, booleans_Decides, Decides-eqb) depth 40 in
    Decides-like (plan_eq.ghosts.eq a b) (plans.to_one a b) (ap plans.to) values
