-- What a retrieval is to find depends on the set of starts alone, and grows with it: it is what each start would find.
use Rattle.std.proofs.Common.{◌≡◌, ◌⊎◌, ◌↔◌, ◌∙◌, ℕ, ◌+◌, ◌≤◌, Bool, true, false, ◌&&◌, ◌||◌, not, List, [], ◌∷◌, ◌++◌, Option, Some, None, refl, sym, ap, subst, inl, inr, ⊎_elim, arith}
use Rattle.std.specs.Prelude.{Contains, IsTrue}
use Rattle.std.specs.List.{list_any}
use Rattle.std.specs.Str.{bytes_eq}
use Rattle.std.proofs.lemmas.Bool.{cases_Bool}
use Rattle.fetcher.specs.declared.edge.Edge.{Edge}
use Rattle.fetcher.specs.declared.edge.EdgeKind.{EdgeKind}
use Rattle.robots_rules.specs.Access.{RuleSetValue}
use Rattle.frontier_core.specs.Tables.{Text}
use Rattle.frontier_core.specs.Routes.{Policy, Answers, weight, within, admits, is_start, is_exempt, is_open_address, is_allowed_by_rules, HasEdge, Walk, Route, IsCandidate, IsDepth, IsWanted, IsNeeded}
use Rattle.frontier_core.proofs.RouteLaws.{contains_cases}
use Rattle.frontier_core.proofs.StartLaws.{test_of_start, start_of_test}

-- the policies have the same starts, in any order and however often, and the same rules otherwise
pub record IsSame (p q : Policy) : Type 0 where
  pub there : (start : Text) → Contains p.starts start → Contains q.starts start
  pub back : (start : Text) → Contains q.starts start → Contains p.starts start
  pub bound : (kind : EdgeKind) → p.bound kind ≡ q.bound kind
  pub follows : (page : Text) (kind : EdgeKind) (target : Text) → p.follows page kind target ≡ q.follows page kind target
  pub robots : p.robots ≡ q.robots
  pub origin : (u : Text) → p.origin u ≡ q.origin u
  pub allows : (rules : RuleSetValue) (u : Text) → p.allows rules u ≡ q.allows rules u

pub same_turned : (p q : Policy) → IsSame p q → IsSame q p
same_turned p q like = record {
  there = like.back;
  back = like.there;
  bound = λ kind. sym (like.bound kind);
  follows = λ page kind target. sym (like.follows page kind target);
  robots = sym like.robots;
  origin = λ u. sym (like.origin u);
  allows = λ rules u. sym (like.allows rules u);
}

same_start : (p q : Policy) → IsSame p q → (u : Text) → is_start p u ≡ is_start q u
same_start p q like u =
    ⊎_elim
    (λ found. found ∙ sym (test_of_start q.starts u (like.there u (start_of_test p.starts u found))))
    (λ none. ⊎_elim (λ also. let found : is_start p u ≡ true = test_of_start p.starts u (like.back u (start_of_test q.starts u also)) in cc) (λ gone. none ∙ sym gone) (cases_Bool (is_start q u)))
    (cases_Bool (is_start p u))

same_rules : (p q : Policy) → IsSame p q → (u : Text) (o : Option RuleSetValue) → is_allowed_by_rules p u o ≡ is_allowed_by_rules q u o
same_rules p q like u None = refl
same_rules p q like u (Some rules) = like.allows rules u

-- an address is open by the one if it is by the other
pub same_open : (p q : Policy) (m : Answers) → IsSame p q → (u : Text) → is_open_address p m u ≡ is_open_address q m u
same_open p q m like u =
    ap (λ b. (b || not p.robots) || is_allowed_by_rules p u (m.rules (p.origin u))) (same_start p q like u)
    ∙ ap (λ b. (is_start q u || not b) || is_allowed_by_rules p u (m.rules (p.origin u))) like.robots
    ∙ ap (λ o. (is_start q u || not q.robots) || is_allowed_by_rules p u (m.rules o)) (like.origin u)
    ∙ ap (λ b. (is_start q u || not q.robots) || b) (same_rules p q like u (m.rules (q.origin u)))

same_admits : (p q : Policy) → IsSame p q → (u : Text) (edge : Edge) (sum : ℕ) → admits p u edge sum ≡ admits q u edge sum
same_admits p q like u edge sum =
    ap (λ b. b && within (p.bound edge.kind) sum) (like.follows u edge.kind edge.target) ∙ ap (λ o. q.follows u edge.kind edge.target && within o sum) (like.bound edge.kind)

same_walk : (p q : Policy) (m : Answers) → IsSame p q → (walk : List Edge) (u : Text) (n : ℕ) (v : Text) (d : ℕ) → Walk p m (u, n) walk (v, d) → Walk q m (u, n) walk (v, d)
same_walk p q m like [] u n v d h = h
same_walk p q m like (edge ∷ walk) u n v d h = (
  sym (same_open p q m like u) ∙ h.0,
  h.1,
  sym (same_admits p q like u edge (n + weight edge.kind)) ∙ h.2,
  same_walk p q m like walk edge.target (n + weight edge.kind) v d h.3,
)

pub same_route : (p q : Policy) (m : Answers) → IsSame p q → (route : List Edge) (v : Text) (d : ℕ) → Route p m route v d → Route q m route v d
same_route p q m like route v d (start, among, walk) = (start, like.there start among, same_walk p q m like route start 0 v d walk)

-- the same addresses are candidates, at the same depths
pub same_candidate : (p q : Policy) (m : Answers) → IsSame p q → (v : Text) → IsCandidate p m v → IsCandidate q m v
same_candidate p q m like v (route, d, walk) = (route, d, same_route p q m like route v d walk)

pub same_depth : (p q : Policy) (m : Answers) → IsSame p q → (v : Text) (d : ℕ) → IsDepth p m v d → IsDepth q m v d
same_depth p q m like v d least = record {
  reached = (let (route, walk) = least.reached in (route, same_route p q m like route v d walk));
  least = λ route n walk. least.least route n (same_route q p m (same_turned p q like) route v n walk);
}

-- the same are wanted, and the same origins' rules are needed
pub same_wanted : (p q : Policy) (m : Answers) → IsSame p q → (v : Text) → IsWanted p m v → IsWanted q m v
same_wanted p q m like v (candidate, opens) = (same_candidate p q m like v candidate, sym (same_open p q m like v) ∙ opens)

pub same_needed : (p q : Policy) (m : Answers) → IsSame p q → (o : Text) → IsNeeded p m o → IsNeeded q m o
same_needed p q m like o (robots, v, candidate, apart, of) =
    (sym like.robots ∙ robots, v, same_candidate p q m like v candidate, (λ among. apart (like.back v among)), sym (like.origin v) ∙ of)
