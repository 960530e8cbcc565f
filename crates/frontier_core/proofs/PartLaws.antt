-- Starts of different hosts know nothing of each other if hosts aren't spanned: what is found is the union of what the parts find.
use Rattle.std.proofs.Common.{◌≡◌, ◌⊎◌, ◌↔◌, ◌∙◌, ℕ, ◌+◌, ◌≤◌, Bool, true, false, ◌&&◌, ◌||◌, not, List, [], ◌∷◌, Option, Some, None, refl, sym, ap, subst, inl, inr, ⊎_elim}
use Rattle.std.specs.Prelude.{Contains, IsTrue}
use Rattle.std.proofs.lemmas.Bool.{cases_Bool}
use Rattle.fetcher.specs.declared.edge.Edge.{Edge}
use Rattle.fetcher.specs.declared.edge.EdgeKind.{EdgeKind}
use Rattle.robots_rules.specs.Access.{RuleSetValue}
use Rattle.frontier_core.specs.Tables.{Text}
use Rattle.frontier_core.specs.Routes.{Policy, Answers, weight, within, admits, is_start, is_open_address, is_allowed_by_rules, HasEdge, Walk, Route, IsCandidate, IsDepth}
use Rattle.frontier_core.proofs.RouteLaws.{and_true}
use Rattle.frontier_core.proofs.StartLaws.{test_of_start, start_of_test}

-- a start of the policy has the address's host
abbrev pub IsHome : (Text → Text) → Policy → Text → Type 0
IsHome host q u = (start : Text) × Contains q.starts start × (host u ≡ host start)

-- q has those starts of p whose hosts are its own, and on their hosts the same rules; edges stay on their page's host
pub record IsPart (host : Text → Text) (p q : Policy) : Type 0 where
  pub among : (start : Text) → Contains q.starts start → Contains p.starts start
  pub home : (start : Text) → Contains p.starts start → IsHome host q start → Contains q.starts start
  pub follows : (page : Text) (kind : EdgeKind) (target : Text) → IsHome host q page → p.follows page kind target ≡ q.follows page kind target
  pub stays : (page : Text) (kind : EdgeKind) (target : Text) → p.follows page kind target ≡ true → host target ≡ host page
  pub bound : (kind : EdgeKind) → p.bound kind ≡ q.bound kind
  pub robots : p.robots ≡ q.robots
  pub origin : (u : Text) → p.origin u ≡ q.origin u
  pub allows : (rules : RuleSetValue) (u : Text) → p.allows rules u ≡ q.allows rules u

module _ (host : Text → Text) (p q : Policy) (m : Answers) (part : IsPart host p q) where
  part_start : (u : Text) → IsHome host q u → is_start p u ≡ is_start q u
  part_start u at_home =
      ⊎_elim
      (λ found. found ∙ sym (test_of_start q.starts u (part.home u (start_of_test p.starts u found) at_home)))
      (λ none. ⊎_elim (λ also. let found : is_start p u ≡ true = test_of_start p.starts u (part.among u (start_of_test q.starts u also)) in cc) (λ gone. none ∙ sym gone) (cases_Bool (is_start q u)))
      (cases_Bool (is_start p u))

  part_rules : (u : Text) (o : Option RuleSetValue) → is_allowed_by_rules p u o ≡ is_allowed_by_rules q u o
  part_rules u None = refl
  part_rules u (Some rules) = part.allows rules u

  part_open : (u : Text) → IsHome host q u → is_open_address p m u ≡ is_open_address q m u
  part_open u at_home =
      ap (λ b. (b || not p.robots) || is_allowed_by_rules p u (m.rules (p.origin u))) (part_start u at_home)
      ∙ ap (λ b. (is_start q u || not b) || is_allowed_by_rules p u (m.rules (p.origin u))) part.robots
      ∙ ap (λ o. (is_start q u || not q.robots) || is_allowed_by_rules p u (m.rules o)) (part.origin u)
      ∙ ap (λ b. (is_start q u || not q.robots) || b) (part_rules u (m.rules (q.origin u)))

  part_admits : (u : Text) → IsHome host q u → (edge : Edge) (sum : ℕ) → admits p u edge sum ≡ admits q u edge sum
  part_admits u at_home edge sum =
      ap (λ b. b && within (p.bound edge.kind) sum) (part.follows u edge.kind edge.target at_home) ∙ ap (λ o. q.follows u edge.kind edge.target && within o sum) (part.bound edge.kind)

  -- an edge that is followed stays at home
  next_home : (u : Text) → IsHome host q u → (edge : Edge) (sum : ℕ) → admits p u edge sum ≡ true → IsHome host q edge.target
  next_home u (start, among, is) edge sum adm = (start, among, part.stays u edge.kind edge.target (and_true _ _ adm).0 ∙ is)

  walk_up : (walk : List Edge) (u : Text) (n : ℕ) (v : Text) (d : ℕ) → IsHome host q u → Walk q m (u, n) walk (v, d) → Walk p m (u, n) walk (v, d)
  walk_up [] u n v d at_home h = h
  walk_up (edge ∷ walk) u n v d at_home h =
      let adm : admits p u edge (n + weight edge.kind) ≡ true = part_admits u at_home edge (n + weight edge.kind) ∙ h.2 in (
        part_open u at_home ∙ h.0,
        h.1,
        adm,
        walk_up walk edge.target (n + weight edge.kind) v d (next_home u at_home edge (n + weight edge.kind) adm) h.3,
      )

  walk_down : (walk : List Edge) (u : Text) (n : ℕ) (v : Text) (d : ℕ) → IsHome host q u → Walk p m (u, n) walk (v, d) → Walk q m (u, n) walk (v, d) × IsHome host q v
  walk_down [] u n v d at_home h = (h, subst (λ z. IsHome host q z) h.0 at_home)
  walk_down (edge ∷ walk) u n v d at_home h =
      let rest = walk_down walk edge.target (n + weight edge.kind) v d (next_home u at_home edge (n + weight edge.kind) h.2) h.3 in
      ((sym (part_open u at_home) ∙ h.0, h.1, sym (part_admits u at_home edge (n + weight edge.kind)) ∙ h.2, rest.0), rest.1)

  -- what the part finds is found
  pub part_up : (route : List Edge) (v : Text) (d : ℕ) → Route q m route v d → Route p m route v d
  part_up route v d (start, among, walk) = (start, part.among start among, walk_up route start 0 v d (start, among, refl) walk)

  -- what the part finds is at home
  pub ends_home : (route : List Edge) (v : Text) (d : ℕ) → Route q m route v d → IsHome host q v
  ends_home route v d (start, among, walk) = (walk_down route start 0 v d (start, among, refl) (walk_up route start 0 v d (start, among, refl) walk)).1

  -- what is found from a start of the part is found by it, and is at home
  pub part_down : (route : List Edge) (start v : Text) (d : ℕ) → Contains q.starts start → Walk p m (start, 0) route (v, d) → Route q m route v d × IsHome host q v
  part_down route start v d among walk = let down = walk_down route start 0 v d (start, among, refl) walk in ((start, among, down.0), down.1)

-- the starts are those of two parts of different hosts
pub record IsSplit (host : Text → Text) (p q r : Policy) : Type 0 where
  pub left : IsPart host p q
  pub right : IsPart host p r
  pub either : (start : Text) → Contains p.starts start → Contains q.starts start ⊎ Contains r.starts start
  pub apart : (u : Text) → IsHome host q u → IsHome host r u → ⊥

-- the candidates are those of the parts
pub split_candidates : (host : Text → Text) (p q r : Policy) (m : Answers) → IsSplit host p q r → (v : Text) → IsCandidate p m v ↔ (IsCandidate q m v ⊎ IsCandidate r m v)
split_candidates host p q r m split v = (there, back)
  where
    there : IsCandidate p m v → IsCandidate q m v ⊎ IsCandidate r m v
    there (route, d, (start, among, walk)) =
        ⊎_elim
        (λ left. inl (route, d, (part_down host p q m split.left route start v d left walk).0))
        (λ right. inr (route, d, (part_down host p r m split.right route start v d right walk).0))
        (split.either start among)

    back : IsCandidate q m v ⊎ IsCandidate r m v → IsCandidate p m v
    back (inl (route, d, walk)) = (route, d, part_up host p q m split.left route v d walk)
    back (inr (route, d, walk)) = (route, d, part_up host p r m split.right route v d walk)

-- at the same depths
pub split_depth : (host : Text → Text) (p q r : Policy) (m : Answers) → IsSplit host p q r → (v : Text) (d : ℕ) → IsDepth q m v d → IsDepth p m v d
split_depth host p q r m split v d least = record {
  reached = (let (route, walk) = least.reached in (route, part_up host p q m split.left route v d walk));
  least = λ route n (start, among, walk). (
      let (first, (one, begins, first_walk)) = least.reached in
      ⊎_elim
      (λ left. least.least route n (part_down host p q m split.left route start v n left walk).0)
      (λ right. absurd (split.apart v
      (ends_home host p q m split.left first v d (one, begins, first_walk))
      (part_down host p r m split.right route start v n right walk).1))
      (split.either start among));
}
