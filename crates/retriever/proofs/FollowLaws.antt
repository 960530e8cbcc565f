-- A plan of some of the starts, with those of their hosts that another has, follows an edge of a page on these hosts exactly if that does, if neither
-- spans hosts.
use Rattle.std.proofs.Common.{◌≡◌, ◌∙◌, ℕ, Bool, true, false, ◌&&◌, ◌||◌, List, ◌∷◌, [], zero, suc, refl, sym, ap, subst, ⊎_elim, arith}
use Rattle.std.specs.Prelude.{Contains}
use Rattle.std.specs.List.{list_any, list_all}
use Rattle.std.proofs.lemmas.Bool.{cases_Bool, and_right, and_parts}
use Rattle.std.proofs.lemmas.Slice.Eq.{bytes_eq-Decides}
use Rattle.fetcher.specs.declared.edge.EdgeKind.{EdgeKind}
use Rattle.address.specs.Address.{host_of}
use Rattle.follow_filters.specs.declared.plan.Plan.{Plan}
use Rattle.follow_filters.specs.declared.rule.FollowRule.{FollowRule}
use Rattle.follow_filters.specs.declared.rule.FollowRule.TheVariants as rule
use Rattle.follow_filters.specs.Plans.{starts}
use Rattle.follow_filters.specs.Rules.{rules, leads_anywhere, meets, follows_of, has_host_of, is_below, has_start_host, is_below_start}
use Rattle.follow_filters.proofs.EdgeLaws.{HasStarts}

-- if each of the one that passes the test is one of the other, the test of some of the other is passed, too
any_where : (test : List ℕ → Bool) (some all : List (List ℕ)) → ((start : List ℕ) → Contains some start → test start ≡ true → Contains all start) → list_any test some ≡ true → list_any test all ≡ true
any_where test [] all among passed = cc
any_where test (x ∷ some) all among passed =
    ⊎_elim
    (λ here. found all x (among x (zero, omega arith, refl) here) here)
    (λ no. any_where test some all (λ y (k, lt, e) yes. among y (suc k, omega arith, e) yes) (rw no at passed))
    (cases_Bool (test x))
  where
    found : (xs : List (List ℕ)) (y : List ℕ) → Contains xs y → test y ≡ true → list_any test xs ≡ true
    found [] y (k, lt, e) is = absurd (omega arith)
    found (z ∷ xs) y (zero, lt, e) is = let first : test z ≡ true = ap test e ∙ is in rw first refl
    found (z ∷ xs) y (suc k, lt, e) is = later (test z) (found xs y (k, omega arith, e) is)
      where
        later : (b : Bool) → list_any test xs ≡ true → (b || list_any test xs) ≡ true
        later true rest = refl
        later false rest = rest

-- tests that agree agree on all of a list
list_all-same : {X : Type 0} (p q : X → Bool) → ((x : X) → p x ≡ q x) → (xs : List X) → list_all p xs ≡ list_all q xs
list_all-same p q same [] = refl
list_all-same p q same (x ∷ xs) = rw (same x, list_all-same p q same xs) refl

-- no edge leads anywhere if requisites aren't spanned
nowhere : (plan : Plan) (page : List ℕ) (kind : EdgeKind) → plan.span_requisites ≡ false → leads_anywhere plan page kind ≡ false
nowhere plan page kind alone = and_right _ _ alone

-- q has the starts of p on its hosts, and the same rules; hosts aren't spanned
pub record IsPlanOfPart (p q : Plan) : Type 0 where
  pub among : HasStarts (starts q) (starts p)
  pub home : (start other : List ℕ) → Contains (starts p) start → Contains (starts q) other → host_of start ≡ host_of other → Contains (starts q) start
  pub span_hosts : p.span_hosts ≡ false
  pub also_hosts : q.span_hosts ≡ false
  pub span_requisites : p.span_requisites ≡ false
  pub also_requisites : q.span_requisites ≡ false
  pub no_parent : p.no_parent ≡ q.no_parent
  pub domains : p.domains ≡ q.domains
  pub exclude_domains : p.exclude_domains ≡ q.exclude_domains
  pub include_dirs : p.include_dirs ≡ q.include_dirs
  pub exclude_dirs : p.exclude_dirs ≡ q.exclude_dirs
  pub accept : p.accept ≡ q.accept
  pub reject : p.reject ≡ q.reject
  pub accept_expressions : p.accept_expressions ≡ q.accept_expressions
  pub reject_expressions : p.reject_expressions ≡ q.reject_expressions
  pub ignore_case : p.ignore_case ≡ q.ignore_case

-- an edge that doesn't meet the rule on hosts isn't followed
refused : (plan : Plan) (page : List ℕ) (kind : EdgeKind) (address : List ℕ) → meets rule.Host plan page kind address ≡ false → follows_of plan page kind address ≡ false
unfolding follows_of
refused plan page kind address unmet =
    and_right (meets rule.RobotsFile plan page kind address) _
    (ap (λ b. b && list_all (λ r. meets r plan page kind address) (rule.Parent ∷ rule.Domain ∷ rule.ExcludedDomain ∷ rule.NotIncluded ∷ rule.Excluded ∷ rule.NotAccepted ∷ rule.Rejected ∷ rule.ExpressionMissing ∷ rule.ExpressionFound ∷ [])) unmet)

-- nor does one that leaves its page's host, if none is spanned
leaves : (plan : Plan) (page : List ℕ) (kind : EdgeKind) (address : List ℕ) → plan.span_hosts ≡ false → plan.span_requisites ≡ false → has_host_of address page ≡ false → meets rule.Host plan page kind address ≡ false
unfolding meets
leaves plan page kind address here alone other = rw (nowhere plan page kind alone, here, other) refl

module _ (p q : Plan) (part : IsPlanOfPart p q) (start address : List ℕ) (mine : Contains (starts q) start) (is : host_of address ≡ host_of start) where
  -- both have a start of the host
  same_host : has_start_host p address ≡ has_start_host q address
  same_host =
      let test : List ℕ → Bool = λ other. has_host_of address other in
      let some : test start ≡ true = (bytes_eq-Decides (host_of address) (host_of start)).1 is in
      any_here test (starts p) (part.among start mine) some ∙ sym (any_here test (starts q) mine some)
    where
      any_here : (test : List ℕ → Bool) (xs : List (List ℕ)) → Contains xs start → test start ≡ true → list_any test xs ≡ true
      any_here test xs among passed = any_where test (start ∷ []) xs (λ x one yes. subst (λ (y : List ℕ). Contains xs y) (only x one) among) (rw passed refl)
        where
          only : (x : List ℕ) → Contains (start ∷ []) x → start ≡ x
          only x (zero, lt, e) = e
          only x (suc k, lt, e) = absurd (omega (arith, lt))

  -- the starts above the address are the same
  same_below : is_below_start p address ≡ is_below_start q address
  same_below =
      let test : List ℕ → Bool = λ other. is_below address other in
      ⊎_elim
      (λ yes. yes ∙ sym (any_where test (starts p) (starts q) (λ other among passed. part.home other start among mine (sym ((bytes_eq-Decides (host_of address) (host_of other)).0 (and_parts _ _ passed).0) ∙ is)) yes))
      (λ no. ⊎_elim (λ also. let found : list_any test (starts p) ≡ true = any_where test (starts q) (starts p) (λ other among passed. part.among other among) also in cc) (λ none. no ∙ sym none) (cases_Bool (list_any test (starts q))))
      (cases_Bool (list_any test (starts p)))

  meets_of_part : (page : List ℕ) (kind : EdgeKind) (r : FollowRule) → meets r p page kind address ≡ meets r q page kind address
  unfolding meets
  meets_of_part page kind rule.RobotsFile = refl
  meets_of_part page kind rule.Host =
      rw (nowhere p page kind part.span_requisites, nowhere q page kind part.also_requisites, part.span_hosts, part.also_hosts, part.span_requisites, part.also_requisites) refl
  meets_of_part page kind rule.Parent =
      rw (nowhere p page kind part.span_requisites, nowhere q page kind part.also_requisites, part.no_parent, same_host, same_below) refl
  meets_of_part page kind rule.Domain = rw (nowhere p page kind part.span_requisites, nowhere q page kind part.also_requisites, part.domains) refl
  meets_of_part page kind rule.ExcludedDomain = rw (nowhere p page kind part.span_requisites, nowhere q page kind part.also_requisites, part.exclude_domains) refl
  meets_of_part page kind rule.NotIncluded = rw (part.include_dirs, part.ignore_case) refl
  meets_of_part page kind rule.Excluded = rw (part.exclude_dirs, part.ignore_case) refl
  meets_of_part page kind rule.NotAccepted = rw (part.accept, part.ignore_case) refl
  meets_of_part page kind rule.Rejected = rw (part.reject, part.ignore_case) refl
  meets_of_part page kind rule.ExpressionMissing = rw part.accept_expressions refl
  meets_of_part page kind rule.ExpressionFound = rw part.reject_expressions refl

-- of a page on the host of one of its starts the part follows the same edges
pub follows_of_part : (p q : Plan) (start page : List ℕ) (kind : EdgeKind) (address : List ℕ) → IsPlanOfPart p q → Contains (starts q) start → host_of page ≡ host_of start → follows_of p page kind address ≡ follows_of q page kind address
unfolding follows_of
follows_of_part p q start page kind address part mine home =
    ⊎_elim
    (λ stays. at_home ((bytes_eq-Decides (host_of address) (host_of page)).0 stays ∙ home))
    (λ other. refused p page kind address (leaves p page kind address part.span_hosts part.span_requisites other)
    ∙ sym (refused q page kind address (leaves q page kind address part.also_hosts part.also_requisites other)))
    (cases_Bool (has_host_of address page))
  where
    at_home : host_of address ≡ host_of start → follows_of p page kind address ≡ follows_of q page kind address
    at_home is = list_all-same (λ r. meets r p page kind address) (λ r. meets r q page kind address) (meets_of_part p q part start address mine is page kind) rules
