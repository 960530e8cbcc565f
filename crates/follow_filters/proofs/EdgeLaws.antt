-- What following says of a plan of one start, of pages on its host, and of the set of starts.
use Rattle.std.proofs.Common.{◌≡◌, ◌∙◌, ℕ, zero, suc, Bool, true, false, not, ◌&&◌, ◌||◌, List, [], ◌∷◌, nat_eq, bytes_eq, refl, sym, ap, ⊎_elim, arith}
use Rattle.std.specs.Prelude.{Contains}
use Rattle.std.specs.List.{starts_with, list_any, list_all}
use Rattle.std.proofs.lemmas.Bool.{cases_Bool, and_right}
use Rattle.fetcher.specs.declared.edge.EdgeKind.{EdgeKind}
use Rattle.fetcher.specs.declared.edge.EdgeKind.TheVariants.{Link, Inline, Redirect}
use Rattle.address.specs.Address.{host_of, dir_of}
use Rattle.follow_filters.specs.declared.plan.Plan.{Plan}
use Rattle.follow_filters.specs.declared.rule.FollowRule.{FollowRule}
use Rattle.follow_filters.specs.declared.rule.FollowRule.TheVariants as rule
use Rattle.follow_filters.specs.Plans.{starts}
use Rattle.follow_filters.specs.Rules.{rules, LeadsAnywhere, leads_anywhere, HasStartHost, meets, follows_of, passes_of, has_host_of, is_below, has_start_host}
use Rattle.follow_filters.proofs.Meaning.{follows_of-is}

-- tests that agree agree on all of a list, and on some
list_all-same : {X : Type 0} (p q : X → Bool) → ((x : X) → p x ≡ q x) → (xs : List X) → list_all p xs ≡ list_all q xs
list_all-same p q same [] = refl
list_all-same p q same (x ∷ xs) = rw (same x, list_all-same p q same xs) refl

-- ---- edges that may lead anywhere

-- those of a page on the host of another are alike
anywhere_alike : (plan : Plan) (page other : List ℕ) (kind : EdgeKind) → host_of page ≡ host_of other → leads_anywhere plan page kind ≡ leads_anywhere plan other kind
anywhere_alike plan page other Link hosts = refl
anywhere_alike plan page other Inline hosts = refl
anywhere_alike plan page other Redirect hosts = ap (λ h. not (list_any (λ start. bytes_eq h (host_of start)) (starts plan)) && plan.span_requisites) hosts

-- there are none if requisites aren't spanned
nowhere : (plan : Plan) (page : List ℕ) (kind : EdgeKind) → plan.span_requisites ≡ false → leads_anywhere plan page kind ≡ false
nowhere plan page kind alone = and_right _ _ alone

-- ---- pages on the start's host

-- a page on the host of another may lead where that leads
pub meets_alike : (plan : Plan) (page other : List ℕ) (kind : EdgeKind) (address : List ℕ) → host_of page ≡ host_of other → (r : FollowRule) → meets r plan page kind address ≡ meets r plan other kind address
unfolding meets
meets_alike plan page other kind address hosts rule.RobotsFile = refl
meets_alike plan page other kind address hosts rule.Host =
    rw (anywhere_alike plan page other kind hosts)
    (ap (λ h. leads_anywhere plan other kind || (plan.span_hosts || (bytes_eq (host_of address) h && (not plan.span_requisites || list_any (λ start. bytes_eq h (host_of start)) (starts plan))))) hosts)
meets_alike plan page other kind address hosts rule.Parent = rw (anywhere_alike plan page other kind hosts) refl
meets_alike plan page other kind address hosts rule.Domain = rw (anywhere_alike plan page other kind hosts) refl
meets_alike plan page other kind address hosts rule.ExcludedDomain = rw (anywhere_alike plan page other kind hosts) refl
meets_alike plan page other kind address hosts rule.NotIncluded = refl
meets_alike plan page other kind address hosts rule.Excluded = refl
meets_alike plan page other kind address hosts rule.NotAccepted = refl
meets_alike plan page other kind address hosts rule.Rejected = refl
meets_alike plan page other kind address hosts rule.ExpressionMissing = refl
meets_alike plan page other kind address hosts rule.ExpressionFound = refl

-- if hosts are spanned and requisites aren't, each edge may lead to where another does
pub meets_anywhere : (plan : Plan) (page other : List ℕ) (kind another : EdgeKind) (address : List ℕ) → plan.span_hosts ≡ true → plan.span_requisites ≡ false → (r : FollowRule) → meets r plan page kind address ≡ meets r plan other another address
unfolding meets
meets_anywhere plan page other kind another address spans alone rule.RobotsFile = refl
meets_anywhere plan page other kind another address spans alone rule.Host = rw (nowhere plan page kind alone, nowhere plan other another alone, spans) refl
meets_anywhere plan page other kind another address spans alone rule.Parent = rw (nowhere plan page kind alone, nowhere plan other another alone) refl
meets_anywhere plan page other kind another address spans alone rule.Domain = rw (nowhere plan page kind alone, nowhere plan other another alone) refl
meets_anywhere plan page other kind another address spans alone rule.ExcludedDomain = rw (nowhere plan page kind alone, nowhere plan other another alone) refl
meets_anywhere plan page other kind another address spans alone rule.NotIncluded = refl
meets_anywhere plan page other kind another address spans alone rule.Excluded = refl
meets_anywhere plan page other kind another address spans alone rule.NotAccepted = refl
meets_anywhere plan page other kind another address spans alone rule.Rejected = refl
meets_anywhere plan page other kind another address spans alone rule.ExpressionMissing = refl
meets_anywhere plan page other kind another address spans alone rule.ExpressionFound = refl

-- if requisites aren't spanned, the kind of an edge doesn't count
pub meets_any_kind : (plan : Plan) (page : List ℕ) (kind another : EdgeKind) (address : List ℕ) → plan.span_requisites ≡ false → (r : FollowRule) → meets r plan page kind address ≡ meets r plan page another address
unfolding meets
meets_any_kind plan page kind another address alone rule.RobotsFile = refl
meets_any_kind plan page kind another address alone rule.Host = rw (nowhere plan page kind alone, nowhere plan page another alone) refl
meets_any_kind plan page kind another address alone rule.Parent = rw (nowhere plan page kind alone, nowhere plan page another alone) refl
meets_any_kind plan page kind another address alone rule.Domain = rw (nowhere plan page kind alone, nowhere plan page another alone) refl
meets_any_kind plan page kind another address alone rule.ExcludedDomain = rw (nowhere plan page kind alone, nowhere plan page another alone) refl
meets_any_kind plan page kind another address alone rule.NotIncluded = refl
meets_any_kind plan page kind another address alone rule.Excluded = refl
meets_any_kind plan page kind another address alone rule.NotAccepted = refl
meets_any_kind plan page kind another address alone rule.Rejected = refl
meets_any_kind plan page kind another address alone rule.ExpressionMissing = refl
meets_any_kind plan page kind another address alone rule.ExpressionFound = refl

-- a link of a page on the start's host is followed exactly if its target passes
pub links_at_home : (plan : Plan) (page address : List ℕ) → host_of page ≡ host_of plan.start → follows_of plan page Link address ≡ passes_of plan address
unfolding follows_of
links_at_home plan page address home = list_all-same (λ r. meets r plan page Link address) (λ r. meets r plan plan.start Link address) (meets_alike plan page plan.start Link address home) rules

-- if requisites aren't spanned, so is each edge of a page on the start's host
pub follows_at_home : (plan : Plan) (page : List ℕ) (kind : EdgeKind) (address : List ℕ) → host_of page ≡ host_of plan.start → plan.span_requisites ≡ false → follows_of plan page kind address ≡ passes_of plan address
unfolding follows_of
follows_at_home plan page kind address home alone =
    list_all-same (λ r. meets r plan page kind address) (λ r. meets r plan plan.start Link address)
    (λ r. meets_any_kind plan page kind Link address alone r ∙ meets_alike plan page plan.start Link address home r) rules

-- if hosts are spanned and requisites aren't, an edge is followed exactly if its target passes
pub follows_anywhere : (plan : Plan) (page : List ℕ) (kind : EdgeKind) (address : List ℕ) → plan.span_hosts ≡ true → plan.span_requisites ≡ false → follows_of plan page kind address ≡ passes_of plan address
unfolding follows_of
follows_anywhere plan page kind address spans alone = list_all-same (λ r. meets r plan page kind address) (λ r. meets r plan plan.start Link address) (meets_anywhere plan page plan.start kind Link address spans alone) rules

-- if hosts aren't spanned, an edge that is followed stays on its page's host, unless it may lead anywhere
pub follows_stays : (plan : Plan) (page : List ℕ) (kind : EdgeKind) (address : List ℕ) → plan.span_hosts ≡ false → ¬ LeadsAnywhere plan page kind → follows_of plan page kind address ≡ true → host_of address ≡ host_of page
follows_stays plan page kind address here bound followed = ((follows_of-is plan page kind address).0 followed rule.Host bound here).0

-- if requisites are spanned and hosts aren't, a link that is followed is one of a page on a start's host, and stays there
pub links_stay : (plan : Plan) (page address : List ℕ) → plan.span_hosts ≡ false → plan.span_requisites ≡ true → follows_of plan page Link address ≡ true → (host_of address ≡ host_of page) × HasStartHost plan page
links_stay plan page address here spans followed =
    let home = (follows_of-is plan page Link address).0 followed rule.Host (λ anywhere. anywhere.0) here in
    (home.0, home.1 spans)

-- ---- plans of one start

-- the parent rule of one start, of links
pub parent_of_one : (plan : Plan) (page address : List ℕ) → plan.others ≡ []
    → meets rule.Parent plan page Link address
    ≡ (not plan.no_parent || not (bytes_eq (host_of address) (host_of plan.start)) || starts_with nat_eq (dir_of address) (dir_of plan.start))
unfolding meets
parent_of_one plan page address alone =
    rw alone (cases plan.no_parent (bytes_eq (host_of address) (host_of plan.start)) (starts_with nat_eq (dir_of address) (dir_of plan.start)))
  where
    cases : (n h d : Bool) → (not n || not (h || false) || ((h && d) || false)) ≡ (not n || not h || d)
    cases true true true = refl
    cases true true false = refl
    cases true false d = refl
    cases false h d = refl

-- ---- the set of starts

-- each start of the one is one of the other
abbrev pub HasStarts : List (List ℕ) → List (List ℕ) → Type 0
HasStarts some all = (start : List ℕ) → Contains some start → Contains all start

any_among : (test : List ℕ → Bool) (some all : List (List ℕ)) → HasStarts some all → list_any test some ≡ true → list_any test all ≡ true
any_among test [] all among passed = cc
any_among test (x ∷ some) all among passed =
    ⊎_elim
    (λ here. found all x (among x (zero, omega arith, refl)) here)
    (λ no. any_among test some all (λ y (k, lt, e). among y (suc k, omega arith, e)) (rw no at passed))
    (cases_Bool (test x))
  where
    found : (xs : List (List ℕ)) (y : List ℕ) → Contains xs y → test y ≡ true → list_any test xs ≡ true
    found [] y (k, lt, e) is = absurd (omega arith)
    found (z ∷ xs) y (zero, lt, e) is = let first : test z ≡ true = ap test e ∙ is in rw first refl
    found (z ∷ xs) y (suc k, lt, e) is = later (test z) (found xs y (k, omega arith, e) is)
      where
        later : (b : Bool) → list_any test xs ≡ true → (b || list_any test xs) ≡ true
        later true rest = refl
        later false rest = rest

-- a test of some start doesn't depend on order or repeats
pub any_start : (test : List ℕ → Bool) (some all : List (List ℕ)) → HasStarts some all → HasStarts all some → list_any test some ≡ list_any test all
any_start test some all there back =
    ⊎_elim
    (λ yes. yes ∙ sym (any_among test some all there yes))
    (λ no. ⊎_elim (λ yes. let also : list_any test some ≡ true = any_among test all some back yes in cc) (λ none. no ∙ sym none) (cases_Bool (list_any test all)))
    (cases_Bool (list_any test some))

-- the plans have the same starts, in any order, and the same rules of following
pub record IsAlike (p q : Plan) : Type 0 where
  pub there : HasStarts (starts p) (starts q)
  pub back : HasStarts (starts q) (starts p)
  pub span_hosts : p.span_hosts ≡ q.span_hosts
  pub span_requisites : p.span_requisites ≡ q.span_requisites
  pub no_parent : p.no_parent ≡ q.no_parent
  pub domains : p.domains ≡ q.domains
  pub exclude_domains : p.exclude_domains ≡ q.exclude_domains
  pub include_dirs : p.include_dirs ≡ q.include_dirs
  pub exclude_dirs : p.exclude_dirs ≡ q.exclude_dirs
  pub accept : p.accept ≡ q.accept
  pub reject : p.reject ≡ q.reject
  pub accept_expressions : p.accept_expressions ≡ q.accept_expressions
  pub reject_expressions : p.reject_expressions ≡ q.reject_expressions
  pub ignore_case : p.ignore_case ≡ q.ignore_case

has_start_of_set : (p q : Plan) (address : List ℕ) → IsAlike p q → has_start_host p address ≡ has_start_host q address
has_start_of_set p q address like = any_start (λ start. has_host_of address start) (starts p) (starts q) like.there like.back

anywhere_of_set : (p q : Plan) (page : List ℕ) (kind : EdgeKind) → IsAlike p q → leads_anywhere p page kind ≡ leads_anywhere q page kind
anywhere_of_set p q page Link like = refl
anywhere_of_set p q page Inline like = like.span_requisites
anywhere_of_set p q page Redirect like = ap (λ b. not b && p.span_requisites) (has_start_of_set p q page like) ∙ ap (λ b. not (has_start_host q page) && b) like.span_requisites

meets_of_set : (p q : Plan) (page : List ℕ) (kind : EdgeKind) (address : List ℕ) → IsAlike p q → (r : FollowRule) → meets r p page kind address ≡ meets r q page kind address
unfolding meets
meets_of_set p q page kind address like rule.RobotsFile = refl
meets_of_set p q page kind address like rule.Host = rw (anywhere_of_set p q page kind like, has_start_of_set p q page like, like.span_hosts, like.span_requisites) refl
meets_of_set p q page kind address like rule.Parent =
    rw (anywhere_of_set p q page kind like, like.no_parent, has_start_of_set p q address like, any_start (λ start. is_below address start) (starts p) (starts q) like.there like.back) refl
meets_of_set p q page kind address like rule.Domain = rw (anywhere_of_set p q page kind like, like.domains) refl
meets_of_set p q page kind address like rule.ExcludedDomain = rw (anywhere_of_set p q page kind like, like.exclude_domains) refl
meets_of_set p q page kind address like rule.NotIncluded = rw (like.include_dirs, like.ignore_case) refl
meets_of_set p q page kind address like rule.Excluded = rw (like.exclude_dirs, like.ignore_case) refl
meets_of_set p q page kind address like rule.NotAccepted = rw (like.accept, like.ignore_case) refl
meets_of_set p q page kind address like rule.Rejected = rw (like.reject, like.ignore_case) refl
meets_of_set p q page kind address like rule.ExpressionMissing = rw like.accept_expressions refl
meets_of_set p q page kind address like rule.ExpressionFound = rw like.reject_expressions refl

-- which edges are followed depends on the set of starts alone
pub follows_of_set : (p q : Plan) (page : List ℕ) (kind : EdgeKind) (address : List ℕ) → IsAlike p q → follows_of p page kind address ≡ follows_of q page kind address
unfolding follows_of
follows_of_set p q page kind address like = list_all-same (λ r. meets r p page kind address) (λ r. meets r q page kind address) (meets_of_set p q page kind address like) rules
