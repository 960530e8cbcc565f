-- The tests of the rules say what the rules mean.
use Rattle.std.proofs.Common.{IsTrue, ◌↔◌, ◌≡◌, ◌∙◌, ℕ, ◌-◌, ◌<◌, Bool, true, false, not, ◌&&◌, ◌||◌, cond, List, [], ◌∷◌, ◌++◌, take, drop, length, get_or, codes, find, nat_eq, Option, Some, None, Result, MatchResult, is_ok, refl, sym, ap, subst, ⊎_elim, arith, All}
use Rattle.std.proofs.lemmas.Bool.{cases_Bool, and_from}
use Rattle.std.proofs.lemmas.Bool.Decides.{Decides-not, Decides-and, Decides-or, Decides-eqb}
use Rattle.std.proofs.lemmas.Slice.Eq.{bytes_eq-Decides, starts_is, ends_is}
use Rattle.std.proofs.lemmas.List.Folds.{Any-from_list_any, list_any-from_Any, list_all_at}
use Rattle.std.proofs.lemmas.List.Elements.{All-nil, All-cons}
use Rattle.std.specs.Bool.{Decides}
use Rattle.std.specs.List.{Any, starts_with, ends_with, list_any, list_all}
use Rattle.std.specs.Str.{str_to_ascii_lowercase}
use Rattle.part_match.specs.Cuts.{Matches}
use Rattle.part_match.proofs.Decided.{is_match-cuts}
use Rattle.fetcher.specs.declared.edge.EdgeKind.{EdgeKind}
use Rattle.fetcher.specs.declared.edge.EdgeKind.TheVariants.{Link, Inline, Redirect}
use Rattle.address.specs.Address.{host_of, dir_of, file_of, path_query_of}
use Rattle.follow_filters.specs.declared.plan.Plan.{Plan}
use Rattle.follow_filters.specs.declared.pattern.PatternPart.{PatternPart}
use Rattle.follow_filters.specs.declared.rule.FollowRule.{FollowRule}
use Rattle.follow_filters.specs.declared.rule.FollowRule.TheVariants as rule
use Rattle.follow_filters.specs.Plans.{starts}
use Rattle.follow_filters.specs.Texts.{BeginsWith, EndsIn}
use Rattle.follow_filters.specs.Domains.{IsInDomain, is_in_domain}
use Rattle.follow_filters.specs.Directories.{IsInDirectory, is_in_directory, read_names, names_in}
use Rattle.follow_filters.specs.Exempt.{IsExempt, is_exempt_file}
use Rattle.follow_filters.specs.Patterns.{MatchesFile, is_file_match, matches_read, read_pattern, is_run, takes_in}
use Rattle.follow_filters.proofs.DirectoryLemmas.{begins_with_read-Decides}
use Rattle.expressions.specs.Expressions.{IsFoundIn, is_found}
use Rattle.expressions.proofs.Compiling.{found_iff}
use Rattle.follow_filters.specs.Rules.{rules, HasStartHost, has_start_host, IsShown, is_shown, LeadsAnywhere, leads_anywhere, Meets, Passes, is_absent, meets, first_unmet, passes_of, follows_of, Follows, IsFirstUnmetBy, edge_verdict, verdict_from, keeps_of, keeps_name, names_some, IsNamedBy, KeepsPage, kept_name, full_name}

-- ---- fronts and backs of texts

ends_with-Decides : (text back : List ℕ) → Decides (ends_with nat_eq text back) (EndsIn text back)
ends_with-Decides text back =
    let is = ends_is Decides-eqb text back (ends_with nat_eq text back) refl in
    (λ yes. (take (length text - length back) text, is.0 yes), λ ends. is.1 ends.0 ends.1)

starts_with-Decides : (text front : List ℕ) → Decides (starts_with nat_eq text front) (BeginsWith text front)
starts_with-Decides text front =
    let is = starts_is Decides-eqb text front (starts_with nat_eq text front) refl in
    (λ yes. (drop (length front) text, is.0 yes), λ begins. is.1 begins.0 begins.1)

-- ---- elements

is_in_domain-Decides : (domain host : List ℕ) → Decides (is_in_domain domain host) (IsInDomain domain host)
unfolding is_in_domain
is_in_domain-Decides domain host =
    Decides-or _ _ (bytes_eq-Decides (str_to_ascii_lowercase host) (str_to_ascii_lowercase domain))
    (ends_with-Decides (str_to_ascii_lowercase host) (codes "." ++ str_to_ascii_lowercase domain))

is_in_directory-Decides : (ignores_case : Bool) (element dir : List ℕ) → Decides (is_in_directory ignores_case element dir) (IsInDirectory ignores_case element dir)
unfolding is_in_directory
is_in_directory-Decides ignores_case element dir = begins_with_read-Decides ignores_case (read_names element) (names_in dir)

is_exempt_file-Decides : (file : List ℕ) → Decides (is_exempt_file file) (IsExempt file)
is_exempt_file-Decides file =
    Decides-or _ _ (bytes_eq-Decides file []) (Decides-or _ _ (ends_with-Decides file (codes ".htm")) (ends_with-Decides file (codes ".html")))

matches_read-Decides : (ignores_case : Bool) (read : Option (List PatternPart)) (file : List ℕ) → Decides (matches_read ignores_case read file) ((parts : List PatternPart) × (read ≡ Some parts) × Matches is_run (takes_in ignores_case) parts file)
matches_read-Decides ignores_case None file = (λ yes. cc, λ match. let none = match.1 in cc)
matches_read-Decides ignores_case (Some parts) file =
    let cut = is_match-cuts is_run (takes_in ignores_case) parts file in
    (λ yes. (parts, refl, cut.0 yes), λ match. cut.1 (subst (λ ps. Matches is_run (takes_in ignores_case) ps file) (let same = match.1 in cc) match.2))

is_file_match-Decides : (ignores_case : Bool) (element file : List ℕ) → Decides (is_file_match ignores_case element file) (MatchesFile ignores_case element file)
unfolding is_file_match
is_file_match-Decides ignores_case element file = matches_read-Decides ignores_case (read_pattern element) file

-- some element of a list passes a test
any-Decides : {X : Type 0} (p : X → Bool) (P : X → Type 0) → ((x : X) → Decides (p x) (P x)) → (xs : List X) → Decides (list_any p xs) (Any P xs)
any-Decides p P each xs = (
  λ yes. let some = Any-from_list_any p xs yes in (some.0, some.1, some.2, some.3, (each some.1).0 some.4),
  λ some. list_any-from_Any p xs (some.0, some.1, some.2, some.3, (each some.1).1 some.4),
)

-- ---- rules

-- a list that is absent is empty
is_absent-Decides : (elements : List (List ℕ)) → Decides (is_absent elements) (elements ≡ [])
is_absent-Decides [] = (λ yes. refl, λ none. refl)
is_absent-Decides (first ∷ others) = (λ yes. cc, λ none. cc)

-- a fact unless a flag is set
unless : {Q : Type 0} (x y : Bool) → Decides y Q → Decides (x || y) (x ≡ false → Q)
unless true y q = (λ yes no. cc, λ all. refl)
unless false y q = (λ yes no. q.0 yes, λ all. q.1 (all refl))

-- a fact unless another holds
unless_fact : {P Q : Type 0} (x y : Bool) → Decides x P → Decides y Q → Decides (x || y) (¬ P → Q)
unless_fact true y p q = (λ yes no. absurd (no (p.0 refl)), λ all. refl)
unless_fact false y p q = (λ yes no. q.0 yes, λ all. q.1 (all (λ h. let yes = p.1 h in cc)))

-- a fact unless one of two others holds
unless_facts : {P Q R : Type 0} (x y z : Bool) → Decides x P → Decides y Q → Decides z R → Decides (x || y || z) (¬ P → ¬ Q → R)
unless_facts true y z p q r = (λ yes no none. absurd (no (p.0 refl)), λ all. refl)
unless_facts false y z p q r =
    let rest = unless_fact y z q r in
    (λ yes no none. rest.0 yes none, λ all. rest.1 (λ none. all (λ h. let yes = p.1 h in cc) none))

-- a fact if a flag is set and another fact holds
where_both : {P Q : Type 0} (x y z : Bool) → Decides y P → Decides z Q → Decides (not x || not y || z) (x ≡ true → P → Q)
where_both true true z p q = (λ yes set h. q.0 yes, λ all. q.1 (all refl (p.0 refl)))
where_both true false z p q = (λ yes set h. let no = p.1 h in cc, λ all. refl)
where_both false y z p q = (λ yes set h. cc, λ all. refl)

-- a fact if a flag is set
where_set : {Q : Type 0} (x y : Bool) → Decides y Q → Decides (not x || y) (x ≡ true → Q)
where_set true y q = (λ yes set. q.0 yes, λ all. q.1 (all refl))
where_set false y q = (λ yes set. cc, λ all. refl)

has_start_host-Decides : (plan : Plan) (address : List ℕ) → Decides (has_start_host plan address) (HasStartHost plan address)
has_start_host-Decides plan address = any-Decides _ _ (λ start. bytes_eq-Decides (host_of address) (host_of start)) (starts plan)

is_shown-Decides : (plan : Plan) (page : List ℕ) (kind : EdgeKind) → Decides (is_shown plan page kind) (IsShown plan page kind)
is_shown-Decides plan page Link = (λ yes. cc, λ never. absurd never)
is_shown-Decides plan page Inline = (λ yes. tt, λ always. refl)
is_shown-Decides plan page Redirect = Decides-not _ (has_start_host-Decides plan page)

leads_anywhere-Decides : (plan : Plan) (page : List ℕ) (kind : EdgeKind) → Decides (leads_anywhere plan page kind) (LeadsAnywhere plan page kind)
leads_anywhere-Decides plan page kind = Decides-and _ _ (is_shown-Decides plan page kind) (λ yes. yes, λ yes. yes)

pub meets-Decides : (r : FollowRule) (plan : Plan) (page : List ℕ) (kind : EdgeKind) (address : List ℕ) → Decides (meets r plan page kind address) (Meets r plan page kind address)
unfolding meets
meets-Decides rule.RobotsFile plan page kind address = Decides-not _ (bytes_eq-Decides (path_query_of address) (codes "/robots.txt"))
meets-Decides rule.Host plan page kind address =
    unless_fact _ _ (leads_anywhere-Decides plan page kind)
    (unless _ _ (Decides-and _ _ (bytes_eq-Decides (host_of address) (host_of page)) (where_set _ _ (has_start_host-Decides plan page))))
meets-Decides rule.Parent plan page kind address =
    unless_fact _ _ (leads_anywhere-Decides plan page kind)
    (where_both _ _ _ (has_start_host-Decides plan address)
    (any-Decides _ _ (λ start. Decides-and _ _ (bytes_eq-Decides (host_of address) (host_of start)) (starts_with-Decides (dir_of address) (dir_of start))) (starts plan)))
meets-Decides rule.Domain plan page kind address =
    unless_fact _ _ (leads_anywhere-Decides plan page kind)
    (unless_fact _ _ (is_absent-Decides plan.domains) (any-Decides _ _ (λ d. is_in_domain-Decides d (host_of address)) plan.domains))
meets-Decides rule.ExcludedDomain plan page kind address =
    unless_fact _ _ (leads_anywhere-Decides plan page kind) (Decides-not _ (any-Decides _ _ (λ d. is_in_domain-Decides d (host_of address)) plan.exclude_domains))
meets-Decides rule.NotIncluded plan page kind address =
    unless_fact _ _ (is_absent-Decides plan.include_dirs) (any-Decides _ _ (λ d. is_in_directory-Decides plan.ignore_case d (dir_of address)) plan.include_dirs)
meets-Decides rule.Excluded plan page kind address = Decides-not _ (any-Decides _ _ (λ d. is_in_directory-Decides plan.ignore_case d (dir_of address)) plan.exclude_dirs)
meets-Decides rule.NotAccepted plan page kind address =
    unless_facts _ _ _ (is_exempt_file-Decides (file_of address)) (is_absent-Decides plan.accept) (any-Decides _ _ (λ p. is_file_match-Decides plan.ignore_case p (file_of address)) plan.accept)
meets-Decides rule.Rejected plan page kind address =
    unless_fact _ _ (is_exempt_file-Decides (file_of address)) (Decides-not _ (any-Decides _ _ (λ p. is_file_match-Decides plan.ignore_case p (file_of address)) plan.reject))
meets-Decides rule.ExpressionMissing plan page kind address =
    unless_fact _ _ (is_absent-Decides plan.accept_expressions) (any-Decides _ _ (λ e. found_iff e address) plan.accept_expressions)
meets-Decides rule.ExpressionFound plan page kind address = Decides-not _ (any-Decides _ _ (λ e. found_iff e address) plan.reject_expressions)

-- ---- all rules

-- a test that all elements pass is passed by each
passed : {X : Type 0} (p : X → Bool) (xs : List X) (i : ℕ) (d : X) → i < length xs → list_all p xs ≡ true → p (get_or xs i d) ≡ true
passed p xs i d below all = ⊎_elim (λ yes. yes) (λ no. let some = list_all_at p xs i d below no in cc) (cases_Bool (p (get_or xs i d)))

-- the place of a rule among the rules
place : FollowRule → ℕ
place rule.RobotsFile = 0
place rule.Host = 1
place rule.Parent = 2
place rule.Domain = 3
place rule.ExcludedDomain = 4
place rule.NotIncluded = 5
place rule.Excluded = 6
place rule.NotAccepted = 7
place rule.Rejected = 8
place rule.ExpressionMissing = 9
place rule.ExpressionFound = 10

-- every rule is among the rules
listed : (r : FollowRule) → (place r < length rules) × (get_or rules (place r) rule.Rejected ≡ r)
unfolding place
listed rule.RobotsFile = (omega arith, refl)
listed rule.Host = (omega arith, refl)
listed rule.Parent = (omega arith, refl)
listed rule.Domain = (omega arith, refl)
listed rule.ExcludedDomain = (omega arith, refl)
listed rule.NotIncluded = (omega arith, refl)
listed rule.Excluded = (omega arith, refl)
listed rule.NotAccepted = (omega arith, refl)
listed rule.Rejected = (omega arith, refl)
listed rule.ExpressionMissing = (omega arith, refl)
listed rule.ExpressionFound = (omega arith, refl)

-- what each rule of a list says, its tests say together
all_met : (plan : Plan) (page : List ℕ) (kind : EdgeKind) (address : List ℕ) (rs : List FollowRule) → ((r : FollowRule) → meets r plan page kind address ≡ true) → list_all (λ r. meets r plan page kind address) rs ≡ true
all_met plan page kind address [] each = refl
all_met plan page kind address (r ∷ rs) each = and_from _ _ (each r) (all_met plan page kind address rs each)

-- the test `follows_of` holds of a page and a text exactly if they meet each of the rules, for every plan: a law for definitions
-- of other crates that take a test
pub follows_of-is : (plan : Plan) (page : List ℕ) (kind : EdgeKind) (address : List ℕ) → IsTrue (follows_of plan page kind address) ↔ Follows plan page kind address
unfolding follows_of
follows_of-is plan page kind address = (
  λ yes r. (meets-Decides r plan page kind address).0
      (subst (λ s. meets s plan page kind address ≡ true) (listed r).1 (passed (λ s. meets s plan page kind address) rules (place r) rule.Rejected (listed r).0 yes)),
  λ pass. all_met plan page kind address rules (λ r. (meets-Decides r plan page kind address).1 (pass r)),
)

-- the same of the start's edges
pub passes_of-is : (plan : Plan) (address : List ℕ) → IsTrue (passes_of plan address) ↔ Passes plan address
passes_of-is plan address = follows_of-is plan plan.start Link address

-- ---- the first rule that isn't met

-- no element fails a test exactly if all pass it
find-list_all : (q : FollowRule → Bool) (rs : List FollowRule) → is_ok (verdict_from (find (λ r. not (q r)) rs)) ≡ list_all q rs
find-list_all q [] = refl
find-list_all q (r ∷ rs) =
    let P : Bool → Type 0 = λ b. is_ok (verdict_from (cond (not b) (Some r) (find (λ s. not (q s)) rs))) ≡ (b && list_all q rs) in
    let both : (b : Bool) → P b = elim [ true ↦ find-list_all q rs | false ↦ refl ] in
    both (q r)

pub verdict-follows : (plan : Plan) (page : List ℕ) (kind : EdgeKind) (address : List ℕ) → is_ok (edge_verdict plan page kind address) ≡ follows_of plan page kind address
unfolding follows_of first_unmet
verdict-follows plan page kind address = find-list_all (λ r. meets r plan page kind address) rules

-- what is found first comes after what passes the test, and fails it
find-split : (q : FollowRule → Bool) (rs : List FollowRule) (u : FollowRule) → find (λ r. not (q r)) rs ≡ Some u → (before after : List FollowRule) × (rs ≡ before ++ u ∷ after) × All (λ r. q r ≡ true) before × (q u ≡ false)
find-split q [] u found = cc
find-split q (r ∷ rs) u found =
    ⊎_elim
    (λ yes.
    let later : find (λ s. not (q s)) rs ≡ Some u = rw yes at found in
    let split = find-split q rs u later in
    (r ∷ split.0, split.1, ap (λ xs. r ∷ xs) split.2, All-cons (λ s. q s ≡ true) r split.0 yes split.3, split.4))
    (λ no.
    let here : Some r ≡ Some u = rw no at found in
    let same : r ≡ u = cc in
    ([], rs, ap (λ s. s ∷ rs) same, All-nil (λ s. q s ≡ true), ap q (sym same) ∙ no))
    (cases_Bool (q r))

-- what the first unmet rule, or none, says of the rules
means_from : (plan : Plan) (page : List ℕ) (kind : EdgeKind) (address : List ℕ) (found : Option FollowRule) → first_unmet plan page kind address ≡ found → MatchResult (verdict_from found) (λ nothing. Follows plan page kind address) (IsFirstUnmetBy plan page kind address)
unfolding first_unmet
means_from plan page kind address None none =
    (follows_of-is plan page kind address).0 (sym (verdict-follows plan page kind address) ∙ ap (λ o. is_ok (verdict_from o)) none)
means_from plan page kind address (Some unmet) found =
    let split = find-split (λ r. meets r plan page kind address) rules unmet found in
    (split.0, split.1, split.2, λ k d below. (meets-Decides (get_or split.0 k d) plan page kind address).0 (split.3 k d below), λ met. let yes = (meets-Decides unmet plan page kind address).1 met in let no = split.4 in cc)

pub verdict-means : (plan : Plan) (page : List ℕ) (kind : EdgeKind) (address : List ℕ) → MatchResult (edge_verdict plan page kind address) (λ nothing. Follows plan page kind address) (IsFirstUnmetBy plan page kind address)
verdict-means plan page kind address = means_from plan page kind address (first_unmet plan page kind address) refl

-- what an answer that is the verdict says
pub told : (plan : Plan) (page : List ℕ) (kind : EdgeKind) (address : List ℕ) (answer : Result (Unit {0}) FollowRule) → answer ≡ edge_verdict plan page kind address → (is_ok answer ≡ follows_of plan page kind address) × MatchResult answer (λ nothing. Follows plan page kind address) (IsFirstUnmetBy plan page kind address)
told plan page kind address answer is = (
  ap is_ok is ∙ verdict-follows plan page kind address,
  subst (λ a. MatchResult a (λ nothing. Follows plan page kind address) (IsFirstUnmetBy plan page kind address)) (sym is) (verdict-means plan page kind address),
)

-- ---- which pages are kept

is_named-Decides : (ignores_case : Bool) (patterns : List (List ℕ)) (address : List ℕ) → Decides (names_some ignores_case patterns (kept_name address) (full_name address)) (IsNamedBy ignores_case patterns address)
is_named-Decides ignores_case patterns address =
    any-Decides _ _ (λ p. Decides-or _ _ (is_file_match-Decides ignores_case p (kept_name address)) (is_file_match-Decides ignores_case p (full_name address))) patterns

pub keeps_of-is : (plan : Plan) (address : List ℕ) → Decides (keeps_of plan address) (KeepsPage plan address)
unfolding keeps_of
keeps_of-is plan address =
    Decides-and _ _ (unless_fact _ _ (is_absent-Decides plan.accept) (is_named-Decides plan.ignore_case plan.accept address)) (Decides-not _ (is_named-Decides plan.ignore_case plan.reject address))

pub kept : (plan : Plan) (address name full : List ℕ) (answer : Bool) → answer ≡ keeps_name plan name full → name ≡ kept_name address → full ≡ full_name address → (answer ≡ keeps_of plan address) × (IsTrue answer ↔ KeepsPage plan address)
unfolding keeps_of
kept plan address name full answer is named whole =
    let value : answer ≡ keeps_of plan address = is ∙ ap (λ n. keeps_name plan n full) named ∙ ap (keeps_name plan (kept_name address)) whole in
    let means = keeps_of-is plan address in
    (value, (λ yes. means.0 (sym value ∙ yes), λ keeps. value ∙ means.1 keeps))
