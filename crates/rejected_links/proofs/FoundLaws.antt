-- What was found, as a search by halves finds it, and which links are rejected.
use Rattle.std.proofs.Common.{◌≡◌, ℕ, ◌+◌, ◌<◌, inl, inr, Bool, true, false, not, cond, List, [], ◌∷◌, ◌++◌, length, get_or, map, take, Option, Some, None, Result, Ok, Err, zero, refl, sym, ap, ◌∙◌, subst, arith}
use Rattle.std.specs.Prelude.{All, Contains, slice_get, ◌↔◌, if◌then◌else◌, bytes_eq, option_map, is_ok}
use Rattle.std.specs.List.{filter_map, find, list_any}
use Rattle.std.specs.List.Sorted.{IsBinarySearchResult, IsSearchInRange}
use Rattle.std.specs.Ordering.{nat_cmp, ordering_reverse}
use Rattle.std.specs.Cmp.Lexicographic.{slice_cmp, nat_list_cmp_total, nat_list_eq_equiv}
use Rattle.std.specs.declared.cmp.Ordering.{Ordering}
use Rattle.std.specs.declared.cmp.Ordering.TheVariants.{Less, Equal, Greater}
use Rattle.std.proofs.lemmas.Bool.{cases_lt, false_from_ne_true}
use Rattle.std.proofs.lemmas.List.{length-map, get_or-map}
use Rattle.std.proofs.lemmas.List.Elements.{All-tail}
use Rattle.std.proofs.lemmas.List.Sorted.{searchable_from_sorted}
use Rattle.std.proofs.lemmas.Map.Lookups.{exact_bytes}
use Rattle.std.proofs.lemmas.Map.Views.{Contains-from_any, list_any-from_Contains}
use Rattle.std.proofs.lemmas.Option.{slice_get-get_or}
use Rattle.std.proofs.lemmas.Slice.Eq.{bytes_eq-Decides}
use Rattle.address.specs.AddressOrder.{IsAscending}
use Rattle.address.proofs.AddressOrderLaws.{IsSortedBy-from_ascending}
use Rattle.fetcher.specs.Outcomes.{edges}
use Rattle.fetcher.specs.declared.edge.Edge.{Edge}
use Rattle.fetcher.specs.declared.edge.EdgeKind.{EdgeKind}
use Rattle.follow_filters.specs.Rules.{meets, first_unmet, verdict_from, IsFirstUnmetBy}
use Rattle.follow_filters.specs.declared.plan.Plan.{Plan}
use Rattle.follow_filters.specs.declared.rule.FollowRule.{FollowRule}
use Rattle.follow_filters.proofs.Meaning.{meets-Decides, verdict-means}
use Rattle.frontier_core.specs.Tables.{Text}
use Rattle.frontier_core.specs.Readers.{Recorded}
use Rattle.harvest.specs.Harvests.{Harvested}
use Rattle.harvest.specs.declared.entry.HarvestEntry.{HarvestEntry}
use Rattle.rejected_links.specs.declared.reason.Reason.{Reason}
use Rattle.rejected_links.specs.Lines.{Rejected}
use Rattle.rejected_links.specs.Reasons.{reason_of}
use Rattle.rejected_links.specs.Rejections.{found_addresses, IsRejected}
use Rattle.rejected_links.specs.inner.Found.{rejection, rejected_edge, rejected_in}
use Rattle.rejected_links.proofs.ListLaws.{to_given, from_given, given_none, given_some, to_joined, from_joined}

-- ---- found addresses

-- a text is neither less nor more than itself
compare_same : (u : Text) → (slice_cmp nat_cmp u u ≡ Less → ⊥) × (slice_cmp nat_cmp u u ≡ Greater → ⊥)
compare_same u = go (slice_cmp nat_cmp u u) (nat_list_cmp_total.antisymm u u)
  where
    go : (o : Ordering) → o ≡ ordering_reverse o → (o ≡ Less → ⊥) × (o ≡ Greater → ⊥)
    go Less e = cc
    go Equal e = ((λ h. cc), (λ h. cc))
    go Greater e = cc

entry_at : Text → HarvestEntry
entry_at u = record { address = u; depth = 0; refused = false; answer = None }

bytes_exact : (u v : Text) → bytes_eq u v ≡ true → u ≡ v
bytes_exact u v same = (bytes_eq-Decides u v).0 same

-- a text that is among texts is found, and one that isn't isn't
pub is_among : (u : Text) (texts : List Text) → Contains texts u → list_any (bytes_eq u) texts ≡ true
is_among u texts among = list_any-from_Contains nat_list_eq_equiv u texts among

pub among_is : (u : Text) (texts : List Text) → list_any (bytes_eq u) texts ≡ true → Contains texts u
among_is u texts found = Contains-from_any bytes_exact u texts found

-- what a binary search by the address finds
pub found_is : (entries : List HarvestEntry) (u : Text) (r : Result ℕ ℕ) → IsAscending (found_addresses entries) → IsSearchInRange r (length entries)
    → IsBinarySearchResult (λ (x : HarvestEntry). slice_cmp nat_cmp x.address u) entries r → is_ok r ≡ list_any (bytes_eq u) (found_addresses entries)
found_is entries u (Ok i) up within found =
    let key : HarvestEntry → Text = λ entry. entry.address in
    let is : (get_or entries i (entry_at u)).address ≡ u = exact_bytes _ _ (found (entry_at u)) in
    sym (is_among u (map key entries) (i, omega (arith, length-map entries key), get_or-map key entries i (entry_at u) u within ∙ is))
found_is entries u (Err i) up within found =
    let key : HarvestEntry → Text = λ entry. entry.address in
    let parts = found (searchable_from_sorted nat_list_cmp_total key entries u (IsSortedBy-from_ascending key entries up)) in
    sym (false_from_ne_true (list_any (bytes_eq u) (map key entries)) (λ yes.
    let (k, lt, is) = among_is u (map key entries) yes in
    let here : k < length entries = omega (arith, length-map entries key) in
    let named : (get_or entries k (entry_at u)).address ≡ u = sym (get_or-map key entries k (entry_at u) u here) ∙ is in
    elim (cases_lt k i) [
      | inl before ↦ (compare_same u).0 (ap (λ (w : Text). slice_cmp nat_cmp w u) (sym named) ∙ parts.0 k (entry_at u) (omega arith) before)
      | inr after ↦ (compare_same u).1 (ap (λ (w : Text). slice_cmp nat_cmp w u) (sym named) ∙ parts.1 k (entry_at u) after here)
    ]))

-- ---- the first unmet rule

pub unmet_none : (o : Option FollowRule) (u : Unit {0}) → Ok u ≡ verdict_from o → o ≡ None
unmet_none None u is = refl
unmet_none (Some rule) u is = cc

pub unmet_some : (o : Option FollowRule) (rule : FollowRule) → Err rule ≡ verdict_from o → o ≡ Some rule
unmet_some None rule is = cc
unmet_some (Some other) rule is = cc

-- what comes after what passes a test, and fails it, is found first
find_first : (q : FollowRule → Bool) (before after : List FollowRule) (u : FollowRule) → All (λ r. q r ≡ true) before → q u ≡ false → find (λ r. not (q r)) (before ++ u ∷ after) ≡ Some u
find_first q [] after u met unmet = ap (λ b. cond (not b) (Some u) (find (λ r. not (q r)) after)) unmet
find_first q (r ∷ before) after u met unmet =
    ap (λ b. cond (not b) (Some r) (find (λ s. not (q s)) (before ++ u ∷ after))) (met zero r (omega arith))
    ∙ find_first q before after u (All-tail (λ s. q s ≡ true) r before met) unmet

first_from : (plan : Plan) (page : Text) (kind : EdgeKind) (target : Text) (rule : FollowRule) → IsFirstUnmetBy plan page kind target rule → first_unmet plan page kind target ≡ Some rule
unfolding first_unmet
first_from plan page kind target rule (before, after, split, met, unmet) =
    let q : FollowRule → Bool = λ r. meets r plan page kind target in
    ap (find (λ r. not (q r))) split
    ∙ find_first q before after rule (λ k d below. (meets-Decides (get_or before k d) plan page kind target).1 (met k d below))
    (false_from_ne_true (q rule) (λ yes. unmet ((meets-Decides rule plan page kind target).0 yes)))

is_first : (plan : Plan) (page : Text) (kind : EdgeKind) (target : Text) (rule : FollowRule) → first_unmet plan page kind target ≡ Some rule → IsFirstUnmetBy plan page kind target rule
is_first plan page kind target rule is = rw is at (verdict-means plan page kind target)

-- ---- rejected links

-- an edge is rejected exactly if its target wasn't found and it doesn't meet a rule
why_from : (plan : Plan) (found : List Text) (page : Text) (kind : EdgeKind) (target : Text) (why : Reason) → rejection plan found page kind target ≡ Some why
    → (rule : FollowRule) × (first_unmet plan page kind target ≡ Some rule) × (why ≡ reason_of rule) × (list_any (bytes_eq target) found ≡ false)
why_from plan found page kind target why is = go (list_any (bytes_eq target) found) (first_unmet plan page kind target) refl refl is
  where
    go : (b : Bool) (o : Option FollowRule) → list_any (bytes_eq target) found ≡ b → first_unmet plan page kind target ≡ o → (if b then None else option_map reason_of o) ≡ Some why
        → (rule : FollowRule) × (first_unmet plan page kind target ≡ Some rule) × (why ≡ reason_of rule) × (list_any (bytes_eq target) found ≡ false)
    go true o e f is = cc
    go false None e f is = cc
    go false (Some rule) e f is = (rule, f, cc, e)

why_is : (plan : Plan) (found : List Text) (page : Text) (kind : EdgeKind) (target : Text) (rule : FollowRule) → first_unmet plan page kind target ≡ Some rule → list_any (bytes_eq target) found ≡ false
    → rejection plan found page kind target ≡ Some (reason_of rule)
why_is plan found page kind target rule unmet unfound = rw (unfound, unmet) refl

edge_from : (plan : Plan) (found : List Text) (page : Text) (edge : Edge) (link : Rejected) → rejected_edge plan found page edge ≡ Some link
    → (rejection plan found page edge.kind edge.target ≡ Some link.reason) × (link.target ≡ edge.target) × (link.page ≡ page)
edge_from plan found page edge link is = go (rejection plan found page edge.kind edge.target) refl is
  where
    go : (o : Option Reason) → rejection plan found page edge.kind edge.target ≡ o → option_map (λ why. record { reason = why; target = edge.target; page = page }) o ≡ Some link
        → (rejection plan found page edge.kind edge.target ≡ Some link.reason) × (link.target ≡ edge.target) × (link.page ≡ page)
    go None e is = cc
    go (Some why) e is =
        let same : record { reason = why; target = edge.target; page = page } ≡ link = cc in
        (e ∙ ap (λ (l : Rejected). Some l.reason) same, sym (ap (λ (l : Rejected). l.target) same), sym (ap (λ (l : Rejected). l.page) same))

-- one more edge, which is rejected or isn't
is_edge : (es : List Edge) (k : ℕ) (edge : Edge) → k < length es → slice_get es k ≡ Some edge → get_or es k edge ≡ edge
is_edge es k edge within at = let both : Some (get_or es k edge) ≡ Some edge = sym (slice_get-get_or es k edge within) ∙ at in cc

pub more_none : (plan : Plan) (found : List Text) (page : Text) (es : List Edge) (k : ℕ) (edge : Edge) → k < length es → slice_get es k ≡ Some edge → None ≡ rejection plan found page edge.kind edge.target
    → filter_map (rejected_edge plan found page) (take (k + 1) es) ≡ filter_map (rejected_edge plan found page) (take k es)
more_none plan found page es k edge within at none =
    given_none (rejected_edge plan found page) es k edge within
    (ap (rejected_edge plan found page) (is_edge es k edge within at) ∙ ap (option_map (λ (why : Reason). record { reason = why; target = edge.target; page = page })) (sym none))

pub more_some : (plan : Plan) (found : List Text) (page : Text) (es : List Edge) (k : ℕ) (edge : Edge) (why : Reason) → k < length es → slice_get es k ≡ Some edge → Some why ≡ rejection plan found page edge.kind edge.target
    → filter_map (rejected_edge plan found page) (take (k + 1) es) ≡ filter_map (rejected_edge plan found page) (take k es) ++ record { reason = why; target = edge.target; page = page } ∷ []
more_some plan found page es k edge why within at some =
    given_some (rejected_edge plan found page) es k edge _ within
    (ap (rejected_edge plan found page) (is_edge es k edge within at) ∙ ap (option_map (λ (why : Reason). record { reason = why; target = edge.target; page = page })) (sym some))

-- the links that are found are the rejected ones
pub rejected_is : {B : Type 0} (h : Harvested B) (plan : Plan) → h.plan ≡ Some plan → (link : Rejected) → Contains (rejected_in plan (found_addresses h.entries) h.records) link ↔ IsRejected h link
rejected_is h plan planned link = (there, back)
  where
    found : List Text
    found = found_addresses h.entries

    of_page : Recorded → List Rejected
    of_page recorded = filter_map (rejected_edge plan found recorded.0) (edges recorded.1)

    there : Contains (rejected_in plan found h.records) link → IsRejected h link
    there among =
        let (recorded, answered, in_page) = from_joined of_page h.records link among in
        let (edge, listed, is) = from_given (rejected_edge plan found recorded.0) (edges recorded.1) link in_page in
        let (why, target, page) = edge_from plan found recorded.0 edge link is in
        let (rule, unmet, reason, unfound) = why_from plan found recorded.0 edge.kind edge.target link.reason why in
        record {
          plan = plan;
          outcome = recorded.1;
          kind = edge.kind;
          rule = rule;
          planned = planned;
          answered = subst (λ (u : Text). Contains h.records (u, recorded.1)) (sym page) answered;
          edge = subst (λ (u : Text). Contains (edges recorded.1) (record { target = u; kind = edge.kind })) (sym target) listed;
          unfound = λ has. let yes = is_among link.target found has in let no = ap (λ (u : Text). list_any (bytes_eq u) found) target ∙ unfound in cc;
          unmet = subst (λ (u : Text). IsFirstUnmetBy plan u edge.kind link.target rule) (sym page) (subst (λ (u : Text). IsFirstUnmetBy plan recorded.0 edge.kind u rule) (sym target) (is_first plan recorded.0 edge.kind edge.target rule unmet));
          reason = reason;
        }

    back : IsRejected h link → Contains (rejected_in plan found h.records) link
    back of =
        let same : of.plan ≡ plan = let both : Some of.plan ≡ Some plan = sym of.planned ∙ planned in cc in
        let unmet = first_from plan link.page of.kind link.target of.rule (subst (λ (p : Plan). IsFirstUnmetBy p link.page of.kind link.target of.rule) same of.unmet) in
        let unfound = false_from_ne_true (list_any (bytes_eq link.target) found) (λ yes. of.unfound (among_is link.target found yes)) in
        let why = why_is plan found link.page of.kind link.target of.rule unmet unfound in
        to_joined of_page h.records (link.page, of.outcome) link of.answered
        (to_given (rejected_edge plan found link.page) (edges of.outcome) (record { target = link.target; kind = of.kind }) link of.edge
        (ap (option_map (λ (r : Reason). record { reason = r; target = link.target; page = link.page })) why
        ∙ ap (λ (r : Reason). Some (record { reason = r; target = link.target; page = link.page })) (sym of.reason)))
