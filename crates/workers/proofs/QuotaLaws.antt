-- What is counted of a quota, and what a retrieval keeps by it.
use Rattle.std.proofs.Common.{◌≡◌, ◌≢◌, ◌⊎◌, ◌∙◌, ◌+◌, ◌<◌, ◌≤◌, ℕ, Bool, true, false, inl, inr, List, [], ◌∷◌, ◌++◌, length, map, take, get_or, Option, Some, None, Result, Ok, Err, refl, sym, ap, subst, arith}
use Rattle.std.specs.Prelude.{IfOk, IfErr, IsOk, OnOk, ◌&&◌, if◌then◌else◌}
use Rattle.std.specs.List.{sum_by}
use Rattle.std.proofs.lemmas.List.Sorted.{sum_by-IsPermutation}
use Rattle.std.proofs.lemmas.List.Sums.{sum_by-cons, sum_by_more}
use Rattle.std.proofs.Math.Seq.{take-length, take-append_seam}
use Rattle.std.proofs.lemmas.List.{length-append}
use Rattle.follow_filters.specs.Rules.{keeps_of}
use Rattle.follow_filters.specs.declared.plan.Plan.{Plan}
use Rattle.fetcher.specs.declared.outcome.Outcome.{Outcome}
use Rattle.frontier_core.specs.Tables.{Text}
use Rattle.frontier_core.specs.Traced.{Traced}
use Rattle.frontier_core.specs.declared.event.Cause.{Cause}
use Rattle.frontier_core.specs.declared.event.Cause.TheVariants as why
use Rattle.harvest.specs.Gathered.{IsHarvestOf}
use Rattle.harvest.specs.Harvests.{Harvested}
use Rattle.harvest.specs.Pages.{is_success}
use Rattle.harvest.specs.inner.Pages.{kept_pages_of}
use Rattle.harvest.specs.declared.page.KeptPage.{KeptPage}
use Rattle.workers.specs.Quotas.{IsPassed, KeepsTo, page_len}
use Rattle.workers.specs.declared.retrieval.Halt.{Halt}
use Rattle.workers.specs.inner.Concluded.{IsMiscounted, IsUnexplained}
use Rattle.workers.specs.inner.Turns.{IsNothing}
use Rattle.workers.proofs.ConclusionLaws.{on_ok}

pub memory_not_quota : why.Memory ≢ why.Quota
memory_not_quota is = cc

pub quota_not_full : why.Quota ≢ why.Full
quota_not_full is = cc

pub quota_not_mismatch : why.Quota ≢ why.Mismatch
quota_not_mismatch is = cc

-- no bytes pass no quota
pub none_passed : (most : Option ℕ) → ¬ IsPassed most 0
none_passed None passed = passed
none_passed (Some most) passed = let lt : most < 0 = passed in omega arith

-- the last element counts with those before it
pub last_counts : {X : Type 0} (f : X → ℕ) (xs : List X) (n : ℕ) (d : X) → n < length xs → length xs ≤ n + 1 → sum_by f xs ≡ sum_by f (take n xs) + f (get_or xs n d)
last_counts f xs n d lt few =
    let long : length xs ≡ n + 1 = omega arith in
    ap (λ ys. sum_by f ys) (sym (take-length xs)) ∙ (ap (λ k. sum_by f (take k xs)) long ∙ sum_by_more f xs n d lt)

-- before the pages that came last there are those from before
pub before_last : {X : Type 0} (f : X → ℕ) (old more new : List X) (place : ℕ) → new ≡ old ++ more → place ≡ length old → sum_by f (take place new) ≡ sum_by f old
before_last f old more new place is at = ap (λ ys. sum_by f ys) (ap (λ k. take k new) at ∙ (ap (λ ys. take (length old) ys) is ∙ take-append_seam old more))

-- of one answer at most one page is kept
few_if : {B : Type 0} (b : Bool) (page : KeptPage B) → length (if b then page ∷ [] else []) ≤ 1
few_if true page = omega arith
few_if false page = omega arith

pub one_more : {B : Type 0} (plan : Plan) (u : Text) (x : Outcome) (body : B) (old new : List (KeptPage B)) (place : ℕ) → new ≡ old ++ kept_pages_of plan u x body → place ≡ length old → length new ≤ place + 1
one_more plan u x body old new place is at =
    let few = few_if (keeps_of plan u && is_success x) (record { address = u; body = body }) in
    let long : length new ≡ length old + length (kept_pages_of plan u x body) = ap length is ∙ length-append old (kept_pages_of plan u x body) in
    omega (arith, few, long, at)

-- the bodies of pages are as long as the pages
bodies_len : {B : Type 0} (len_of : B → ℕ) (pages : List (KeptPage B)) → sum_by len_of (map (λ (page : KeptPage B). page.body) pages) ≡ sum_by (page_len len_of) pages
bodies_len len_of [] = refl
bodies_len len_of (page ∷ pages) =
    sum_by-cons len_of page.body (map (λ page. page.body) pages) ∙ (ap (λ n. len_of page.body + n) (bodies_len len_of pages) ∙ sym (sum_by-cons (page_len len_of) page pages))

-- the bodies of a harvest are as long as the pages that it is of
pub kept_len : {B : Type 0} (len_of : B → ℕ) (t : Traced) (pages : List (KeptPage B)) (h : Harvested B) → IsHarvestOf t pages h → sum_by len_of h.bodies ≡ sum_by (page_len len_of) pages
kept_len len_of t pages h of =
    let (sorted, moved, names, bodies) = of.sorted in
    ap (λ bs. sum_by len_of bs) bodies ∙ (bodies_len len_of sorted ∙ sum_by-IsPermutation (page_len len_of) pages sorted moved)

-- what was driven to a quota keeps to it
pub keeps_from : {B : Type 0} (most : Option ℕ) (len_of : B → ℕ) (t : Traced) (pages : List (KeptPage B)) (driven : Result (Unit {0}) Cause) (r : Result (Harvested B) (Halt B))
    → OnOk driven (¬ IsPassed most (sum_by (page_len len_of) pages)) → (driven ≡ Err why.Quota → IsPassed most (sum_by (page_len len_of) pages))
    → IfOk r (λ h. IsOk driven × IsHarvestOf t pages h)
    → IfErr r (λ halt. IsNothing halt.cause halt.harvest ⊎ ((driven ≡ Err halt.cause) × IsHarvestOf t pages halt.harvest))
    → KeepsTo most len_of r
keeps_from most len_of t pages driven (Ok h) within beyond ok err = record {
  within = subst (λ n. ¬ IsPassed most n) (sym (kept_len len_of t pages h ok.1)) (on_ok driven (¬ IsPassed most (sum_by (page_len len_of) pages)) within ok.0);
  beyond = tt;
}
keeps_from most len_of t pages driven (Err halt) within beyond ok (inl nothing) = record {
  within = tt;
  beyond = λ is. absurd (memory_not_quota (sym nothing.memory ∙ is));
}
keeps_from most len_of t pages driven (Err halt) within beyond ok (inr (ended, of)) = record {
  within = tt;
  beyond = λ is. subst (λ n. IsPassed most n) (sym (kept_len len_of t pages halt.harvest of)) (beyond (ended ∙ ap (λ (cause : Cause). Err cause) is));
}

-- what nothing explains, or a count, of the pages and of the harvest that is of them
pub miscounted : {B : Type 0} (most : Option ℕ) (len_of : B → ℕ) (t : Traced) (pages : List (KeptPage B)) (h : Harvested B) → IsHarvestOf t pages h
    → IsUnexplained t ⊎ IsMiscounted most t (sum_by (page_len len_of) pages) → IsUnexplained t ⊎ IsMiscounted most t (sum_by len_of h.bodies)
miscounted most len_of t pages h of = subst (λ n. IsUnexplained t ⊎ IsMiscounted most t n) (sym (kept_len len_of t pages h of))

-- what stopped because memory ran out, without a harvest, keeps to any quota
pub keeps_nothing : {B : Type 0} (most : Option ℕ) (len_of : B → ℕ) (halt : Halt B) → halt.cause ≢ why.Quota → KeepsTo most len_of (Err halt)
keeps_nothing most len_of halt other = record { within = tt; beyond = λ is. absurd (other is) }

-- without a quota nothing stops for one
pub unlimited : {B : Type 0} (len_of : B → ℕ) (r : Result (Harvested B) (Halt B)) → KeepsTo None len_of r → IfErr r (λ halt. halt.cause ≢ why.Quota)
unlimited len_of (Ok h) keeps = tt
unlimited len_of (Err halt) keeps = keeps.beyond
