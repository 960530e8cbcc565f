-- Each origin whose rules were requested needs them.
use Rattle.std.proofs.Common.{◌≡◌, Bool, true, false, ◌||◌, not, List, Some, None, Option, refl, sym, ◌∙◌}
use Rattle.std.specs.Prelude.{IsSome}
use Rattle.std.specs.Str.{bytes_eq}
use Rattle.std.proofs.lemmas.Bool.{false≢true}
use Rattle.std.proofs.lemmas.Slice.Eq.{bytes_eq-Decides}
use Rattle.frontier_core.specs.Tables.{Text, lookup}
use Rattle.frontier_core.specs.Routes.{is_start, Policy, IsNeeded}
use Rattle.frontier_core.specs.Machine.{State, OriginRules, answers}
use Rattle.frontier_core.specs.Lines.{IsReplay}
use Rattle.frontier_core.specs.Invariants.{AreNeeded}
use Rattle.frontier_core.specs.declared.event.Event.{Event}
use Rattle.frontier_core.proofs.Kept.{Kept, HasNeed}
use Rattle.frontier_core.proofs.Runs.{kept_replay}
use Rattle.frontier_core.proofs.StartLaws.{test_of_start}

not_exempt : (a b : Bool) → (a || not b) ≡ false → (a ≡ false) × (b ≡ true)
not_exempt true b h = cc
not_exempt false true h = (refl, refl)
not_exempt false false h = cc

need_is : (p : Policy) (s : State) (o : Text) → Kept p s → HasNeed p s o → IsNeeded p (answers s) o
need_is p s o kept (u, n, (e, found, le), off, of) =
    let both = not_exempt (is_start p u) p.robots off in
    let route = (kept.good u e found).route in
    (both.1, u, (route.0, e.depth, route.1), (λ among. false≢true (sym both.0 ∙ test_of_start p.starts u among)), of)

pub needed_replay : (p : Policy) (trace : List Event) (s : State) → IsReplay p trace s → AreNeeded p s
needed_replay p trace s h o some = go (lookup s.origins o) refl some
  where
    go : (q : Option OriginRules) → lookup s.origins o ≡ q → IsSome q → IsNeeded p (answers s) o
    go None e none = absurd (false≢true none)
    go (Some q) e known = need_is p s o (kept_replay p trace s h) ((kept_replay p trace s h).needed o q e)
