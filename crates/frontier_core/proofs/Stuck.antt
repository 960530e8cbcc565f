-- Addresses that are answered and have an edge that leads out of the table.
use Rattle.std.proofs.Common.{◌≡◌, ℕ, ◌+◌, ◌<◌, ◌≤◌, true, Some, None, sym, ap, ◌∙◌, subst, length}
use Rattle.std.specs.Prelude.{slice_get}
use Rattle.std.proofs.lemmas.Option.{slice_get_within, slice_get-get_or, get_or_from_slice_get}
use Rattle.fetcher.specs.Outcomes.{edges}
use Rattle.fetcher.specs.declared.edge.Edge.{Edge}
use Rattle.frontier_core.specs.Tables.{Text, lookup}
use Rattle.frontier_core.specs.Routes.{Policy, admits, weight}
use Rattle.frontier_core.specs.Machine.{State, Slot, Progress, Parked, Waiting, Out, Answered, Refused, slot, slot_outcome, outcome_in}
use Rattle.frontier_core.specs.inner.TableCalls.{edges_at, outcome_edges, key_numbered}
use Rattle.frontier_core.specs.Invariants.{IsStuck, IsOverfull}
use Rattle.frontier_core.proofs.FindLaws.{placed}

-- an edge that is there, is followed and leads out
pub stuck_at : (p : Policy) (s : State) (u : Text) (held : Slot) (k : ℕ) (edge : Edge) → lookup s.entries u ≡ Some held → slice_get (edges_at s u) k ≡ Some edge
    → admits p u edge (held.depth + weight edge.kind) ≡ true → lookup s.entries edge.target ≡ None → IsStuck p s held.depth u k
stuck_at p s u held k edge found has adm none = go held.progress (found) (subst (λ z. slice_get (outcome_edges (slot_outcome z)) k ≡ Some edge) found has)
  where
    go : (q : Progress) → lookup s.entries u ≡ Some (slot held.depth q) → slice_get (outcome_edges (outcome_in q)) k ≡ Some edge → IsStuck p s held.depth u k
    go Parked f h = cc
    go Waiting f h = cc
    go (Out holder) f h = cc
    go (Answered x offering) f h = (x, offering, edge, f, h, adm, none)
    go Refused f h = cc

-- an edge that isn't followed, or whose target is held, doesn't lead out
pub unstuck : (p : Policy) (s : State) (u : Text) (held : Slot) (k : ℕ) (edge : Edge) → lookup s.entries u ≡ Some held → slice_get (edges_at s u) k ≡ Some edge
    → (admits p u edge (held.depth + weight edge.kind) ≡ true → lookup s.entries edge.target ≡ None → ⊥) → (d : ℕ) → IsStuck p s d u k → ⊥
unstuck p s u held k edge found has inside d (x, offering, other, at, here, adm, none) =
    let one : Some held ≡ Some (slot d (Answered x offering)) = sym found ∙ at in
    let same : held ≡ slot d (Answered x offering) = cc in
    let depth : d ≡ held.depth = ap (λ (z : Slot). z.depth) (sym same) in
    let there : slice_get (edges x) k ≡ Some edge = subst (λ z. slice_get (outcome_edges (slot_outcome z)) k ≡ Some edge) at has in
    let both : Some other ≡ Some edge = sym here ∙ there in
    let is : other ≡ edge = cc in
    inside (subst (λ (n : ℕ). admits p u edge (n + weight edge.kind) ≡ true) depth (subst (λ (e : Edge). admits p u e (d + weight e.kind) ≡ true) is adm))
    (subst (λ (e : Edge). lookup s.entries e.target ≡ None) is none)

-- an edge that leads out is among the edges
pub stuck_within : (p : Policy) (s : State) (u : Text) (d k : ℕ) → IsStuck p s d u k → k < length (edges_at s u)
stuck_within p s u d k (x, offering, edge, at, here, adm, none) =
    subst (λ z. k < length (outcome_edges (slot_outcome z))) (sym at) (slice_get_within (edges x) k edge here)

-- a full table with such an edge is overfull
pub overfull_at : (p : Policy) (s : State) (u : Text) → p.max_urls ≤ length s.entries → (d k : ℕ) → IsStuck p s d u k → IsOverfull p s
overfull_at p s u full d k (x, offering, edge, at, here, adm, none) =
    (full, u, d, x, offering, edge, at, (k, slice_get_within (edges x) k edge here, get_or_from_slice_get (edges x) k edge edge here), adm, none)

-- an overfull table has such an edge at an address that is at a place
pub stuck_of : (p : Policy) (s : State) → IsOverfull p s → (i : ℕ) × (i < length s.entries) × (d : ℕ) × (k : ℕ) × IsStuck p s d (key_numbered s.entries i) k
stuck_of p s (full, u, d, x, offering, edge, held, (k, lt, is), adm, none) =
    let there = placed s.entries u (slot d (Answered x offering)) held in (
      there.0,
      there.1,
      d,
      k,
      (
        x,
        offering,
        edge,
        subst (λ (w : Text). lookup s.entries w ≡ Some (slot d (Answered x offering))) (sym there.3) held,
        slice_get-get_or (edges x) k edge lt ∙ ap (λ (e : Edge). Some e) is,
        subst (λ (w : Text). admits p w edge (d + weight edge.kind) ≡ true) (sym there.3) adm,
        none,
      ),
    )
