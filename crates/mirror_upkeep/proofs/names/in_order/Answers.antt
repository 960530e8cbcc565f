-- The same names in order.
use Rattle.std.proofs.Common.{◌≡◌, ◌∙◌, ◌++◌, List, ℕ, [], map, ap, sym, subst, arith}
use Rattle.std.proofs.lemmas.List.{append-nil}
use Rattle.std.proofs.lemmas.List.Sorted.{IsPermutation-map}
use Rattle.std.specs.List.Sorted.{IsPermutation}
use Rattle.std.specs.String.{string_bytes}
use Rattle.mirror_upkeep.specs.inner.Lent.{lent_text}
use Rattle.mirror_upkeep.proofs.LatestLaws.{nothing_left}
use Rattle.mirror_upkeep.proofs.names.in_order.Goals as goal

pub returns-clause-same : goal.returns-clause-same
returns-clause-same c =
    let old = c.names.sorted.items in
    let none : c.names.rest.now ≡ [] = nothing_left c.names.rest.now (omega (arith, c.in_default.ensures)) in
    let same : map lent_text old ≡ map string_bytes c.args.names.now = sym (append-nil (map lent_text old)) ∙ ap (λ (r : List _). map lent_text old ++ map string_bytes r) (sym none) ∙ c.names.invariant in
    subst (λ (names : List (List ℕ)). IsPermutation names (map lent_text c.sort.new.self.items)) same (IsPermutation-map lent_text old c.sort.new.self.items c.in_ok-sort.ensures.permutation)
