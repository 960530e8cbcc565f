-- The same names in order.
use Rattle.std.proofs.Common.{◌≡◌, ◌∙◌, ◌++◌, List, ℕ, [], map, ap, sym, subst, arith}
use Rattle.std.proofs.lemmas.List.{append-nil}
use Rattle.std.proofs.lemmas.List.Sorted.{IsPermutation-map}
use Rattle.std.specs.List.Sorted.{IsPermutation}
use Rattle.mirror_index.specs.Entries.{Entry}
use Rattle.mirror_upkeep.specs.Joined.{names}
use Rattle.mirror_upkeep.specs.inner.Lent.{lent_text}
use Rattle.mirror_upkeep.proofs.LatestLaws.{nothing_left}
use Rattle.mirror_upkeep.proofs.names.entry_names.Goals as goal

pub returns-clause-same : goal.returns-clause-same
returns-clause-same c =
    let old = c.entries.sorted.items in
    let none : c.entries.rest.now ≡ [] = nothing_left c.entries.rest.now (omega (arith, c.in_default.ensures)) in
    let same : map lent_text old ≡ names c.args.entries.now = sym (append-nil (map lent_text old)) ∙ ap (λ (r : List Entry). map lent_text old ++ names r) (sym none) ∙ c.entries.invariant in
    subst (λ (all : List (List ℕ)). IsPermutation all (map lent_text c.sort.new.self.items)) same (IsPermutation-map lent_text old c.sort.new.self.items c.in_ok-sort.ensures.permutation)
