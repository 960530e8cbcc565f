-- No address is held twice; sorted, what is held is the same, and the entries say it.
use Rattle.std.proofs.Common.{◌∙◌, subst, sym, List, map}
use Rattle.std.specs.List.Sorted.{IsPermutation}
use Rattle.std.proofs.lemmas.List.Sorted.{IsPermutation-map}
use Rattle.std.proofs.lemmas.Result.{IfOk-weaker}
use Rattle.address.specs.AddressOrder.{IsAscending}
use Rattle.harvest.specs.Entries.{Seen, said_by}
use Rattle.harvest.proofs.GatherLaws.{Lent, seen_lent, lent_address, once_held, seen_held, named_alike}
use Rattle.harvest.proofs.gathering.gather_entries.Goals as goal

pub sort_by_name-requires : goal.sort_by_name-requires
sort_by_name-requires c = once_held c.args.frontier.now.state _ (c.in_ok-held.ensures ∙ c.entries.ensures.value) c.entries.ensures.once

pub returns-clause-ascending : goal.returns-clause-ascending
returns-clause-ascending c =
    let up = subst (λ (held : List Lent). IsAscending (map lent_address held)) (sym c.as_slice.ensures.value) c.in_ok-sort_by_name.ensures.ascending in
    IfOk-weaker c.entries_of.result _ _ (λ entries said. subst IsAscending (named_alike entries.items c.as_slice.result.now said) up) c.entries_of.ensures.same

pub returns-clause-same : goal.returns-clause-same
returns-clause-same c =
    let held = c.in_ok-held.held.items in
    let sorted = c.as_slice.result.now in
    let moved = subst (λ (other : List Lent). IsPermutation held other) (sym c.as_slice.ensures.value) c.in_ok-sort_by_name.ensures.permutation in
    IfOk-weaker c.entries_of.result _ _
    (λ entries said. subst (λ (seen : List Seen). IsPermutation seen (map said_by entries.items)) (seen_held c.args.frontier.now.state held (c.in_ok-held.ensures ∙ c.entries.ensures.value))
    (subst (λ (seen : List Seen). IsPermutation (map seen_lent held) seen) (sym said) (IsPermutation-map seen_lent held sorted moved)))
    c.entries_of.ensures.same
