-- No origin's rules are known twice.
use Rattle.std.proofs.Common.{◌∙◌, sym, subst, List}
use Rattle.frontier_core.specs.Tables.{IsOnce}
use Rattle.frontier_core.specs.Readers.{Ruled}
use Rattle.harvest.specs.Entries.{ruled_origins}
use Rattle.harvest.proofs.GatherLaws.{once_rules}
use Rattle.harvest.proofs.gathering.gather_rules.Goals as goal

pub sort_by_name-requires : goal.sort_by_name-requires
sort_by_name-requires c = subst (λ (rules : List Ruled). IsOnce (ruled_origins rules)) (sym (c.in_ok-rules.ensures ∙ c.rules.ensures.value)) (once_rules _ c.rules.ensures.once)
