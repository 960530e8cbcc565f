-- Starts on other hosts don't count.
use Rattle.std.proofs.Common.{◌∙◌, ℕ, List, nat_eq, ap}
use Rattle.std.specs.List.{list_any, starts_with}
use Rattle.address.specs.Address.{dir_of}
use Rattle.follow_filters.specs.Rules.{has_host_of, is_below}
use Rattle.follow_filters.proofs.StartLaws.{any_filtered}
use Rattle.follow_filters.proofs.starts.Starts.has_above.Goals as goal

pub returns : goal.returns
returns c =
    c.is_below_some.ensures
    ∙ ap (λ (starts : List (List ℕ)). list_any (λ start. is_below c.args.address.now start) starts) c.on_host_of.ensures
    ∙ any_filtered (λ start. has_host_of c.args.address.now start) (λ start. starts_with nat_eq (dir_of c.args.address.now) (dir_of start)) c.args.self.now
