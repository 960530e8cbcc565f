-- Starts on other hosts don't count.
use Rattle.std.proofs.Common.{◌∙◌, ℕ, List, ap}
use Rattle.std.specs.List.{list_any}
use Rattle.follow_filters.specs.Rules.{has_host_of}
use Rattle.follow_filters.proofs.StartLaws.{any_same}
use Rattle.follow_filters.proofs.starts.Starts.has_host_of.Goals as goal

pub returns : goal.returns
returns c =
    c.has_host_of_some.ensures
    ∙ ap (λ (starts : List (List ℕ)). list_any (λ start. has_host_of c.args.address.now start) starts) c.on_host_of.ensures
    ∙ any_same (λ start. has_host_of c.args.address.now start) c.args.self.now
