-- What the map has of a host are the starts there.
use Rattle.std.proofs.Common.{◌≡◌, ◌∙◌, [], ℕ, List, Option, None, Some, ap, sym, rules}
use Rattle.std.specs.HashMap.{get_by_text}
use Rattle.std.specs.Option.{option_map_or}
use Rattle.address.specs.Address.{host_of}
use Rattle.follow_filters.specs.inner.Starts.{starts_on}
use Rattle.follow_filters.proofs.starts.Starts.on_host_of.Goals as goal

pub returns-in-Some : goal.returns-in-Some
returns-in-Some c =
    let host = host_of c.args.address.now in
    let found : get_by_text c.self.inside.hosts host ≡ Some c.in-Some.starts.now = search (rules, c.in-Some.ensures.value, c.host.ensures.value) in
    let seen : c.self.inside.list.items ≡ c.args.self.now = search (rules, c.self.view_is) in
    let by_host = c.self.invariant.1 host in
    c.as_slice.ensures.value ∙ (rw found at by_host) ∙ ap (λ (starts : List (List ℕ)). starts_on host starts) seen

pub returns-in-None : goal.returns-in-None
returns-in-None c =
    let host = host_of c.args.address.now in
    let found : get_by_text c.self.inside.hosts host ≡ None = search (rules, c.in-None.ensures.value, c.host.ensures.value) in
    let seen : c.self.inside.list.items ≡ c.args.self.now = search (rules, c.self.view_is) in
    let by_host = c.self.invariant.1 host in
    (rw found at by_host) ∙ ap (λ (starts : List (List ℕ)). starts_on host starts) seen
