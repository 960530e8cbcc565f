-- One group after another.
use Rattle.std.proofs.Common.{◌∙◌, ◌++◌, List, ap, append_assoc, option_map}
use Rattle.requests.specs.Fields.{accept_fields, agent_fields, cache_fields, referer_fields}
use Rattle.requests.specs.Lines.{Field}
use Rattle.requests.proofs.fields.own_fields.Goals as goal

pub returns : goal.returns
returns c =
    let agent : List Field = agent_fields (option_map (λ s. s.now) c.args.agent) in
    let cache : List Field = cache_fields c.args.is_uncached in
    let referer : List Field = referer_fields (option_map (λ s. s.now) c.args.referer) in
    c.in_ok-push_referer.ensures
    ∙ ap (λ (l : List Field). l ++ referer) (c.in_ok-push_cache.ensures ∙ ap (λ (l : List Field). l ++ cache) (c.in_ok-push_accept.ensures
    ∙ ap (λ (l : List Field). l ++ accept_fields) (c.in_ok-push_agent.ensures ∙ ap (λ (l : List Field). l ++ agent) c.new-fields.ensures.items)))
    ∙ append_assoc (agent ++ accept_fields) cache referer ∙ append_assoc agent accept_fields (cache ++ referer)
