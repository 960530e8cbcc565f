use Rattle.std.proofs.Common.{length, ap, ◌∙◌}
use Rattle.address.specs.Address.{host_of, port_of, port_text}
use Rattle.local_names.proofs.PlainLaws.{port_behind, host_fits}
use Rattle.local_names.proofs.plain_name.port_text.Goals as goal

pub slice_bounds-result-count : goal.slice_bounds-result-count
slice_bounds-result-count c =
    host_fits c.as_bytes.result.now (host_of c.args.page.now) (port_text (port_of c.args.page.now)) (length c.host.result.now)
    (c.as_bytes.ensures.value ∙ c.authority.ensures.value ∙ c.requires.authority) (ap length c.host.ensures.value)

pub slice_bounds-result-start : goal.slice_bounds-result-start
slice_bounds-result-start c =
    host_fits c.as_bytes.result.now (host_of c.args.page.now) (port_text (port_of c.args.page.now)) (length c.host.result.now)
    (c.as_bytes.ensures.value ∙ c.authority.ensures.value ∙ c.requires.authority) (ap length c.host.ensures.value)

pub returns : goal.returns
returns c =
    port_behind c.as_bytes.result.now (host_of c.args.page.now) (port_text (port_of c.args.page.now)) (length c.host.result.now)
    (c.as_bytes.ensures.value ∙ c.authority.ensures.value ∙ c.requires.authority) (ap length c.host.ensures.value)
