use Rattle.std.proofs.Common.{map, drop, ap, ◌∙◌}
use Rattle.std.proofs.lemmas.Result.{IfOk-equal}
use Rattle.std.specs.String.{string_bytes}
use Rattle.local_names.specs.PlainNames.{path_segment, dir_segments}
use Rattle.local_names.specs.inner.Units.{all_below}
use Rattle.local_names.proofs.PlainLaws.{front_steps}
use Rattle.local_names.proofs.plain_name.push_front.Goals as goal

pub returns : goal.returns
returns c =
    let rules = c.args.rules.now in
    IfOk-equal _ _ _ _ c.push_uncut.ensures
    (ap (λ dir. all_below (string_bytes c.push_host.new.name) (map (path_segment rules) (drop rules.cut_dirs (dir_segments dir)))) c.dir.ensures.value
    ∙ front_steps rules c.args.page.now (string_bytes c.args.name.now) (string_bytes c.push_scheme.new.name) (string_bytes c.push_host.new.name)
    c.if-not-rules.false c.in_ok-push_scheme.ensures c.in_ok-push_host.ensures)
