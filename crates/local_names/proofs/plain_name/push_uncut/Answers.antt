use Rattle.std.proofs.Common.{◌≡◌, ◌-◌, min, map, take, drop, length, sym, ap, ◌∙◌}
use Rattle.std.proofs.lemmas.Result.{IfOk-equal}
use Rattle.std.specs.String.{string_bytes}
use Rattle.local_names.specs.PlainNames.{path_segment, dir_segments}
use Rattle.local_names.specs.inner.Units.{lent_bytes, all_below}
use Rattle.local_names.proofs.PlainLaws.{uncut}
use Rattle.local_names.proofs.plain_name.push_uncut.Goals as goal

pub returns : goal.returns
returns c =
    let rules = c.args.rules.now in
    let dirs = c.deref.result.now in
    let least : c.min.result ≡ min rules.cut_dirs (length dirs) = c.min.ensures ∙ ap (min rules.cut_dirs) (c.len.ensures ∙ sym c.deref.ensures.len) in
    let all : map lent_bytes dirs ≡ dir_segments c.args.dir.now = ap (map lent_bytes) c.deref.ensures.value ∙ c.in_ok-dirs.ensures ∙ ap dir_segments c.as_bytes.ensures.value in
    IfOk-equal _ _ _ _ c.push_dirs.ensures
    (ap (λ ds. all_below (string_bytes c.args.name.now) (map (path_segment rules) ds))
    (ap (λ n. map lent_bytes (take (length dirs - n) (drop n dirs))) least ∙ uncut rules.cut_dirs dirs (dir_segments c.args.dir.now) all))
