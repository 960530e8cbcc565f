use Rattle.std.proofs.Common.{◌+◌, map, drop, sym, ap, ◌∙◌}
use Rattle.std.proofs.lemmas.List.{drop_more, drop_all}
use Rattle.std.specs.String.{string_bytes}
use Rattle.local_names.specs.PlainNames.{dir_segment, path_segment}
use Rattle.local_names.specs.inner.Units.{lent_bytes, below, all_below}
use Rattle.local_names.proofs.plain_name.push_dirs.Goals as goal

pub loop-dir-preserved : goal.loop-dir-preserved
loop-dir-preserved c =
    let dirs = c.args.dirs.now in
    let i = c.loop-dir.dir-index in
    let name = string_bytes c.loop-dir.name in
    ap (λ n. all_below n (map (path_segment c.args.rules.now) (map lent_bytes (drop (i + 1) dirs))))
    (c.in_ok-push_dir.ensures ∙ ap (λ units. below name (dir_segment c.args.rules.now.has_originals units)) c.in_ok-path_units.ensures)
    ∙ ap (λ ds. all_below name (map (path_segment c.args.rules.now) (map lent_bytes ds))) (sym (drop_more dirs i _ c.loop-dir-test.true))
    ∙ c.loop-dir.invariant

pub returns : goal.returns
returns c =
    ap (λ ds. all_below (string_bytes c.loop-dir.name) (map (path_segment c.args.rules.now) (map lent_bytes ds)))
    (sym (drop_all c.loop-dir.dir-index c.args.dirs.now c.loop-dir-test.false))
    ∙ c.loop-dir.invariant
