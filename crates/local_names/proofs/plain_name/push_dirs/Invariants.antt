use Rattle.std.proofs.Common.{◌≡◌, map, drop}
use Rattle.std.specs.String.{string_bytes}
use Rattle.local_names.specs.PlainNames.{path_segment}
use Rattle.local_names.specs.inner.Units.{lent_bytes, all_below}
use Rattle.local_names.proofs.plain_name.push_dirs.Given as goal

abbrev pub invariant-loop-dir : goal.invariant-loop-dir
invariant-loop-dir l =
    all_below (string_bytes l.name) (map (path_segment l.rules) (map lent_bytes (drop l.dir-index l.dirs))) ≡ all_below (string_bytes l.fn.name) (map (path_segment l.fn.rules) (map lent_bytes l.fn.dirs))
