use Rattle.std.proofs.Common.{[], refl}
use Rattle.std.specs.List.{slice_split}
use Rattle.cookie_files.specs.Jars.{is_feed}
use Rattle.cookie_files.proofs.OrderLemmas.{read_order}
use Rattle.cookie_files.proofs.cookies.Cookies.read.Goals as goal

pub returns-in-Ok-clause-order : goal.returns-in-Ok-clause-order
returns-in-Ok-clause-order c = read_order (slice_split is_feed c.args.bytes.now) 1 [] [] c.in-Ok.items.items (record { longer_first = tt; in_file_order = λ n. refl }) c.in-Ok.ensures
