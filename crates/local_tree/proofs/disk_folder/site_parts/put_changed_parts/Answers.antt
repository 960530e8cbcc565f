-- A put that was made leaves the count of those that failed; one that failed has raised it.
use Rattle.local_tree.proofs.PartLaws.{at_first, one_put}
use Rattle.local_tree.proofs.disk_folder.site_parts.put_changed_parts.Goals as goal

pub loop-i-init : goal.loop-i-init
loop-i-init g c = at_first (g.D.NamesParts.failed c.args.folder.now)

pub loop-i-preserved : goal.loop-i-preserved
loop-i-preserved g c =
    one_put c.loop-i.so_far.lost c.loop-i.i (g.D.NamesParts.failed c.args.folder.now) (g.D.NamesParts.failed c.loop-i.folder) (g.D.NamesParts.failed c.put_for_change-so_far.new.folder)
    c.put_for_change-so_far.result.lost c.loop-i.invariant c.put_for_change-so_far.ensures
