-- The files so far are whole, except lost ones.
use Rattle.local_tree.proofs.PartLaws.{AreLost}
use Rattle.local_tree.proofs.disk_folder.site_parts.put_changed_parts.Given as goal

abbrev pub invariant-loop-i : goal.invariant-loop-i
invariant-loop-i g l = AreLost l.so_far.lost l.i (g.D.NamesParts.failed l.initial.folder) (g.D.NamesParts.failed l.folder)
