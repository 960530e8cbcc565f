-- The files so far are whole, except lost ones.
use Rattle.local_tree.proofs.PartLaws.{AreLost}
use Rattle.local_tree.proofs.disk_folder.site_parts.put_parts.Given as goal

abbrev pub invariant-loop-i : goal.invariant-loop-i
invariant-loop-i g l = AreLost l.lost l.i (g.D.NamesParts.failed l.initial.folder) (g.D.NamesParts.failed l.folder)
