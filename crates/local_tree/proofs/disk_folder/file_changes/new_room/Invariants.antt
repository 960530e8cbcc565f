use Rattle.local_tree.proofs.disk_folder.file_changes.new_room.Given as goal

abbrev pub decreases-loop-left : goal.decreases-loop-left
decreases-loop-left l = l.left
