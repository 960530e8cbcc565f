-- The files of the names so far have their bytes by whichever bodies the kept ones may be, no other changed, and no put failed.
use Rattle.std.proofs.Common.{◌≡◌, List, map}
use Rattle.std.specs.List.{AllZip}
use Rattle.std.specs.String.{string_bytes}
use Rattle.kept_bodies.specs.Bodies.{BodyValue}
use Rattle.local_tree.specs.Changes.{AreChanged}
use Rattle.local_tree.specs.SiteFiles.{OfFiles}
use Rattle.local_tree.proofs.shelf.Shelf.put_changed_bodies.Given as goal

abbrev pub invariant-loop-i : goal.invariant-loop-i
invariant-loop-i g l =
    record {
      files : (bodies : List BodyValue) → AllZip g.Self.Shelf.holds l.bodies bodies
          → OfFiles (g.Self.Folder.files l.initial.self) (g.Self.Folder.files l.self) (AreChanged (g.C.BodyChange.becomes l.change) l.are_all l.i l.i (map string_bytes l.names) bodies);
      quiet : g.Self.Folder.failed l.self ≡ g.Self.Folder.failed l.initial.self;
    }
