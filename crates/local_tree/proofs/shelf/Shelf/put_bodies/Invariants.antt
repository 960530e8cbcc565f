-- The files of the names so far are whole by whichever bodies the kept ones may be, no other changed, and no put failed.
use Rattle.std.proofs.Common.{◌≡◌, List, map}
use Rattle.std.specs.List.{AllZip}
use Rattle.std.specs.String.{string_bytes}
use Rattle.kept_bodies.specs.Bodies.{BodyValue, bytes_of}
use Rattle.local_tree.specs.SiteFiles.{AreWritten, OfFiles}
use Rattle.local_tree.proofs.shelf.Shelf.put_bodies.Given as goal

abbrev pub invariant-loop-i : goal.invariant-loop-i
invariant-loop-i g l =
    record {
      files : (bodies : List BodyValue) → AllZip g.Self.Shelf.holds l.bodies bodies → OfFiles (g.Self.Folder.files l.initial.self) (g.Self.Folder.files l.self) (AreWritten l.i l.i (map string_bytes l.names) (bytes_of bodies));
      quiet : g.Self.Folder.failed l.self ≡ g.Self.Folder.failed l.initial.self;
    }
