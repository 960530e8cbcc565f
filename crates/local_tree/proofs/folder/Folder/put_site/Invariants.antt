-- The files of the names so far are whole, no other changed, and no put failed.
use Rattle.std.proofs.Common.{◌≡◌, map}
use Rattle.std.specs.String.{string_bytes}
use Rattle.kept_bodies.specs.Bodies.{bytes_of}
use Rattle.local_tree.specs.SiteFiles.{AreWritten, OfFiles}
use Rattle.local_tree.proofs.folder.Folder.put_site.Given as goal

abbrev pub invariant-loop-i : goal.invariant-loop-i
invariant-loop-i g l =
    record {
      files : OfFiles (g.Self.Folder.files l.initial.self) (g.Self.Folder.files l.self) (AreWritten l.i l.i (map string_bytes l.names) (bytes_of l.bodies));
      quiet : g.Self.Folder.failed l.self ≡ g.Self.Folder.failed l.initial.self;
    }
