-- Bodies in memory may be just themselves.
use Rattle.std.proofs.Common.{map}
use Rattle.std.specs.String.{string_bytes}
use Rattle.local_tree.specs.Folders.{holding}
use Rattle.local_tree.proofs.ShelfLaws.{shelved_ok, shelved_err}
use Rattle.local_tree.proofs.shelf.AnyShelfBody.put_bodies.Goals as goal

pub returns : goal.returns
returns g c =
    let names = map string_bytes c.args.names.now in
    let kept = c.args.bodies.now in
    let D = g.D.Folder in
    record {
      whole = shelved_ok names kept c.put_site.result (D.files c.args.self.now) (D.files c.put_site.new.self) c.put_site.ensures.whole;
      torn = shelved_err names kept c.put_site.result (holding D.files D.failed c.args.self.now) (holding D.files D.failed c.put_site.new.self) c.put_site.ensures.torn;
      quiet = c.put_site.ensures.quiet;
    }
