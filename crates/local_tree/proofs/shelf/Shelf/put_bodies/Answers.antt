-- A put that was made leaves one more file whole; one that failed may have torn its own.
use Rattle.std.proofs.Common.{◌≡◌, true, false, [], map, length, refl, sym, ap, ◌∙◌, subst, arith}
use Rattle.std.specs.Result.{is_err}
use Rattle.std.specs.String.{string_bytes}
use Rattle.std.proofs.lemmas.List.{length-map, get_or-map}
use Rattle.std.proofs.lemmas.Option.{slice_get_read}
use Rattle.kept_bodies.specs.Bodies.{bytes_of}
use Rattle.local_tree.specs.Folders.{one_more_refused}
use Rattle.local_tree.specs.SiteFiles.{AreWritten, OfFiles}
use Rattle.local_tree.proofs.ShelfLaws.{body_at}
use Rattle.local_tree.proofs.SiteFilesLaws.{none_written, made, failed, same_count, one_more, put_written, put_torn, risen}
use Rattle.local_tree.proofs.shelf.Shelf.put_bodies.Goals as goal

pub loop-i-preserved : goal.loop-i-preserved
loop-i-preserved g c =
    let names = map string_bytes c.args.names.now in
    let ended : is_err c.put_kept.result ≡ false = sym c.is_err.ensures.value ∙ c.if-is_err.false in
    let below = c.loop-i-test.true in
    let long : length names ≡ length c.args.names.now = length-map c.args.names.now string_bytes in
    let name = c.as_str.ensures.value ∙ ap string_bytes c.index-names-i.is ∙ sym (get_or-map string_bytes c.args.names.now c.loop-i.i c.index-names-i.result [] (omega (arith, below))) in
    let there = slice_get_read c.args.bodies.now (length c.args.bodies.now) c.loop-i.i c.index-bodies-i.result refl (omega (arith, below, c.requires.count)) c.index-bodies-i.is in
    record {
      files = λ bodies are.
          let (body, held, is) = body_at g.Self.Shelf.holds c.args.bodies.now bodies c.loop-i.i c.index-bodies-i.result there are in
          put_written names (bytes_of bodies) c.loop-i.i c.as_str.result.now body.bytes (g.Self.Folder.files c.args.self.now) (g.Self.Folder.files c.loop-i.self) (g.Self.Folder.files c.put_kept.new.self)
          c.requires.distinct (omega (arith, below, long)) name is (c.loop-i.invariant.files bodies are) (made c.put_kept.result _ ended c.put_kept.ensures.put body held);
      quiet = same_count c.put_kept.result (g.Self.Folder.failed c.loop-i.self) (g.Self.Folder.failed c.put_kept.new.self) ended c.put_kept.ensures.counted ∙ c.loop-i.invariant.quiet;
    }

pub returns-then-is_err-clause-torn : goal.returns-then-is_err-clause-torn
returns-then-is_err-clause-torn g c =
    let names = map string_bytes c.args.names.now in
    let ended : is_err c.put_kept.result ≡ true = sym c.is_err.ensures.value ∙ c.if-is_err.true in
    let below = c.loop-i-test.true in
    let long : length names ≡ length c.args.names.now = length-map c.args.names.now string_bytes in
    let name = c.as_str.ensures.value ∙ ap string_bytes c.index-names-i.is ∙ sym (get_or-map string_bytes c.args.names.now c.loop-i.i c.index-names-i.result [] (omega (arith, below))) in
    record {
      place = omega (arith, below, long);
      files = λ bodies are.
          put_torn names (bytes_of bodies) c.loop-i.i c.as_str.result.now (g.Self.Folder.files c.args.self.now) (g.Self.Folder.files c.loop-i.self) (g.Self.Folder.files c.put_kept.new.self)
          c.requires.distinct (omega (arith, below, long)) name (c.loop-i.invariant.files bodies are) (failed c.put_kept.result _ ended c.put_kept.ensures.torn);
      risen = risen (g.Self.Folder.failed c.args.self.now) (g.Self.Folder.failed c.put_kept.new.self)
          (one_more c.put_kept.result (g.Self.Folder.failed c.loop-i.self) (g.Self.Folder.failed c.put_kept.new.self) ended c.put_kept.ensures.counted ∙ ap one_more_refused c.loop-i.invariant.quiet);
    }

pub loop-i-init : goal.loop-i-init
loop-i-init g c = record { files = λ bodies are. none_written (map string_bytes c.args.names.now) (bytes_of bodies) (g.Self.Folder.files c.args.self.now); quiet = refl }

pub returns : goal.returns
returns g c =
    let names = map string_bytes c.args.names.now in
    let long : length names ≡ length c.args.names.now = length-map c.args.names.now string_bytes in
    let all : c.loop-i.i ≡ length names = omega (arith, long) in
    record {
      whole = λ bodies are.
          subst (λ n. OfFiles (g.Self.Folder.files c.args.self.now) (g.Self.Folder.files c.loop-i.self) (AreWritten n n names (bytes_of bodies))) all (c.loop-i.invariant.files bodies are);
      torn = tt;
      quiet = c.loop-i.invariant.quiet;
    }
