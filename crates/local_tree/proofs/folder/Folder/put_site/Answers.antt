-- A put that was made leaves one more file whole; one that failed may have torn its own.
use Rattle.std.proofs.Common.{◌≡◌, true, false, [], map, length, refl, sym, ap, ◌∙◌, subst, arith}
use Rattle.std.specs.Result.{is_err}
use Rattle.std.specs.String.{string_bytes}
use Rattle.std.proofs.lemmas.List.{length-map, get_or-map}
use Rattle.kept_bodies.specs.Bodies.{BodyValue, bytes_of}
use Rattle.local_tree.specs.Folders.{one_more_refused}
use Rattle.local_tree.specs.SiteFiles.{AreWritten, OfFiles}
use Rattle.local_tree.proofs.SiteFilesLaws.{none_written, made, failed, same_count, one_more, put_written, put_torn, risen}
use Rattle.local_tree.proofs.folder.Folder.put_site.Goals as goal

pub loop-i-preserved : goal.loop-i-preserved
loop-i-preserved g c =
    let names = map string_bytes c.args.names.now in
    let bodies = bytes_of c.args.bodies.now in
    let ended : is_err c.put.result ≡ false = sym c.is_err.ensures.value ∙ c.if-is_err.false in
    let below = c.loop-i-test.true in
    let long : length names ≡ length c.args.names.now = length-map c.args.names.now string_bytes in
    let name = c.as_str.ensures.value ∙ ap string_bytes c.index-names-i.is ∙ sym (get_or-map string_bytes c.args.names.now c.loop-i.i c.index-names-i.result [] (omega (arith, below))) in
    let body = c.as_slice.ensures ∙ ap (λ (b : BodyValue). b.bytes) c.index-bodies-i.is
    ∙ sym (get_or-map (λ (b : BodyValue). b.bytes) c.args.bodies.now c.loop-i.i c.index-bodies-i.result [] (omega (arith, below, c.requires.count))) in
    record {
      files = put_written names bodies c.loop-i.i c.as_str.result.now c.as_slice.result.now (g.Self.Folder.files c.args.self.now) (g.Self.Folder.files c.loop-i.self) (g.Self.Folder.files c.put.new.self)
          c.requires.distinct (omega (arith, below, long)) name body c.loop-i.invariant.files (made c.put.result _ ended c.put.ensures.put);
      quiet = same_count c.put.result (g.Self.Folder.failed c.loop-i.self) (g.Self.Folder.failed c.put.new.self) ended c.put.ensures.counted ∙ c.loop-i.invariant.quiet;
    }

pub returns-then-is_err-clause-torn : goal.returns-then-is_err-clause-torn
returns-then-is_err-clause-torn g c =
    let names = map string_bytes c.args.names.now in
    let bodies = bytes_of c.args.bodies.now in
    let ended : is_err c.put.result ≡ true = sym c.is_err.ensures.value ∙ c.if-is_err.true in
    let below = c.loop-i-test.true in
    let long : length names ≡ length c.args.names.now = length-map c.args.names.now string_bytes in
    let name = c.as_str.ensures.value ∙ ap string_bytes c.index-names-i.is ∙ sym (get_or-map string_bytes c.args.names.now c.loop-i.i c.index-names-i.result [] (omega (arith, below))) in
    record {
      place = omega (arith, below, long);
      files = put_torn names bodies c.loop-i.i c.as_str.result.now (g.Self.Folder.files c.args.self.now) (g.Self.Folder.files c.loop-i.self) (g.Self.Folder.files c.put.new.self)
          c.requires.distinct (omega (arith, below, long)) name c.loop-i.invariant.files (failed c.put.result _ ended c.put.ensures.torn);
      risen = risen (g.Self.Folder.failed c.args.self.now) (g.Self.Folder.failed c.put.new.self)
          (one_more c.put.result (g.Self.Folder.failed c.loop-i.self) (g.Self.Folder.failed c.put.new.self) ended c.put.ensures.counted ∙ ap one_more_refused c.loop-i.invariant.quiet);
    }

pub loop-i-init : goal.loop-i-init
loop-i-init g c = record { files = none_written (map string_bytes c.args.names.now) (bytes_of c.args.bodies.now) (g.Self.Folder.files c.args.self.now); quiet = refl }

pub returns : goal.returns
returns g c =
    let names = map string_bytes c.args.names.now in
    let bodies = bytes_of c.args.bodies.now in
    let long : length names ≡ length c.args.names.now = length-map c.args.names.now string_bytes in
    let all : c.loop-i.i ≡ length names = omega (arith, long) in
    record {
      whole = subst (λ n. OfFiles (g.Self.Folder.files c.args.self.now) (g.Self.Folder.files c.loop-i.self) (AreWritten n n names bodies)) all c.loop-i.invariant.files;
      torn = tt;
      quiet = c.loop-i.invariant.quiet;
    }
