-- A put that was made leaves one more file with its bytes; one that failed may have torn its own.
use Rattle.std.proofs.Common.{◌≡◌, ◌+◌, Bool, true, false, [], map, length, refl, sym, ap, ◌∙◌, subst, arith}
use Rattle.std.specs.Prelude.{◌&&◌}
use Rattle.std.specs.String.{string_bytes}
use Rattle.std.proofs.lemmas.List.{length-map, get_or-map}
use Rattle.std.proofs.lemmas.Option.{slice_get_read}
use Rattle.local_tree.specs.Changes.{AreChanged}
use Rattle.local_tree.specs.Folders.{one_more_refused}
use Rattle.local_tree.specs.SiteFiles.{OfFiles}
use Rattle.local_tree.proofs.ChangeLaws.{body_there, none_changed, put_changed, put_torn_changed}
use Rattle.local_tree.proofs.SiteFilesLaws.{risen}
use Rattle.local_tree.proofs.shelf.Shelf.put_changed_bodies.Goals as goal

pub loop-i-init : goal.loop-i-init
loop-i-init g c = record {
  files = λ bodies are. none_changed (g.C.BodyChange.becomes c.args.change.now) (map string_bytes c.args.names.now) bodies (g.Self.Folder.files c.args.self.now);
  quiet = refl;
}

pub loop-i-preserved : goal.loop-i-preserved
loop-i-preserved g c =
    let names = map string_bytes c.args.names.now in
    let becomes = g.C.BodyChange.becomes c.args.change.now in
    let below = c.loop-i-test.true in
    let long : length names ≡ length c.args.names.now = length-map c.args.names.now string_bytes in
    let name = c.as_str.ensures.value ∙ ap string_bytes c.index-names-i.is ∙ sym (get_or-map string_bytes c.args.names.now c.loop-i.i c.index-names-i.result [] (omega (arith, below))) in
    let read = slice_get_read c.args.bodies.now (length c.args.bodies.now) c.loop-i.i c.index-bodies-i.result refl (omega (arith, below, c.requires.count)) c.index-bodies-i.is in
    record {
      files = λ bodies are.
          let (body, there, held) = body_there g.Self.Shelf.holds c.args.bodies.now bodies c.loop-i.i c.index-bodies-i.result read are in
          subst (λ (all : Bool). OfFiles (g.Self.Folder.files c.args.self.now) (g.Self.Folder.files c.put_changed_kept.new.self) (AreChanged becomes all (c.loop-i.i + 1) (c.loop-i.i + 1) names bodies)) (sym c.are_both-are_all.ensures)
          (put_changed becomes c.loop-i.are_all names bodies c.loop-i.i c.as_str.result.now c.requires.distinct (omega (arith, below, long)) name c.in-Ok.is_changed body
          (g.Self.Folder.files c.args.self.now) (g.Self.Folder.files c.loop-i.self) (g.Self.Folder.files c.put_changed_kept.new.self) there (c.loop-i.invariant.files bodies are) (c.in-Ok.ensures.put body held));
      quiet = c.in-Ok.ensures.counted ∙ c.loop-i.invariant.quiet;
    }

pub returns-in-Err-clause-torn : goal.returns-in-Err-clause-torn
returns-in-Err-clause-torn g c =
    let names = map string_bytes c.args.names.now in
    let becomes = g.C.BodyChange.becomes c.args.change.now in
    let below = c.loop-i-test.true in
    let long : length names ≡ length c.args.names.now = length-map c.args.names.now string_bytes in
    let name = c.as_str.ensures.value ∙ ap string_bytes c.index-names-i.is ∙ sym (get_or-map string_bytes c.args.names.now c.loop-i.i c.index-names-i.result [] (omega (arith, below))) in
    record {
      place = omega (arith, below, long);
      files = λ bodies are.
          put_torn_changed becomes c.loop-i.are_all names bodies c.loop-i.i c.as_str.result.now c.requires.distinct (omega (arith, below, long)) name
          (g.Self.Folder.files c.args.self.now) (g.Self.Folder.files c.loop-i.self) (g.Self.Folder.files c.put_changed_kept.new.self) (c.loop-i.invariant.files bodies are) c.in-Err.ensures.torn;
      risen = risen (g.Self.Folder.failed c.args.self.now) (g.Self.Folder.failed c.put_changed_kept.new.self) (c.in-Err.ensures.counted ∙ ap one_more_refused c.loop-i.invariant.quiet);
    }
