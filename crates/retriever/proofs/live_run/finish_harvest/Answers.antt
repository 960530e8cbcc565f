-- What is put has the names, and what is written the text, of the harvest.
use Rattle.std.proofs.Common.{◌∙◌, ℕ, List, String, Global, inr, map, string_bytes, subst}
use Rattle.report.specs.ExitStatus.{exit_status}
use Rattle.local_tree.specs.Folders.{holding}
use Rattle.retriever.specs.Keeping.{kept_as}
use Rattle.retriever.specs.Mirrored.{kept_as_named}
use Rattle.retriever.specs.inner.Parts.{IsWrittenAs}
use Rattle.retriever.specs.inner.Puts.{IsPutAndWritten}
use Rattle.retriever.proofs.live_run.finish_harvest.Goals as goal

pub returns-in-Ok : goal.returns-in-Ok
returns-in-Ok g c =
    let telling = c.in-Ok.telling in
    let given = c.in-Ok.ensures in
    let h = c.args.harvest.now in
    let keeps = kept_as g.B.HasKind.kind_of g.B.HasKind.len_of g.D.Shelf.holds in
    let old = holding g.D.Folder.files g.D.Folder.failed c.args.folder.now in
    let new = holding g.D.Folder.files g.D.Folder.failed c.put_and_write.new.folder in
    let is_written = IsWrittenAs (g.W.Write.contents c.args.writer.now) (g.W.Write.contents c.put_and_write.new.writer) c.put_and_write.result in
    let wanted = exit_status (map (λ recorded. recorded.1) h.records) in
    inr (
      given.read,
      map string_bytes telling.names.items,
      given.naming,
      subst (λ (text : List ℕ). IsPutAndWritten c.args.converts keeps is_written (kept_as_named h (map string_bytes telling.names.items)) h.bodies (text, wanted) old new) (c.as_str.ensures.value ∙ given.text)
          (subst (λ (names : List (String Global)). IsPutAndWritten c.args.converts keeps is_written (kept_as_named h (map string_bytes names)) h.bodies (c.as_str.result.now, wanted) old new) c.as_slice.ensures.value c.put_and_write.ensures),
    )
