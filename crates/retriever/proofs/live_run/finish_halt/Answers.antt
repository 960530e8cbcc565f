-- What is put and written is so by the cause.
use Rattle.std.proofs.Common.{refl}
use Rattle.local_tree.specs.Folders.{holding}
use Rattle.retriever.specs.Keeping.{kept_as}
use Rattle.retriever.specs.inner.Parts.{IsWrittenAs}
use Rattle.retriever.proofs.PutLaws.{quota_put, full_put, memory_put, mismatch_put}
use Rattle.retriever.proofs.live_run.finish_halt.Goals as goal

pub returns-in-Quota : goal.returns-in-Quota
returns-in-Quota g c =
    let is_written = IsWrittenAs (g.W.Write.contents c.args.writer.now) (g.W.Write.contents c.finish_harvest.new.writer) c.finish_harvest.result in
    quota_put c.args.converts (kept_as g.B.HasKind.kind_of g.B.HasKind.len_of g.D.Shelf.holds) is_written c.args.naming.now c.args.with_trace
    c.args.halt.now.cause c.args.halt.now.harvest (holding g.D.Folder.files g.D.Folder.failed c.args.folder.now)
    (holding g.D.Folder.files g.D.Folder.failed c.finish_harvest.new.folder) c.in-Quota.is c.finish_harvest.ensures

pub returns-in-Full : goal.returns-in-Full
returns-in-Full g c =
    let is_written = IsWrittenAs (g.W.Write.contents c.args.writer.now) (g.W.Write.contents c.write_halt.new.writer) c.write_halt.result in
    let folder = holding g.D.Folder.files g.D.Folder.failed c.args.folder.now in
    full_put c.args.converts (kept_as g.B.HasKind.kind_of g.B.HasKind.len_of g.D.Shelf.holds) is_written c.args.naming.now c.args.with_trace
    c.args.halt.now.cause c.args.halt.now.harvest folder folder c.in-Full.is refl c.write_halt.ensures

pub returns-in-Memory : goal.returns-in-Memory
returns-in-Memory g c =
    let is_written = IsWrittenAs (g.W.Write.contents c.args.writer.now) (g.W.Write.contents c.write_halt-in-Memory.new.writer) c.write_halt-in-Memory.result in
    let folder = holding g.D.Folder.files g.D.Folder.failed c.args.folder.now in
    memory_put c.args.converts (kept_as g.B.HasKind.kind_of g.B.HasKind.len_of g.D.Shelf.holds) is_written c.args.naming.now c.args.with_trace
    c.args.halt.now.cause c.args.halt.now.harvest folder folder c.in-Memory.is refl c.write_halt-in-Memory.ensures

pub returns-in-Mismatch : goal.returns-in-Mismatch
returns-in-Mismatch g c =
    let is_written = IsWrittenAs (g.W.Write.contents c.args.writer.now) (g.W.Write.contents c.write_halt-in-Mismatch.new.writer) c.write_halt-in-Mismatch.result in
    let folder = holding g.D.Folder.files g.D.Folder.failed c.args.folder.now in
    mismatch_put c.args.converts (kept_as g.B.HasKind.kind_of g.B.HasKind.len_of g.D.Shelf.holds) is_written c.args.naming.now c.args.with_trace
    c.args.halt.now.cause c.args.halt.now.harvest folder folder c.in-Mismatch.is refl c.write_halt-in-Mismatch.ensures
