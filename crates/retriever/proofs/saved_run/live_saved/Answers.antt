-- What the crew retrieved is put and written, and what its fetchers noted is saved.
use Rattle.std.proofs.Common.{◌∙◌, ◌++◌, List, subst}
use Rattle.std.specs.List.{flat_map}
use Rattle.local_tree.specs.Folders.{holding}
use Rattle.workers.specs.Quotas.{KeepsTo}
use Rattle.site_records.specs.WrittenRecords.{record_text}
use Rattle.retriever.specs.Found.{crew_of}
use Rattle.retriever.specs.Keeping.{in_memory, len_in}
use Rattle.retriever.specs.inner.Parts.{IsWrittenAs}
use Rattle.retriever.specs.Saving.{IsSaved}
use Rattle.retriever.proofs.LiveLaws.{crew_ends, of_crew}
use Rattle.retriever.proofs.LogLaws.{retrieved_by}
use Rattle.retriever.proofs.saved_run.live_saved.Goals as goal

pub returns-clause-lives : goal.returns-clause-lives
returns-clause-lives g c =
    let F = g.F.Fetcher in
    let D = g.D.Folder in
    let noted = g.F.Recording.noted in
    let r = c.retrieve_shown-retrieved.result.0 in
    let news = c.retrieve_shown-retrieved.result.1.items in
    let known = c.retrieve_shown-retrieved.ensures in
    let olds = c.args.fetchers.items in
    let crew = crew_of F in_memory olds news in
    let by = of_crew crew r c.args.fetchers.len c.args.fetchers.ok.0 known.numbered known.own in
    let (shown, ending, ends, written) = crew_ends crew c.args.order.now r
    (holding D.files D.failed c.args.folder.now) (holding D.files D.failed c.finish-told.new.folder)
    (IsWrittenAs (g.W.Write.contents c.args.writer.now) (g.W.Write.contents c.finish-told.new.writer) c.finish-told.result)
    known.ok known.err known.full (λ is. known.one (c.args.fetchers.ok.0 ∙ is)) by (subst (λ most. KeepsTo most len_in r) c.of-quota.ensures known.quota) c.finish-told.ensures in
    record {
      left = news;
      later = known.fetchers;
      shown = shown;
      ending = ending;
      ends = ends;
      saving = c.save-saving.result;
      saved = subst (λ (left : List g.row.F.Denot). IsSaved c.save-saving.result (g.V.Write.contents c.args.saved.now) (g.V.Write.contents c.save-saving.new.saved)
          (record_text (c.args.given.now ++ flat_map noted left))) c.as_slice.ensures.value c.save-saving.ensures;
      written = c.write_saving_after.ensures _ _ _ written;
    }

pub returns-clause-retrieved : goal.returns-clause-retrieved
returns-clause-retrieved g c =
    let known = c.retrieve_shown-retrieved.ensures in
    retrieved_by g.F.Fetcher c.args.order.now.plan c.args.fetchers.items c.retrieve_shown-retrieved.result.1.items c.retrieve_shown-retrieved.result.0 known.fetchers known.ok
