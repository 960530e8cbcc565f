-- The words are those after the name; if memory runs out before them, the program ends with its line.
use Rattle.std.proofs.Common.{inl, inr, ◌∙◌, ℕ, List, Bor, map, ap, refl}
use Rattle.retriever.specs.Keeping.{kept_as}
use Rattle.retriever.specs.Rejecting.{IsLogFor}
use Rattle.retriever.specs.Systems.{means}
use Rattle.retriever.proofs.LogLaws.{logged_as}
use Rattle.retriever.proofs.ProgramLaws.{starts_as, starts_memory}
use Rattle.retriever.proofs.program.run_words.Goals as goal

pub returns-in-Ok-clause-starts : goal.returns-in-Ok-clause-starts
returns-in-Ok-clause-starts g c =
    starts_as _ _ _ _ _ _ (ap (map (λ (word : Bor (List ℕ)). word.now)) c.as_slice.ensures.value ∙ c.in-Ok.ensures) c.run_texts.ensures.starts

pub returns-in-Err-clause-starts : goal.returns-in-Err-clause-starts
returns-in-Err-clause-starts g c = starts_memory _ _ _ _ refl refl _ (inr (inl c.refuse.ensures)) c.refuse.ensures

pub returns-in-Ok-clause-logged : goal.returns-in-Ok-clause-logged
returns-in-Ok-clause-logged g c =
    let m = means g.S.System c.args.system.now g.S.Fetcher.Fetcher g.S.Recorder.Fetcher g.S.Recorder.Recording.noted (kept_as g.S.Body.HasKind.kind_of g.S.Body.HasKind.len_of g.S.Folder.Shelf.holds) g.S.Folder.Folder g.S.Record.Write in
    logged_as (IsLogFor m (g.R.Read.remaining c.args.reader.now)) _ _ _ _ (ap (map (λ (word : Bor (List ℕ)). word.now)) c.as_slice.ensures.value ∙ c.in-Ok.ensures) c.run_texts.ensures.logged

pub returns-in-Err-clause-logged : goal.returns-in-Err-clause-logged
returns-in-Err-clause-logged g c = inl refl
