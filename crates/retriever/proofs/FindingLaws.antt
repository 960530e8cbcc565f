-- What a live run of the program results in is what it found.
use Rattle.std.proofs.Common.{◌≡◌, ◌++◌, ℕ, inl, inr, List, Option, Some, None, Bool, map, refl, sym, ap, subst, append-nil}
use Rattle.std.specs.Prelude.{Ok, is_some}
use Rattle.options.specs.declared.order.Order.{Order}
use Rattle.retriever.specs.Finding.{SystemFindsByOrder, ProgramFinds, SystemFindsOnRecord, SystemFinds, IsNotBegun, SavesAt}
use Rattle.retriever.specs.Found.{crew_of, live_status, live_text, outside}
use Rattle.retriever.specs.Keeping.{in_memory}
use Rattle.retriever.specs.Parts.{IsDelivered}
use Rattle.retriever.specs.Program.{IsUndone, ProgramRun}
use Rattle.retriever.specs.Saving.{resuming_means, resuming_of}
use Rattle.retriever.specs.Systems.{AreGiven, SystemRunResumed, SystemRunByOrder, SystemRun, SystemRunSaved, Means, held}
use Rattle.report.specs.Trace.{trace_text}
use Rattle.retriever.proofs.LiveLaws.{finds_of_lives, found_end, untraced_end}

module _ {S B F K D V O : Type 0} (m : Means S B F K D V O) (order : Order) (before after : Option (List ℕ)) (status : ℕ) where
  found_plainly : SystemRun m order before after status → SystemFinds m order before after status
  found_plainly lives = record {
    fetchers = lives.fetchers;
    folder = lives.folder;
    given = lives.given;
    left = lives.left;
    finds = finds_of_lives m.fetchers m.keeps order lives.fetchers (outside (held m lives.folder) before) (outside (held m lives.left) after) status lives.lives;
  }

  -- one that saves nothing
  found_again : order.save ≡ None → SystemRunResumed m order before after status → SystemFindsOnRecord m order before after status
  found_again none lives =
      let means = resuming_means m.recorders in
      let all = map (resuming_of m.recorders.log lives.recorded) lives.fetchers in
      let finds = finds_of_lives means in_memory order all (outside (held m lives.folder) before) (outside (held m lives.left) after) status lives.lives in
      record {
        recorded = lives.recorded;
        resumed = lives.resumed;
        fetchers = lives.fetchers;
        folder = lives.folder;
        given = subst (λ (is_recording : Bool). AreGiven m (m.gives.makes_recorder m.system) order is_recording lives.fetchers lives.folder) (sym (ap is_some none)) lives.given;
        left = lives.left;
        finds = inl (record {
          left = finds.left;
          later = finds.later;
          ending = finds.ending;
          ends = finds.ends;
          saving = Ok tt;
          saves = subst (λ (save : Option (List ℕ)). SavesAt m lives.recorded save finds.left (Ok tt)) (sym none) refl;
          trace = finds.trace;
          untraced = finds.untraced;
          written = subst (λ (text : List ℕ). IsDelivered before after text (live_status finds.ending) status) (sym (append-nil (finds.trace ++ live_text finds.ending))) finds.written;
        });
      }

  -- one that saves at this path
  found_saving : (path : List ℕ) → order.save ≡ Some path → SystemRunSaved m order path before after status → SystemFindsOnRecord m order before after status
  found_saving path some lives =
      let means = resuming_means m.recorders in
      let all = map (resuming_of m.recorders.log lives.recorded) lives.fetchers in
      record {
        recorded = lives.recorded;
        resumed = lives.resumed;
        fetchers = lives.fetchers;
        folder = lives.folder;
        given = subst (λ (is_recording : Bool). AreGiven m (m.gives.makes_recorder m.system) order is_recording lives.fetchers lives.folder) (sym (ap is_some some)) lives.given;
        left = lives.left;
        finds = elim lives.lives [
          | inl saved ↦ (let crew = crew_of means in_memory all saved.left in
              inl (record {
                left = saved.left;
                later = saved.later;
                ending = saved.ending;
                ends = found_end crew order (held m lives.folder) (held m lives.left) saved.shown saved.ending saved.ends;
                saving = saved.saving;
                saves = subst (λ (save : Option (List ℕ)). SavesAt m lives.recorded save saved.left saved.saving) (sym some) (lives.record_begun, lives.record_left, lives.named, saved.saved);
                trace = trace_text saved.shown;
                untraced = untraced_end crew order (held m lives.folder) (held m lives.left) saved.shown saved.ending saved.ends;
                written = saved.written;
              }))
          | inr (told, same, kept) ↦ inr (told, same)
        ];
      }

  found_by : (resume save : Option (List ℕ)) → order.resume ≡ resume → order.save ≡ save → SystemRunByOrder m (resume, save) order before after status → SystemFindsByOrder m (resume, save) order before after status
  found_by None None resumes saves lives = found_plainly lives
  found_by None (Some path) resumes saves lives = found_saving path saves lives
  found_by (Some from) None resumes saves lives = found_again saves lives
  found_by (Some from) (Some path) resumes saves lives = found_saving path saves lives

not_begun : (words : List (List ℕ)) (before after : Option (List ℕ)) (status : ℕ) → IsUndone words before after status → IsNotBegun words before after status
not_begun words before after status (inl (inl memory)) = inl memory
not_begun words before after status (inl (inr memory)) = inl memory
not_begun words before after status (inr (seeks, inl large)) = inr (seeks, large)
not_begun words before after status (inr (seeks, inr memory)) = inl memory

-- what the words of a live run result in is what it found
pub finds_for : {S B F K D V O : Type 0} (m : Means S B F K D V O) (before after : Option (List ℕ)) (status : ℕ) (words : List (List ℕ)) → ProgramRun m before after status words
    → ProgramFinds m before after status words
finds_for m before after status words (inl (order, ordered, inl lives)) =
    inl (order, ordered, inl (found_by m order before after status order.resume order.save refl refl lives))
finds_for m before after status words (inl (order, ordered, inr wrong)) = inl (order, ordered, inr wrong)
finds_for m before after status words (inr undone) = inr (not_begun words before after status undone)
