-- A record that is read is the one that the order resumes, and what the order says is done with it.
use Rattle.std.proofs.Common.{◌≡◌, ℕ, Bool, true, false, List, All, Option, Some, None, length, map, sym, subst}
use Rattle.std.specs.Prelude.{Result, Ok, Err, IfOk, IfErr, is_some, not}
use Rattle.std.specs.declared.alloc.AllocError.{AllocError}
use Rattle.options.specs.declared.order.Order.{Order}
use Rattle.site_inputs.specs.declared.input_fault.InputFault.{InputFault}
use Rattle.site_inputs.specs.declared.input_fault.InputFault.TheVariants as input
use Rattle.html_links.specs.declared.rules.LinkRules.{LinkRules}
use Rattle.site_records.specs.RecordSites.{RecordValue}
use Rattle.site_records.specs.Records.{IsFault}
use Rattle.site_records.specs.Resumption.{Resuming}
use Rattle.streams.specs.declared.input.ReadInputFault.TheVariants as reading
use Rattle.retriever.specs.Saving.{resuming_of}
use Rattle.retriever.specs.Systems.{Means, IsNotRead, IsNotResumed, IsRecordTaken, IsResumed, SystemRunResumed, SystemRunByOrder, SystemRun, SystemRunSaved, SystemRunOnRecord, settings_of}
use Rattle.retriever.specs.inner.Systems.{AreResuming, is_plain}
use Rattle.retriever.specs.declared.resume_fault.ResumeFault.{ResumeFault}
use Rattle.retriever.specs.declared.resume_fault.ResumeFault.TheVariants.{Read, Input, Refused, Discontinued}

-- a fault of bytes that a file may hold
pub fault_not_read : (holds : List ℕ → Type 0) (links : LinkRules) (bytes : List ℕ) (wrong : InputFault) → holds bytes → IsFault links bytes wrong → IsNotRead holds links (Input wrong)
fault_not_read holds links bytes input.Memory held bad = tt
fault_not_read holds links bytes (input.Line n) held bad = (bytes, held, bad)
fault_not_read holds links bytes (input.Address n) held bad = (bytes, held, bad)

module _ {S B F K D V O : Type 0} (m : Means S B F K D V O) (order : Order) where
  -- what is read of the file that the order names is resumed
  pub read_resumed : (path given : List ℕ) (r : Result RecordValue ResumeFault) → order.resume ≡ Some path → given ≡ path
      → IfOk r (λ x. (bytes : List ℕ) × m.gives.holds m.system given bytes × IsRecordTaken (not order.retries_failed) (is_some order.save) order.links bytes x) → IfOk r (λ x. IsResumed m order x)
  read_resumed path given (Ok x) is same (bytes, held, read) = rw is (bytes, subst (λ (p : List ℕ). m.gives.holds m.system p bytes) same held, read)
  read_resumed path given (Err wrong) is same read = read

  -- what can't be read of it isn't resumed
  pub read_not_resumed : (path given : List ℕ) (r : Result RecordValue ResumeFault) → order.resume ≡ Some path → given ≡ path
      → IfErr r (IsNotRead (m.gives.holds m.system given) order.links) → IfErr r (IsNotResumed m order)
  read_not_resumed path given (Ok x) is same bad = bad
  read_not_resumed path given (Err (Read reading.Memory)) is same bad = tt
  read_not_resumed path given (Err (Read reading.Long)) is same bad = (path, is, tt)
  read_not_resumed path given (Err (Read reading.Failed)) is same bad = (path, is, tt)
  read_not_resumed path given (Err (Input input.Memory)) is same bad = tt
  read_not_resumed path given (Err Refused) is same bad = absurd bad
  read_not_resumed path given (Err Discontinued) is same bad = absurd bad
  read_not_resumed path given (Err (Input (input.Line n))) is same (bytes, held, bad) =
      (path, is, (bytes, subst (λ (p : List ℕ). m.gives.holds m.system p bytes) same held, bad))
  read_not_resumed path given (Err (Input (input.Address n))) is same (bytes, held, bad) =
      (path, is, (bytes, subst (λ (p : List ℕ). m.gives.holds m.system p bytes) same held, bad))

  -- fetchers of the system, each with a record before it
  pub are_resuming : {T : Type 0} (r : Result T AllocError) (items : T → List (Resuming K)) (is_recording : Bool) (recorded : RecordValue) (fetchers : List K)
      → All (m.gives.makes_recorder m.system (settings_of order is_recording)) fetchers → length fetchers ≡ order.workers
      → IfOk r (λ all. items all ≡ map (resuming_of m.recorders.log recorded) fetchers) → IfOk r (λ all. AreResuming m order is_recording recorded (items all))
  are_resuming (Ok all) items is_recording recorded fetchers made count are = record { fetchers = fetchers; made = made; count = count; are = are }
  are_resuming (Err wrong) items is_recording recorded fetchers made count are = are

  module _ (before after : Option (List ℕ)) where
    -- a retrieval that is saved at the order's path
    pub saves : (path given : List ℕ) (r : Result ℕ AllocError) → order.save ≡ Some path → given ≡ path → IfOk r (SystemRunSaved m order given before after)
        → IfOk r (SystemRunOnRecord m order.save order before after)
    saves path given r is same lives =
        subst (λ (save : Option (List ℕ)). IfOk r (SystemRunOnRecord m save order before after)) (sym is)
        (subst (λ (p : List ℕ). IfOk r (SystemRunSaved m order p before after)) same lives)

    -- one that isn't saved
    pub saves_not : (r : Result ℕ AllocError) → order.save ≡ None → IfOk r (SystemRunResumed m order before after) → IfOk r (SystemRunOnRecord m order.save order before after)
    saves_not r is lives = subst (λ (save : Option (List ℕ)). IfOk r (SystemRunOnRecord m save order before after)) (sym is) lives

    -- one of an order that neither resumes nor saves
    pub plainly : (resume save : Option (List ℕ)) (status : ℕ) → is_plain resume save ≡ true → SystemRun m order before after status → SystemRunByOrder m (resume, save) order before after status
    plainly None None status is lives = lives
    plainly None (Some path) status is lives = cc
    plainly (Some from) save status is lives = cc

    -- one of an order that does either
    pub not_plainly : (resume save : Option (List ℕ)) (status : ℕ) → is_plain resume save ≡ false → SystemRunOnRecord m save order before after status → SystemRunByOrder m (resume, save) order before after status
    not_plainly None None status is lives = cc
    not_plainly None (Some path) status is lives = lives
    not_plainly (Some from) save status is lives = lives
