-- What a person reads, and how a program ends that has no words.
use Rattle.std.proofs.Common.{◌≡◌, ◌≢◌, ◌∙◌, ℕ, Bool, true, false, List, [], Option, refl, sym, ap, subst, inl, inr, append-nil}
use Rattle.std.specs.Prelude.{Result, Ok, Err, OnOk, OnErr}
use Rattle.std.specs.Io.KnownBytes.{Appends}
use Rattle.std.proofs.KnownBytes.{Appends-nil}
use Rattle.options.specs.Order.{Ordered, order_of, ordered_by, seeks_in}
use Rattle.options.specs.Sought.{IsUnsaid}
use Rattle.options.specs.declared.fault.LineFault.{LineFault}
use Rattle.options.specs.declared.fault.LineFault.TheVariants as line
use Rattle.options.specs.declared.order.Order.{Order}
use Rattle.options.specs.declared.order.Source.{Source}
use Rattle.options.specs.declared.order.Source.TheVariants as source
use Rattle.retriever.specs.Advice.{said_of}
use Rattle.retriever.specs.Order.{IsRefused}
use Rattle.retriever.specs.Parts.{IsFaultDelivered}
use Rattle.retriever.specs.Program.{Outputs, IsExplained, IsFaultReported, IsQuietFor, IsUndone}
use Rattle.retriever.specs.inner.Program.{Streams, Starts}
use Rattle.retriever.specs.Run.{Runs}
use Rattle.streams.specs.Streams.{AppendsFront}
use Rattle.retriever.specs.declared.fault.Fault.{Fault}
use Rattle.retriever.specs.declared.fault.Fault.TheVariants as fault
use Rattle.retriever.proofs.RunLaws.{ends_memory, ends_refused, runs_refused}

-- nothing is a front of each text
pub nothing_of : (contents : Option (List ℕ)) (text : List ℕ) → AppendsFront contents contents text
nothing_of contents text = record { front = []; rest = text; parts = refl; appended = Appends-nil contents }

-- a text that was written, or a front of it if the writer failed
pub wrote : {F : Type 0} (r : Result (Unit {0}) F) (old new : Option (List ℕ)) (text : List ℕ) → OnOk r (Appends old new text) → OnErr r (AppendsFront old new text) → AppendsFront old new text
wrote (Ok x) old new text ok err = record { front = text; rest = []; parts = sym (append-nil text); appended = ok }
wrote (Err e) old new text ok err = err

-- words that order something can only be refused because memory ran out or an expression would cost too much
only_unsaid : (words : List (List ℕ)) (ordered : Ordered) (wrong : LineFault) → order_of words ≡ Ok ordered → IsRefused words (fault.Line wrong) → IsUnsaid (seeks_in words) wrong
only_unsaid words ordered wrong says (inl e) = cc
only_unsaid words ordered wrong says (inr e) = e

-- what is delivered of such a fault
undone : (words : List (List ℕ)) (wrong : LineFault) (before after : Option (List ℕ)) (status : ℕ) → IsUnsaid (seeks_in words) wrong → IsFaultDelivered before after (fault.Line wrong) status
    → IsUndone words before after status
undone words wrong before after status (inl memory) delivered = inl (subst (λ (w : LineFault). IsFaultDelivered before after (fault.Line w) status) memory delivered)
undone words wrong before after status (inr (large, seeks)) delivered = inr (seeks, subst (λ (w : LineFault). IsFaultDelivered before after (fault.Line w) status) large delivered)

-- what is written of it to a person
quiet_for : {E : Type 0} (words : List (List ℕ)) (wrong : LineFault) (before after : Outputs E) (status : ℕ) → IsUnsaid (seeks_in words) wrong → IsExplained words (fault.Line wrong) before after status
    → (said_of words (fault.Line wrong) ≡ [] → after.errors ≡ before.errors) → IsQuietFor words before after
quiet_for words wrong before after status (inl memory) told quiet = inl (quiet (ap (λ (w : LineFault). said_of words (fault.Line w)) memory))
quiet_for words wrong before after status (inr (large, seeks)) (inl told) quiet =
    inr (seeks, subst (λ (w : LineFault). AppendsFront before.told after.told (said_of words (fault.Line w))) large told.1)
quiet_for words wrong before after status (inr (large, seeks)) (inr told) quiet = inl told.1

-- whether a source is the network
abbrev is_network : Source → Bool
is_network source.Live = true
is_network source.Map = false
is_network source.Recorded = false

-- a map isn't on the network
pub map_is_not_live : source.Map ≡ source.Live → ⊥
map_is_not_live is = (let truth : false ≡ true = ap (λ (s : Source). is_network s) is in cc)

-- a record isn't on the network
pub record_is_not_live : source.Recorded ≡ source.Live → ⊥
record_is_not_live is = (let truth : false ≡ true = ap (λ (s : Source). is_network s) is in cc)

-- a source that is no other is the network
pub is_live : (s : Source) → ((s ≡ source.Live → ⊥) → ⊥) → s ≡ source.Live
is_live source.Live never = refl
is_live source.Map never = absurd (never map_is_not_live)
is_live source.Recorded never = absurd (never record_is_not_live)

-- ---- memory that ran out before a run

pub runs_memory : (words : List (List ℕ)) (known old new : Option (List ℕ)) (status : ℕ) → IsFaultDelivered old new fault.Memory status → Runs words known old new status
runs_memory words known old new status refusal = runs_refused words known old new fault.Memory status (ends_memory words known) refusal

pub told_memory : {E : Type 0} (words : List (List ℕ)) (before after : Outputs E) (status : ℕ) → after.errors ≡ before.errors → IsFaultDelivered before.written after.written fault.Memory status
    → IsFaultReported words before after status
told_memory words before after status same (inl delivered) = (fault.Line line.Memory, inr (inl refl), inr (delivered, same))
told_memory words before after status same (inr delivered) = (fault.Line line.Memory, inr (inl refl), inr (delivered, same))

-- words whose fault is explained are refused
refusal_of : {E : Type 0} (words : List (List ℕ)) (wrong : Fault) (before after : Outputs E) (status : ℕ) → IsExplained words wrong before after status
    → IsFaultDelivered before.written after.written wrong status
refusal_of words wrong before after status (inl told) = inl told.0
refusal_of words wrong before after status (inr told) = inr told.0

-- ---- the program

module _ {R E : Type 0} (LiveRun : List (List ℕ) → Type 0) (before after : Streams R E) (status : ℕ) where
  -- memory that ran out before the words are read
  pub starts_memory : after.reader ≡ before.reader → after.outputs.errors ≡ before.outputs.errors → (words : List (List ℕ)) → LiveRun words
      → IsFaultDelivered before.outputs.written after.outputs.written fault.Memory status → Starts LiveRun before after status words
  starts_memory unread quiet words lives refusal = record {
    runs = λ not. runs_memory words before.remaining before.outputs.written after.outputs.written status refusal;
    lives = λ live. lives;
    unread = λ no. unread;
    told = λ no none. told_memory words before.outputs after.outputs status quiet refusal;
    quiet = λ either. inl quiet;
  }

  -- the same of equal words
  pub starts_as : (given words : List (List ℕ)) → given ≡ words → Starts LiveRun before after status given → Starts LiveRun before after status words
  starts_as given words same starts = subst (λ (w : List (List ℕ)). Starts LiveRun before after status w) same starts

  -- words that order something: of a site on the network, or of one that the input describes
  pub starts_order : after.outputs.errors ≡ before.outputs.errors → (words : List (List ℕ)) (order : Order) → order_of words ≡ Ok (ordered_by order)
      → (order.source ≢ source.Live → Runs words before.remaining before.outputs.written after.outputs.written status) → (order.source ≡ source.Live → LiveRun words)
      → (order.source ≡ source.Live → after.reader ≡ before.reader) → Starts LiveRun before after status words
  starts_order quiet words order says runs lives unread = record {
    runs = λ not. runs (λ is. not (ordered_by order, says, is));
    lives = λ live.
        let (ordered, said, is) = live in
        let same : ordered ≡ ordered_by order = cc in
        lives (sym (ap (λ (o : Ordered). o.source) same) ∙ is);
    unread = λ no. unread (is_live order.source (λ not. no (order, (says, not))));
    told = λ no none. absurd (none (ordered_by order, says, is_live order.source (λ not. no (order, (says, not)))));
    quiet = λ either. inl quiet;
  }

  -- words that order nothing, or for which there is no memory
  pub starts_wrong : after.reader ≡ before.reader → (words : List (List ℕ)) (wrong : LineFault) → IsRefused words (fault.Line wrong)
      → (IsUndone words before.outputs.written after.outputs.written status → LiveRun words) → IsExplained words (fault.Line wrong) before.outputs after.outputs status
      → (said_of words (fault.Line wrong) ≡ [] → after.outputs.errors ≡ before.outputs.errors) → Starts LiveRun before after status words
  starts_wrong unread words wrong refused lives told quiet =
      let refusal = refusal_of words (fault.Line wrong) before.outputs after.outputs status told in record {
        runs = λ not.
            runs_refused words before.remaining before.outputs.written after.outputs.written (fault.Line wrong) status (ends_refused words before.remaining (fault.Line wrong) refused) refusal;
        lives = λ live.
            let (ordered, says, is) = live in
            lives (undone words wrong before.outputs.written after.outputs.written status (only_unsaid words ordered wrong says refused) refusal);
        unread = λ no. unread;
        told = λ no none. (fault.Line wrong, refused, told);
        quiet = λ either. elim either [
          | inl input ↦ (let (order, ordered) = input in quiet_for words wrong before.outputs after.outputs status (only_unsaid words (ordered_by order) wrong ordered.0 refused) told quiet)
          | inr live ↦ (let (ordered, says, is) = live in quiet_for words wrong before.outputs after.outputs status (only_unsaid words ordered wrong says refused) told quiet)
        ];
      }
