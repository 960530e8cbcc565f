-- Which notes are saved, and what is written of that.
use Rattle.std.proofs.Common.{◌≡◌, ◌<◌, ◌+◌, ◌∙◌, ◌++◌, ℕ, suc, List, [], ◌∷◌, length, get_or, drop, drop-cons, add-one, Option, refl, sym, ap, subst}
use Rattle.std.specs.Prelude.{Result, Ok, Err, OnOk}
use Rattle.std.specs.List.{flat_map}
use Rattle.std.specs.Io.KnownBytes.{Appends}
use Rattle.fetcher.specs.declared.fetcher.Ask.{Ask}
use Rattle.site_records.specs.RecordSites.{RecordValue}
use Rattle.site_records.specs.Resumption.{Resuming}
use Rattle.site_records.specs.declared.record_fault.RecordFault.{RecordFault}
use Rattle.site_records.specs.declared.record_fault.RecordFault.TheVariants.{Device, Memory}
use Rattle.streams.specs.Streams.{AppendsFront}
use Rattle.workers.proofs.MoveLaws.{piece_moved}
use Rattle.retriever.specs.Parts.{IsDelivered}
use Rattle.retriever.specs.Saving.{IsSaved, resuming_of, save_status, save_text}
use Rattle.retriever.proofs.DeliveryLaws.{delivered_behind}

-- with the notes of the next fetcher added, what was added and what is left are still all
pub next_noted : {X N : Type 0} (xs : List X) (i : ℕ) (x : X) (f : X → List N) (done new all : List N) → i < length xs → x ≡ get_or xs i x → new ≡ done ++ f x
    → done ++ flat_map f (drop i xs) ≡ all → new ++ flat_map f (drop (i + 1) xs) ≡ all
next_noted {X = X} xs i x f done new all within here is whole =
    let cut : drop i xs ≡ x ∷ drop (i + 1) xs = rw add-one (drop-cons xs i x within ∙ ap (λ (y : X). y ∷ drop (suc i) xs) (sym here)) in
    piece_moved done (f x) (flat_map f (drop (i + 1) xs)) (flat_map f (drop i xs)) new all (ap (λ (ys : List X). flat_map f ys) cut) is whole

-- a fetcher of these parts
abbrev made : {F : Type 0} → RecordValue → F → List Ask → ℕ → Resuming F
made recorded inner asks since = record { recorded = recorded; inner = inner; asks = asks; since = since }

-- a fetcher that was made of the record and another, and was asked nothing
pub resuming_is : {F : Type 0} (log : F → List Ask) (recorded : RecordValue) (inner : F) (r : Resuming F) → r.recorded ≡ recorded → r.inner ≡ inner → r.asks ≡ [] → r.since ≡ length (log inner)
    → r ≡ resuming_of log recorded inner
resuming_is log recorded inner r e1 e2 e3 e4 =
    ap (λ x. made x r.inner r.asks r.since) e1 ∙ ap (λ x. made recorded x r.asks r.since) e2 ∙ ap (λ x. made recorded inner x r.since) e3 ∙ ap (λ x. made recorded inner [] x) e4

-- what the writer of a record answers says how it is saved
pub is_saved : {V : Type 0} (contents : V → Option (List ℕ)) (r : Result (Unit {0}) RecordFault) (old new : V) (text wanted : List ℕ) → text ≡ wanted
    → OnOk r (Appends (contents old) (contents new) text) → (r ≡ Err Device → AppendsFront (contents old) (contents new) text) → (r ≡ Err Memory → new ≡ old)
    → IsSaved r (contents old) (contents new) wanted
is_saved contents (Ok done) old new text wanted same ok device memory = subst (λ (t : List ℕ). Appends (contents old) (contents new) t) same ok
is_saved contents (Err Device) old new text wanted same ok device memory = subst (λ (t : List ℕ). AppendsFront (contents old) (contents new) t) same (device refl)
is_saved contents (Err Memory) old new text wanted same ok device memory = ap contents (memory refl)

-- it is written after what was written before
pub saving_behind : (saving : Result (Unit {0}) RecordFault) (before old new : Option (List ℕ)) (told status : ℕ) → IsDelivered old new (save_text saving) (save_status saving told) status
    → (text : List ℕ) (wanted : ℕ) → told ≡ wanted → Appends before old text → IsDelivered before new (text ++ save_text saving) (save_status saving wanted) status
saving_behind saving before old new told status delivered text wanted same whole =
    delivered_behind before old new text (save_text saving) (save_status saving wanted) status whole
    (subst (λ (n : ℕ). IsDelivered old new (save_text saving) (save_status saving n) status) same delivered)
