-- The end of a journal: what an entry leaves there.
use Rattle.std.specs.Prelude.{◌≡◌, ◌+◌, ℕ, List, Option, true, false, length}
use Rattle.std.specs.Io.KnownBytes.{Appends}
use Rattle.streams.specs.Streams.{AppendsFront}
use Rattle.record_journal.specs.declared.tail.Added.{Added}
use Rattle.record_journal.specs.declared.tail.Added.TheVariants.{Whole, Failed, Closed}
use Rattle.record_journal.specs.declared.tail.Tail.{Tail}

-- An open end takes the entry whole, and its bytes are counted; or a front of it, and is closed. A closed one stays as it is.
abbrev pub AddsToTail : {F : Type 0} → (F → Option (List ℕ)) → Tail F → List ℕ → Added → Tail F → Type 0
AddsToTail contents old entry Whole new =
    (old.is_open ≡ true) × (new.is_open ≡ true) × Appends (contents old.file) (contents new.file) entry × (new.whole ≡ old.whole + length entry)
AddsToTail contents old entry Failed new =
    (old.is_open ≡ true) × (new.is_open ≡ false) × AppendsFront (contents old.file) (contents new.file) entry × (new.whole ≡ old.whole)
AddsToTail contents old entry Closed new = (old.is_open ≡ false) × (new ≡ old)
