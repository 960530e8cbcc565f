-- How the reading of a record that was cut ends.
use Rattle.std.proofs.Common.{◌≡◌, ◌≢◌, ℕ, ◌+◌, ◌++◌, ◌∙◌, Bool, true, false, List, [], ◌∷◌, Some, None, sym, ap, inl, inr, length, take, drop, arith}
use Rattle.std.specs.Str.{bytes_eq}
use Rattle.std.proofs.lemmas.List.{take-append-drop}
use Rattle.std.proofs.lemmas.Slice.Eq.{bytes_eq-Decides}
use Rattle.site_inputs.specs.declared.input_fault.InputLineFault.TheVariants.{Line, Address, Memory}
use Rattle.site_records.specs.declared.entry_fault.EntryFault.{EntryFault}
use Rattle.site_records.specs.declared.entry_fault.EntryFault.TheVariants.{Own, Hop}
use Rattle.site_records.specs.declared.version.Version.{Version}
use Rattle.site_records.specs.declared.reading.RecordReading.{RecordReading}
use Rattle.site_records.specs.Entries.{IsBadLine, IsBadAddress, IsFormed}
use Rattle.site_records.specs.inner.Readings.{IsBad, fault_at}
use Rattle.site_records.specs.Fronts.{HasNoLine, IsTornEntry, IsBadWhole, IsFrontFault, HasFront}
use Rattle.site_records.proofs.ReadLaws.{IsReadTo, first_bad_at}
use Rattle.html_links.specs.declared.rules.LinkRules.{LinkRules}

nothing_is_torn : (rest : List ℕ) → rest ≡ [] → HasNoLine rest
nothing_is_torn [] e line behind is = let first = is.first in absurd cc
nothing_is_torn (x ∷ xs) e line behind is = absurd cc

some_left : (version : Version) (rest : List ℕ) → ¬ IsTornEntry version rest → rest ≢ []
some_left version rest whole e = whole (inl (nothing_is_torn rest e))

-- a bad entry within which the bytes don't end is the first
pub first_bad_whole : (links : LinkRules) (bytes : List ℕ) (old : RecordReading) (number : ℕ) (rest : List ℕ) (f : EntryFault) → IsReadTo links bytes old number rest
    → ¬ IsTornEntry old.version rest → IsBad old rest f → IsFrontFault links bytes (fault_at f (number + 1))
first_bad_whole links bytes old number rest (Own Line) s whole bad =
    inr (first_bad_at links bytes old number rest (IsBadWhole IsBadLine) None (number + 1) s (some_left old.version rest whole) (omega arith) (bad, whole))
first_bad_whole links bytes old number rest (Own Address) s whole bad =
    first_bad_at links bytes old number rest (IsBadWhole IsBadAddress) None (number + 1) s (some_left old.version rest whole) (omega arith) (bad, whole)
first_bad_whole links bytes old number rest (Own Memory) s whole bad =
    inl (number + 1, first_bad_at links bytes old number rest (λ version _ _ _ rest. IsFormed version rest) None (number + 1) s (some_left old.version rest whole) (omega arith) bad)
first_bad_whole links bytes old number rest (Hop k Line) s whole bad =
    inr (first_bad_at links bytes old number rest (IsBadWhole IsBadLine) (Some k) (number + 1 + k + 1) s (some_left old.version rest whole) (omega arith) (bad, whole))
first_bad_whole links bytes old number rest (Hop k Address) s whole bad =
    first_bad_at links bytes old number rest (IsBadWhole IsBadAddress) (Some k) (number + 1 + k + 1) s (some_left old.version rest whole) (omega arith) (bad, whole)
first_bad_whole links bytes old number rest (Hop k Memory) s whole bad =
    inl (number + 1 + k + 1, first_bad_at links bytes old number rest (λ version _ _ _ rest. IsFormed version rest) (Some k) (number + 1 + k + 1) s (some_left old.version rest whole) (omega arith) bad)

-- what is read before an entry within which the bytes end is a front
pub front_read : (links : LinkRules) (bytes : List ℕ) (reading : RecordReading) (number : ℕ) (rest : List ℕ) → (s : IsReadTo links bytes reading number rest) → IsTornEntry reading.version rest → HasFront links bytes s.above rest
front_read links bytes reading number rest s torn = record { version = reading.version; text = s.text; begins = s.begins; front = s.front; torn = torn }

-- a text that begins with a line is this and a rest
pub begins_with : (line text : List ℕ) → bytes_eq (take (length line) text) line ≡ true → text ≡ line ++ drop (length line) text
begins_with line text same =
    sym (take-append-drop (length line) text) ∙ ap (λ l. l ++ drop (length line) text) ((bytes_eq-Decides (take (length line) text) line).0 same)

-- a test that isn't passed
pub not_so : (b : Bool) (P : Type 0) → (P → b ≡ true) → b ≡ false → ¬ P
not_so b P to fails is = let yes = to is in absurd cc
