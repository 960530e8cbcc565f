use Rattle.std.proofs.Common.{◌≡◌, ℕ, ◌<◌, ◌≤◌, ◌+◌, false, [], map, length, get_or}
use Rattle.std.specs.Cmp.Lexicographic.{slice_cmp}
use Rattle.std.specs.Ordering.{nat_cmp, is_lt}
use Rattle.std.specs.String.{string_bytes}
use Rattle.local_names.specs.Endings.{stem_of}
use Rattle.local_names.specs.inner.Taken.{lent_text}
use Rattle.local_names.proofs.naming.least_stems.Given as goal

abbrev pub invariant-loop-i : goal.invariant-loop-i
invariant-loop-i l =
    record {
      count : length l.least.items ≡ l.i;
      low : (m j : ℕ) → m < l.i → length (map (stem_of l.has_endings) (map string_bytes l.names)) ≤ m + 1 + j → j < length (map (stem_of l.has_endings) (map string_bytes l.names))
          → is_lt (slice_cmp nat_cmp (get_or (map (stem_of l.has_endings) (map string_bytes l.names)) j []) (get_or (map lent_text l.least.items) m [])) ≡ false;
    }
