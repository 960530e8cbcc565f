-- Entries in lines, and what is read of bytes that a crash left.
use Rattle.std.specs.Prelude.{◌≡◌, ◌≢◌, ◌≤◌, ℕ, List, [], ◌∷◌, ◌++◌, length, take, if◌then◌else◌, ◌==◌}
use Rattle.disk_folder.specs.Disks.{IsTorn}

-- no zero and no line feed
abbrev pub ArePlain : List ℕ → Type 0
ArePlain [] = Unit {0}
ArePlain (x ∷ xs) = (x ≢ 0) × (x ≢ 10) × ArePlain xs

abbrev pub AreEntries : List (List ℕ) → Type 0
AreEntries [] = Unit {0}
AreEntries (e ∷ es) = ArePlain e × AreEntries es

-- each entry, and a line feed after it
abbrev pub text : List (List ℕ) → List ℕ
text [] = []
text (e ∷ es) = e ++ 10 ∷ text es

-- the whole lines, the first of which began so; a line with a zero is none, nor is one without a line feed, and nothing after it counts
abbrev pub lines_from : List ℕ → List ℕ → List (List ℕ)
lines_from begun [] = []
lines_from begun (x ∷ xs) = if x == 0 then [] else (if x == 10 then begun ∷ lines_from [] xs else lines_from (begun ++ x ∷ []) xs)

-- the entries that bytes represent
abbrev pub recovered : List ℕ → List (List ℕ)
recovered bytes = lines_from [] bytes

-- these entries, and a front of those after them
pub record IsFrontOf (done added : List (List ℕ)) (entries : List (List ℕ)) : Type 0 where
  pub count : ℕ
  pub no_more : count ≤ length added
  pub is : entries ≡ done ++ take count added

-- whatever a crash leaves of the lines of entries, of which some are synced, is read as those and a front of the others
abbrev pub ReadsFront : Type 0
ReadsFront =
    (done added : List (List ℕ)) (bytes : List ℕ) → AreEntries done → AreEntries added → IsTorn (text done) (text added) bytes → IsFrontOf done added (recovered bytes)
