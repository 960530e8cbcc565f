-- Any list of runs of an index: what is read of it after them.
use Rattle.std.proofs.Common.{◌≡◌, ◌≤◌, inl, inr, ℕ, List, [], ◌∷◌, Option, Some, None, string_bytes, sym, ◌∙◌, ap, subst}
use Rattle.run_store.specs.declared.index.Index.{Index}
use Rattle.run_store.specs.Indexes.{IsIndex}
use Rattle.run_store.specs.Recoveries.{LeavesSame}
use Rattle.disk_folder.specs.Disks.{LeavesOnly}
use Rattle.entry_lines.specs.Lines.{recovered}
use Rattle.run_store.specs.Runs.{Call, LeavesKept}
use Rattle.run_store.specs.Lives.{Run, opening, calling, read_of, MayHold, LeavesRead, Passing, IsOpened, IsLeft, Lived}
use Rattle.run_store.proofs.RunLaws.{kept_ran}

-- ---- what one run leaves

kept_read : (older : List Run) (first : List (List ℕ)) (before behind : List Call) (c : Option (List ℕ)) → MayHold older first → LeavesKept first before behind c → MayHold (calling before behind ∷ older) (read_of c)
kept_read older first before behind None held front = absurd front
kept_read older first before behind (Some bytes) held front = (first, held, front)

read_held : (older : List Run) (before : Option (List ℕ) → Type 0) (found c : Option (List ℕ)) → MayHold older (read_of found) → ((o : Option (List ℕ)) → before o → MayHold older (read_of o)) → LeavesRead before found c → MayHold older (read_of c)
read_held older before found c held was (inl b) = was c b
read_held older before found c held was (inr same) = subst (λ (es : List (List ℕ)). MayHold older es) (sym same.2 ∙ ap read_of (sym same.1)) held

module _ {D : Type 0} (opened : D → List ℕ → Type 0) (seen : D → List ℕ → Option (List ℕ) → Type 0) (named : D → List ℕ → Type 0) (kept : D → List ℕ → List ℕ → Type 0) (left : D → List ℕ → Option (List ℕ) → Type 0)
    (moment : D → ℕ) (since : D → ℕ → List ℕ → Option (List ℕ) → Type 0)
    (leaves_named : (disk : D) (n : List ℕ) (c : Option (List ℕ)) → named disk n → left disk n c → (x : List ℕ) × (c ≡ Some x) × kept disk n x)
    (counts_now : (disk : D) (t : ℕ) (n : List ℕ) (c : Option (List ℕ)) → t ≤ moment disk → left disk n c → since disk t n c)
    (only_now : (disk : D) (n : List ℕ) (c : Option (List ℕ)) → since disk (moment disk) n c → left disk n c)
    (name : List ℕ) where
  -- what is there, and what a crash leaves
  record Holds (runs : List Run) (disk : D) : Type 0 where
    stands : (c : Option (List ℕ)) → seen disk name c → MayHold runs (read_of c)
    leaves : (c : Option (List ℕ)) → left disk name c → MayHold runs (read_of c)

  by_crash : (runs : List Run) (d : D) (t : ℕ) (disk : D) → IsLeft opened seen named kept left moment since name d t disk → ((c : Option (List ℕ)) → since d t name c → MayHold runs (read_of c)) → Holds runs disk
  by_crash runs d t disk is all = record { stands = λ c s. all c (is.stands c s); leaves = λ c l. all c (is.leaves c l) }

  holds : (runs : List Run) (disk : D) → Lived opened seen named kept left moment since name runs disk → Holds runs disk
  holds [] disk new = record { stands = λ c s. ap read_of (new.stands c s); leaves = λ c l. ap read_of (new.leaves c l) }
  holds (opening ∷ older) disk l =
      let was = holds older l.0 l.3 in
      by_crash (opening ∷ older) l.2 (moment l.0) disk l.6
      (λ c s. read_held older (left l.0 name) l.1 c (was.stands l.1 l.4) was.leaves ((l.5 l.1 l.4).each c s))
  holds (calling before behind ∷ older) disk l =
      let was = holds older l.0 l.5 in
      by_crash (calling before behind ∷ older) l.4.disk (moment l.3.disk) disk l.10
      (λ c s. kept_read older (read_of l.1) before behind c (was.stands l.1 l.6)
      (kept_ran opened seen named kept left moment since leaves_named counts_now only_now name (read_of l.1) before behind l.2 l.3 l.4 l.7.same_name (l.7.stands l.1 l.6) l.8 l.9 c
      s))

  -- Whatever runs there were and wherever each stopped, what is there is read as what they may hold.
  pub lived_holds : (runs : List Run) (disk : D) → Lived opened seen named kept left moment since name runs disk → (c : Option (List ℕ)) → seen disk name c → MayHold runs (read_of c)
  lived_holds runs disk l c s = (holds runs disk l).stands c s

  -- ---- what opening makes of it

  pub passing_by : (n : List ℕ) → n ≡ name → (old new : D) → ((bytes : List ℕ) → seen old n (Some bytes) → LeavesOnly moment since n old new (LeavesSame (left old n) bytes))
      → (seen old n None → LeavesOnly moment since n old new (LeavesSame (left old n) [])) → Passing opened seen named kept left moment since name old new
  passing_by n is old new some none found s = subst (λ (m : List ℕ). LeavesOnly moment since m old new (LeavesRead (left old m) found)) is (pass found (subst (λ (m : List ℕ). seen old m found) (sym is) s))
    where
      pass : (f : Option (List ℕ)) → seen old n f → LeavesOnly moment since n old new (LeavesRead (left old n) f)
      pass None s = none s
      pass (Some b) s = some b s

  pub opened_by : (n : List ℕ) → n ≡ name → (old disk : D) (index : Index D) → index.disk ≡ disk → string_bytes index.name ≡ name
      → ((bytes : List ℕ) → seen old n (Some bytes) → IsIndex opened seen named kept index (recovered bytes) []) → (seen old n None → IsIndex opened seen named kept index [] [])
      → Passing opened seen named kept left moment since name old disk → IsOpened opened seen named kept left moment since name old index
  opened_by n is old disk index on same some none passes = record {
    same_name = same;
    stands = λ found s. stand found (subst (λ (m : List ℕ). seen old m found) (sym is) s);
    passes = subst (λ (d : D). Passing opened seen named kept left moment since name old d) (sym on) passes;
  }
    where
      stand : (f : Option (List ℕ)) → seen old n f → IsIndex opened seen named kept index (read_of f) []
      stand None s = none s
      stand (Some b) s = some b s
