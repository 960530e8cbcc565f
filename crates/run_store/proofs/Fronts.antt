-- What a crash leaves of an index, read as entries.
use Rattle.std.proofs.Common.{◌≡◌, ℕ, List, [], ◌∷◌, ◌++◌, Option, Some, None, take, sym, ◌∙◌, ap, subst, arith, append_assoc, length-append}
use Rattle.std.proofs.lemmas.List.{append-nil, take-append-le}
use Rattle.disk_folder.specs.Disks.{AreTorn, Adds}
use Rattle.entry_lines.specs.Lines.{AreEntries, ArePlain, text, recovered, IsFrontOf}
use Rattle.entry_lines.proofs.LineLaws.{reads_front, text-append, entries-append}
use Rattle.run_store.specs.Indexes.{LeavesFront}

-- what a crash may leave of the file is read as a front
pub leaves_front : (done added : List (List ℕ)) (kept : List ℕ → Type 0) → AreEntries done → AreEntries added → AreTorn (text done) (text added) kept
    → (c : Option (List ℕ)) → (x : List ℕ) × (c ≡ Some x) × kept x → LeavesFront done added c
leaves_front done added kept are_done are_added torn c left =
    subst (LeavesFront done added) (sym left.1) (reads_front done added left.0 are_done are_added (torn left.0 left.2))

-- a front of few is one of more
pub front_of_more : (done added more entries : List (List ℕ)) → IsFrontOf done added entries → IsFrontOf done (added ++ more) entries
front_of_more done added more entries front =
    let few : take front.count (added ++ more) ≡ take front.count added = take-append-le front.count added more front.no_more in
    record {
      count = front.count;
      no_more = omega (arith, front.no_more, length-append added more);
      is = front.is ∙ ap (λ (l : List (List ℕ)). done ++ l) (sym few);
    }

pub leaves_more : (done added more : List (List ℕ)) (c : Option (List ℕ)) → LeavesFront done added c → LeavesFront done (added ++ more) c
leaves_more done added more None front = front
leaves_more done added more (Some bytes) front = front_of_more done added more (recovered bytes) front

pub text-push : (es : List (List ℕ)) (e : List ℕ) → text (es ++ e ∷ []) ≡ text es ++ (e ++ 10 ∷ [])
text-push es e = text-append es (e ∷ [])

-- the line of one more
pub torn_push : (done added : List (List ℕ)) (e line : List ℕ) (old new : List ℕ → Type 0) → line ≡ e ++ 10 ∷ [] → Adds (text done) (text added) line old new → AreTorn (text done) (text added) old → AreTorn (text done) (text (added ++ e ∷ [])) new
torn_push done added e line old new is adds torn =
    subst (λ (l : List ℕ). AreTorn (text done) l new) (ap (λ (l : List ℕ). text added ++ l) is ∙ sym (text-push added e)) (adds torn)

pub stands_push : (done added : List (List ℕ)) (e line : List ℕ) → line ≡ e ++ 10 ∷ [] → text (done ++ added) ++ line ≡ text (done ++ (added ++ e ∷ []))
stands_push done added e line is =
    ap (λ (l : List ℕ). text (done ++ added) ++ l) is ∙ sym (text-push (done ++ added) e) ∙ ap text (append_assoc done added (e ∷ []))

-- all of it is on the disk
pub torn_none : (es : List (List ℕ)) (bytes : List ℕ) (kept : List ℕ → Type 0) → bytes ≡ text es → ((x : List ℕ) → kept x → x ≡ bytes) → AreTorn (text es) (text []) kept
torn_none es bytes kept is only x k = record { rest = []; split = only x k ∙ is ∙ sym (append-nil (text es)); holed = tt }

pub plain_entry : (added : List (List ℕ)) (e : List ℕ) → AreEntries added → ArePlain e → AreEntries (added ++ e ∷ [])
plain_entry added e are plain = entries-append added (e ∷ []) are (plain, tt)
