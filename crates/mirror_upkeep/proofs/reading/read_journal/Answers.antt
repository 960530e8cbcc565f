-- What is before the first zero is read, and that is a front of a journal if a crash left the rest.
use Rattle.std.proofs.Common.{◌≡◌, ◌++◌, [], List, Result, Ok, Err, sym, subst}
use Rattle.std.specs.Result.{MatchResult}
use Rattle.mirror_upkeep.specs.Journals.{Begins, IsJournal, IsRunOf, Said, StartsWith, lines}
use Rattle.mirror_upkeep.specs.declared.reading.JournalFault.TheVariants.{Memory}
use Rattle.mirror_upkeep.proofs.ZeroLaws.{crash_front}
use Rattle.mirror_upkeep.proofs.reading.read_journal.Goals as goal

pub returns-clause-back : goal.returns-clause-back
returns-clause-back c = let back = rw c.before_zero.ensures at c.read_said.ensures.back in back

forget : {A E : Type 0} (J S : List Said → Type 0) (W : List Said → A → Type 0) (F : E → Type 0) (r : Result A E)
    → MatchResult r (λ i. (x : List Said) × J x × S x × W x i) F → MatchResult r (λ i. (x : List Said) × S x × W x i) F
forget J S W F (Ok i) is = (is.0, is.2, is.3)
forget J S W F (Err e) is = is

pub returns-clause-crash : goal.returns-clause-crash
returns-clause-crash c start others said is own written holed =
    let front = crash_front start others c.args.first.now c.args.bytes.now said is own holed in
    forget (IsJournal c.before_zero.result.now c.args.first.now) (StartsWith said) IsRunOf (λ fault. fault ≡ Memory) c.read_said.result (c.read_said.ensures.back said written (subst (Begins (c.args.first.now ++ lines said [])) (sym c.before_zero.ensures) front))
