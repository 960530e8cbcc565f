-- What the definitions give of samples that were worked out by hand: lines with their counts, and exit statuses.
use Rattle.std.proofs.Common.{◌≡◌, ◌||◌, ℕ, Bool, true, false, List, [], ◌∷◌, Some, None, refl, if◌then◌else◌}
use Rattle.std.specs.Prelude.{codes}
use Rattle.std.specs.Fmt.{digits}
use Rattle.fetcher.specs.FaultWords.{class_of, word_of}
use Rattle.fetcher.specs.declared.fault_kind.FaultKind.{FaultKind}
use Rattle.fetcher.specs.declared.fault_kind.FaultKind.TheVariants.{Connect, Head, HeadLong, Chunk}
use Rattle.fetcher.specs.declared.outcome.Outcome.TheVariants.{Leaf, Fault}
use Rattle.report.specs.ExitStatus.{is_network, exit_status}
use Rattle.report.specs.Report.{Line, Asked, Refused, report_text}

lines : report_text (record { address = codes "http://h/"; depth = 0; fate = Asked (Leaf 200); name = Some (codes "h/index.html") }
    ∷ record { address = codes "http://h/a"; depth = 1; fate = Refused; name = None }
    ∷ record { address = codes "http://h/b"; depth = 12; fate = Asked (Fault HeadLong); name = None } ∷ [])
    ≡ codes "0 200 http://h/ h/index.html\n1 rob http://h/a -\n12 head-long http://h/b -\nfetched 2 kept 1 refused 1 failed 1\n"
unfolding digits word_of
lines = refl

statuses : (exit_status [] ≡ 0)
    × (exit_status (Leaf 200 ∷ Leaf 399 ∷ []) ≡ 0)
    × (exit_status (Leaf 400 ∷ []) ≡ 8)
    × (exit_status (Leaf 404 ∷ Fault Head ∷ []) ≡ 7)
    × (exit_status (Fault Chunk ∷ Leaf 404 ∷ Fault Connect ∷ []) ≡ 4)
unfolding class_of
statuses = (refl, refl, refl, refl, refl)

-- 4 for a fault of the network, 7 for one of the protocol
abbrev status_of : Bool → ℕ
status_of lost = if lost then 4 else 7

-- a fault by itself gives the status of its class
faults : (kind : FaultKind) → exit_status (Fault kind ∷ []) ≡ status_of (is_network (class_of kind))
faults kind = by_class (is_network (class_of kind))
  where
    by_class : (lost : Bool) → status_of (lost || false) ≡ status_of lost
    by_class true = refl
    by_class false = refl
