-- Whether a robots file is worth another try, and how long the origin is left alone before it, is decided by the last of its hops.
use Rattle.std.proofs.Common.{◌≡◌, ◌∙◌, ◌<◌, ◌-◌, ℕ, suc, List, [], ◌∷◌, Option, get_or, length, arith, ap, sym, refl}
use Rattle.run_failures.specs.declared.loss_kind.LossKind.{LossKind}
use Rattle.answer_notes.specs.HopChains.{HopValue}
use Rattle.pacing.specs.Retries.{Retried}
use Rattle.retries.specs.Delays.{pause_before, pause_before_hops}
use Rattle.retries.specs.Worth.{is_worth, is_worth_hops}

worth_at_last : (retries : Retried) (lost : Option LossKind) (hops : List HopValue) (d : HopValue) → 0 < length hops → is_worth_hops retries hops lost ≡ is_worth retries (get_or hops (length hops - 1) d).1 lost
worth_at_last retries lost [] d some = absurd (omega (arith, some))
worth_at_last retries lost (hop ∷ []) d some = refl
worth_at_last retries lost (hop ∷ next ∷ more) d some =
    let on : suc (length (next ∷ more) - 1) ≡ length (hop ∷ next ∷ more) - 1 = omega arith in
    worth_at_last retries lost (next ∷ more) d (omega arith) ∙ ap (λ k. is_worth retries (get_or (hop ∷ next ∷ more) k d).1 lost) on

pub last_worth : (retries : Retried) (lost : Option LossKind) (hops slice : List HopValue) (d : HopValue) → slice ≡ hops → 0 < length slice → is_worth retries (get_or slice (length slice - 1) d).1 lost ≡ is_worth_hops retries hops lost
last_worth retries lost hops slice d same some = sym (worth_at_last retries lost slice d some) ∙ ap (λ h. is_worth_hops retries h lost) same

pause_at_last : (retries : Retried) (made : ℕ) (now : Option ℕ) (hops : List HopValue) (d : HopValue) → 0 < length hops
    → pause_before_hops retries made now hops ≡ pause_before retries made now (get_or hops (length hops - 1) d).1
pause_at_last retries made now [] d some = absurd (omega (arith, some))
pause_at_last retries made now (hop ∷ []) d some = refl
pause_at_last retries made now (hop ∷ next ∷ more) d some =
    let on : suc (length (next ∷ more) - 1) ≡ length (hop ∷ next ∷ more) - 1 = omega arith in
    pause_at_last retries made now (next ∷ more) d (omega arith) ∙ ap (λ k. pause_before retries made now (get_or (hop ∷ next ∷ more) k d).1) on

pub last_pause : (retries : Retried) (made : ℕ) (now : Option ℕ) (hops slice : List HopValue) (d : HopValue) → slice ≡ hops → 0 < length slice
    → pause_before retries made now (get_or slice (length slice - 1) d).1 ≡ pause_before_hops retries made now hops
last_pause retries made now hops slice d same some = sym (pause_at_last retries made now slice d some) ∙ ap (pause_before_hops retries made now) same
