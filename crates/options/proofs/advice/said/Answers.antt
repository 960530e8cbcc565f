-- The words of a correction are those that were given.
use Rattle.std.proofs.Common.{◌∙◌, ◌++◌, ℕ, List, Bor, codes, ap}
use Rattle.std.proofs.lemmas.Result.{IfOk-weaker}
use Rattle.options.specs.Advice.{word_text}
use Rattle.options.proofs.HintLemmas.{flat_map-map}
use Rattle.options.proofs.advice.said.Goals as goal

pub returns-in-Correction : goal.returns-in-Correction
returns-in-Correction c =
    rw c.in-Correction.is (IfOk-weaker c.correction_text.result _ _ (λ text says. says ∙ ap (λ (words : List ℕ). codes "wgetr: " ++ c.in-Correction.wrong.now ++ c.args.hint.now ++ codes ", in:" ++ words ++ codes "\n" ++ c.in-Correction.accepted.now ++ codes "\n")
    (flat_map-map word_text (λ (w : Bor (List ℕ)). w.now) c.args.words.now)) c.correction_text.ensures)
