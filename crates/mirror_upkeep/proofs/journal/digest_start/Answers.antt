-- The address, and the end of its line.
use Rattle.std.proofs.Common.{◌≡◌, ◌∙◌, ◌++◌, ◌∷◌, [], List, ℕ, ap, subst, append_assoc}
use Rattle.sha2.specs.Hashers.{Holds256}
use Rattle.mirror_upkeep.proofs.journal.digest_start.Goals as goal

pub returns : goal.returns
returns c m held =
    let first = c.update.ensures m held in
    let second = c.update-2.ensures (m ++ c.as_bytes.result.now) first in
    let text : c.as_bytes.result.now ≡ c.args.start.now = c.as_bytes.ensures.value ∙ c.as_str.ensures.value in
    subst (λ (all : List ℕ). Holds256 c.update-2.new.self all) (append_assoc m c.as_bytes.result.now (10 ∷ []) ∙ ap (λ (t : List ℕ). m ++ (t ++ 10 ∷ [])) text) second
