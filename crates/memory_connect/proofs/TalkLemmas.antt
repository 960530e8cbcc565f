-- The answers of a site in memory, one after the other.
use Rattle.std.proofs.Common.{◌≡◌, ℕ, ◌+◌, ◌<◌, Bool, true, false, List, ◌∷◌, length, drop, get_or, if◌then◌else◌, refl, ap, sym, ◌∙◌}
use Rattle.std.proofs.lemmas.List.{drop_more}
use Rattle.memory_connect.specs.declared.memory_connect.StoredAnswer.{StoredAnswer}
use Rattle.memory_connect.specs.Talks.{answer_to, asks_for}

-- the first of the answers that are left decides, or those after it
answer_of_first : (stored : StoredAnswer) (more : List StoredAnswer) (request : List ℕ)
    → answer_to (stored ∷ more) request ≡ (if asks_for stored.at request then stored.bytes.items else answer_to more request)
unfolding answer_to
answer_of_first stored more request = refl

at_step : (answers : List StoredAnswer) (request : List ℕ) (i : ℕ) (d stored : StoredAnswer) → i < length answers → stored ≡ get_or answers i d
    → answer_to (drop i answers) request ≡ (if asks_for stored.at request then stored.bytes.items else answer_to (drop (i + 1) answers) request)
at_step answers request i d stored below is =
    ap (λ xs. answer_to xs request) (drop_more answers i d below)
    ∙ ap (λ x. answer_to (x ∷ drop (i + 1) answers) request) (sym is)
    ∙ answer_of_first stored (drop (i + 1) answers) request

-- this one is requested
pub asked : (answers : List StoredAnswer) (request : List ℕ) (i : ℕ) (d stored : StoredAnswer) (b : Bool) → i < length answers → stored ≡ get_or answers i d
    → b ≡ asks_for stored.at request → b ≡ true → answer_to (drop i answers) request ≡ stored.bytes.items
asked answers request i d stored b below is tested holds = at_step answers request i d stored below is ∙ rw (sym tested, holds) refl

-- another is requested
pub passed : (answers : List StoredAnswer) (request : List ℕ) (i : ℕ) (d stored : StoredAnswer) (b : Bool) → i < length answers → stored ≡ get_or answers i d
    → b ≡ asks_for stored.at request → b ≡ false → answer_to (drop i answers) request ≡ answer_to (drop (i + 1) answers) request
passed answers request i d stored b below is tested fails = at_step answers request i d stored below is ∙ rw (sym tested, fails) refl
