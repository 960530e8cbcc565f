-- Fronts that are fed piece by piece.
use Rattle.std.proofs.Common.{◌≡◌, ℕ, ◌<◌, List, [], ◌∷◌, ◌++◌, length, Result, Ok, Err, IfOk, refl, sym, ap, ◌∙◌, arith}
use Rattle.css_links.specs.References.{Front, step, fed, nothing_read, ended, references}
use Rattle.css_links.specs.Scanning.{ScanProgress, StandsFor}

pub fed-append : (s : Front) (xs ys : List ℕ) → fed s (xs ++ ys) ≡ fed (fed s xs) ys
fed-append s [] ys = refl
fed-append s (b ∷ bs) ys = fed-append (step s b) bs ys

-- if nothing is left of a piece, the front is the one before with the piece
pub fed_on : (old new : Front) (left piece front : List ℕ) → length left < 1 → fed new left ≡ fed old piece → old ≡ fed nothing_read front → new ≡ fed nothing_read (front ++ piece)
fed_on old new [] piece front short e stands = e ∙ ap (λ s. fed s piece) stands ∙ sym (fed-append nothing_read front piece)
fed_on old new (b ∷ bs) piece front short e stands = absurd (omega arith)

-- the same by fronts
pub fed_whole : (old new : Front) (left piece : List ℕ) → length left < 1 → fed new left ≡ fed old piece → new ≡ fed old piece
fed_whole old new [] piece short e = e
fed_whole old new (b ∷ bs) piece short e = absurd (omega arith)

-- at the end of the sheet what was found is what the whole gives
pub finished : (found : List (List ℕ)) (s : ScanProgress) (sheet : List ℕ) → StandsFor s sheet → found ≡ ended s.front → found ≡ references sheet
unfolding references
finished found s sheet stands e = e ∙ ap ended stands.front

pub given_sheet : {X E : Type 0} (items : X → List (List ℕ)) (r : Result X E) (s : ScanProgress) (sheet : List ℕ) → StandsFor s sheet
    → IfOk r (λ x. (front : List ℕ) → StandsFor s front → items x ≡ references front) → IfOk r (λ x. items x ≡ references sheet)
given_sheet items (Ok x) s sheet stands h = h sheet stands
given_sheet items (Err e) s sheet stands h = h
