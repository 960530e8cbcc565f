-- A name and the query after it, from the left, and where a query begins.
use Rattle.std.proofs.Common.{◌≡◌, ◌∙◌, ℕ, ◌+◌, ◌<◌, List, [], ◌∷◌, ◌++◌, drop, length, refl, ap, arith}
use Rattle.std.proofs.Math.Seq.{drop-append_seam, drop-append-add}

-- no name, and no query
pub nothing_left : (front text : List ℕ) → length front < 1 → length text ≡ 0 → front ++ text ≡ []
nothing_left [] [] none end = refl
nothing_left [] (x ∷ text) none end = absurd (omega arith)
nothing_left (x ∷ front) text none end = absurd (omega arith)

-- no name, and the first octet of a query
pub query_step : (front text : List ℕ) (octet : ℕ) (rest : List ℕ) → length front < 1 → text ≡ octet ∷ rest → front ++ text ≡ octet ∷ (front ++ rest)
query_step [] text octet rest none is = is
query_step (x ∷ front) text octet rest none is = absurd (omega arith)

-- what is after directory and file name
pub query_behind : (text dir file query : List ℕ) → text ≡ dir ++ (file ++ query) → drop (length dir + length file) text ≡ query
query_behind text dir file query is =
    ap (drop (length dir + length file)) is ∙ drop-append-add dir (file ++ query) (length file) ∙ drop-append_seam file query
