-- The edges of links, one after another.
use Rattle.std.proofs.Common.{◌≡◌, ◌∙◌, ◌+◌, ◌<◌, ℕ, List, ◌∷◌, ◌++◌, length, drop, get_or, ap}
use Rattle.std.proofs.lemmas.List.{drop_more}
use Rattle.address.specs.Address.{AddressText}
use Rattle.html_links.specs.Links.{Link}
use Rattle.html_links.specs.declared.rules.LinkRules.{LinkRules}
use Rattle.response_answer.specs.Digests.{edge_of, edge_of_reference, edges_from, sheet_edges}

-- the edges from a place on are that of the link there, and those after it
pub edges_step : (rules : LinkRules) (base : AddressText) (links : List Link) (i : ℕ) (d l : Link) → i < length links → get_or links i d ≡ l
    → edges_from rules base (drop i links) ≡ edge_of rules base l ++ edges_from rules base (drop (i + 1) links)
unfolding edges_from
edges_step rules base links i d l below is = ap (edges_from rules base) (drop_more links i d below ∙ ap (λ x. x ∷ drop (i + 1) links) is)

-- the same of the references of a style sheet
pub shown_step : (rules : LinkRules) (at : AddressText) (found : List (List ℕ)) (i : ℕ) (d t : List ℕ) → i < length found → get_or found i d ≡ t
    → sheet_edges rules at (drop i found) ≡ edge_of_reference rules at t ++ sheet_edges rules at (drop (i + 1) found)
unfolding sheet_edges
shown_step rules at found i d t below is = ap (sheet_edges rules at) (drop_more found i d below ∙ ap (λ x. x ∷ drop (i + 1) found) is)
