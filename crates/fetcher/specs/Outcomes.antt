-- The edges of an outcome (GNU Wget manual, Recursive Download; redirects: RFC 9110, section 15.4).
use Rattle.std.specs.Prelude.{Bool, true, false, List, [], ◌∷◌}
use Rattle.fetcher.specs.declared.edge.EdgeKind.TheVariants.{Redirect}
use Rattle.fetcher.specs.declared.edge.Edge.{Edge}
use Rattle.fetcher.specs.declared.outcome.Outcome.{Outcome}
use Rattle.fetcher.specs.declared.outcome.Outcome.TheVariants.{Page, Moved, Leaf, Fault}

-- where an outcome leads: a page to its links, a redirect to its target, any other nowhere
abbrev pub edges : Outcome → List Edge
edges (Page status links) = links
edges (Moved status target) = record { target = target; kind = Redirect } ∷ []
edges (Leaf status) = []
edges (Fault kind) = []

-- there is an edge
abbrev pub has_edge : List Edge → Bool
has_edge [] = false
has_edge (edge ∷ more) = true

-- there is no response
abbrev pub is_fault : Outcome → Bool
is_fault (Fault kind) = true
is_fault other = false
