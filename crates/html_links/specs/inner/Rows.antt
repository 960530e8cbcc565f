-- Rows of the link table by the first bytes of their elements, and attributes by the first bytes of their names.
use Rattle.std.specs.Prelude.{ℕ, Bool, false, ◌||◌, List, [], ◌∷◌, if◌then◌else◌, ◌==◌}
use Rattle.html_links.specs.Links.{Row}
use Rattle.html_links.specs.Asked.{asked_name}
use Rattle.html_links.specs.declared.table.LinkRow as declared
use Rattle.html_links.specs.declared.asked.AskedName.{AskedName}

-- a row by its names
abbrev pub named : declared.LinkRow → Row
named r = record { number = r.0; element = r.1.now; attribute = asked_name r.2; form = r.3 }

-- whether a name begins with that byte
abbrev pub begins_with : ℕ → List ℕ → Bool
begins_with first [] = false
begins_with first (b ∷ bs) = first == b

-- whether an attribute that is read like a style sheet begins with that byte: s, f, m or c
abbrev pub begins_styling : ℕ → Bool
begins_styling first = first == 115 || first == 102 || first == 109 || first == 99

-- the rows of elements whose names begin with that byte
abbrev pub rows_with : ℕ → List Row → List Row
rows_with first [] = []
rows_with first (r ∷ others) = if begins_with first r.element then r ∷ rows_with first others else rows_with first others

-- the attributes whose names begin with that byte
abbrev pub names_with : ℕ → List AskedName → List AskedName
names_with first [] = []
names_with first (n ∷ others) = if begins_with first (asked_name n) then n ∷ names_with first others else names_with first others
