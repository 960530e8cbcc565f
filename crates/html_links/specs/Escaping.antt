-- Texts as values: what is written for a text, so that it is the value's text in quotes of either kind and without quotes
-- (HTML Standard, sections 13.1.2.3 and 13.1.4).
use Rattle.std.specs.Prelude.{ℕ, List, [], ◌∷◌, codes, if◌then◌else◌, ◌==◌}
use Rattle.std.specs.List.{flat_map}

-- a byte as it is written in a value: `&`, quotes, `<`, `>` and white as references
abbrev pub escaped_byte : ℕ → List ℕ
escaped_byte b =
    if b == 38 then codes "&amp;"
    else if b == 34 then codes "&quot;"
    else if b == 39 then codes "&#39;"
    else if b == 60 then codes "&lt;"
    else if b == 62 then codes "&gt;"
    else if b == 9 then codes "&#9;"
    else if b == 10 then codes "&#10;"
    else if b == 12 then codes "&#12;"
    else if b == 13 then codes "&#13;"
    else if b == 32 then codes "&#32;"
    else b ∷ []

-- a text as it is written in a value
abbrev pub escaped : List ℕ → List ℕ
escaped text = flat_map escaped_byte text
