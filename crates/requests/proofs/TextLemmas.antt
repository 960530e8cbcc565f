-- Names.
use Rattle.std.proofs.Common.{◌≡◌, ◌∙◌, ℕ, Bool, true, false, IsTrue, ◌↔◌, List, map, refl, sym, rules}
use Rattle.std.specs.Char.{to_ascii_lowercase}
use Rattle.std.proofs.lemmas.Slice.Eq.{bytes_eq-Decides}
use Rattle.requests.specs.Lines.{is_named}

-- the same name in letters of either case
pub name_is : (one other : List ℕ) (r : Bool) → IsTrue r ↔ (map to_ascii_lowercase one ≡ map to_ascii_lowercase other) → r ≡ is_named one other
name_is one other true h = sym ((bytes_eq-Decides (map to_ascii_lowercase one) (map to_ascii_lowercase other)).1 (h.0 (search rules)))
name_is one other false h = go (is_named one other) refl
  where
    go : (t : Bool) → is_named one other ≡ t → false ≡ is_named one other
    go true e = let bad : false ≡ true = h.1 ((bytes_eq-Decides (map to_ascii_lowercase one) (map to_ascii_lowercase other)).0 e) in bad ∙ sym e
    go false e = sym e
