-- Tables: where a key is.
use Rattle.std.proofs.Common.{◌≡◌, ◌≢◌, ℕ, ◌<◌, Bool, true, false, List, [], ◌∷◌, length, get_or, zero, suc, Some, refl, sym, ap, ◌∙◌, arith}
use Rattle.std.specs.Prelude.{Contains}
use Rattle.std.specs.Str.{bytes_eq}
use Rattle.std.proofs.lemmas.Slice.Eq.{bytes_eq-Decides}
use Rattle.std.proofs.lemmas.List.{length-map, get_or-map}
use Rattle.frontier_core.specs.Tables.{Text, lookup, keys, IsOnce}
use Rattle.report.proofs.ListLaws.{contains_tail}

-- two texts are one, or not
pub data Compared (a b : Text) : Type 0 where
  same : a ≡ b → bytes_eq a b ≡ true → Compared a b
  other : (a ≢ b) → bytes_eq a b ≡ false → Compared a b

pub compare_texts : (a b : Text) → Compared a b
compare_texts a b = go (bytes_eq a b) refl
  where
    go : (t : Bool) → bytes_eq a b ≡ t → Compared a b
    go true e = same ((bytes_eq-Decides a b).0 e) e
    go false e = other (λ h. let r : true ≡ false = sym ((bytes_eq-Decides a b).1 h) ∙ e in cc) e

abbrev key_of : {V : Type 0} → Text × V → Text
key_of entry = entry.0

-- an entry of a table whose keys occur once is found by its key
pub found_entry : {V : Type 0} (entries : List (Text × V)) → IsOnce (keys entries) → (k : ℕ) (d : Text × V) → k < length entries
    → lookup entries (get_or entries k d).0 ≡ Some (get_or entries k d).1
found_entry [] once k d lt = absurd (omega arith)
found_entry (entry ∷ entries) once zero d lt = rw ((bytes_eq-Decides entry.0 entry.0).1 refl) refl
found_entry (entry ∷ entries) once (suc k) d lt =
    elim (compare_texts entry.0 (get_or entries k d).0) [
      | same h e ↦ absurd (once.0 (k, omega (arith, length-map entries key_of), get_or-map key_of entries k d entry.0 (omega arith) ∙ sym h))
      | other h e ↦ rw e (found_entry entries once.1 k d (omega arith))
    ]

-- what is found in a table is in it
pub found_stands : {V : Type 0} (entries : List (Text × V)) (u : Text) (e : V) → lookup entries u ≡ Some e → Contains entries (u, e)
found_stands [] u e found = cc
found_stands {V} (entry ∷ entries) u e found =
    elim (compare_texts entry.0 u) [
      | same h t ↦ (let there : Some entry.1 ≡ Some e = rw t at found in let is : entry.1 ≡ e = cc in
          (zero, omega arith, ap (λ (v : Text). (v, entry.1)) h ∙ ap (λ (z : V). (u, z)) is))
      | other h t ↦ contains_tail entry (u, e) entries (found_stands entries u e (rw t at found))
    ]
