-- Rows of elements, and attributes, whose names begin with another byte say nothing of a name.
use Rattle.std.proofs.Common.{◌≡◌, ℕ, Bool, true, false, ◌||◌, ◌≤◌, ◌<◌, List, [], ◌∷◌, ◌++◌, None, if◌then◌else◌, length, get_or, refl, arith}
use Rattle.std.specs.Str.{bytes_eq}
use Rattle.std.specs.List.{flat_map, list_any}
use Rattle.html_links.specs.Pieces.{Attribute}
use Rattle.html_links.specs.Links.{Row, link_by, row_links, link_table, table_links}
use Rattle.html_links.specs.Awaiting.{row_of}
use Rattle.html_links.specs.Asked.{asked_name, asked_names, is_asked_attribute}
use Rattle.html_links.specs.declared.asked.AskedName.{AskedName}
use Rattle.html_links.specs.inner.Rows.{begins_with, rows_with, names_with}

-- a name that begins with another byte is another name
pub differs : (first : ℕ) (others element : List ℕ) → begins_with first element ≡ false → bytes_eq (first ∷ others) element ≡ false
differs first others [] h = refl
differs first others (b ∷ bs) h = grind arith

pub asked_among : (first : ℕ) (name : List ℕ) (rows : List Row)
    → list_any (λ r. bytes_eq (first ∷ name) r.element) (rows_with first rows) ≡ list_any (λ r. bytes_eq (first ∷ name) r.element) rows
asked_among first name [] = refl
asked_among first name (r ∷ others) = go (begins_with first r.element) refl (asked_among first name others) where
  go : (t : Bool) → begins_with first r.element ≡ t
      → list_any (λ r. bytes_eq (first ∷ name) r.element) (rows_with first others) ≡ list_any (λ r. bytes_eq (first ∷ name) r.element) others
      → list_any (λ r. bytes_eq (first ∷ name) r.element) (if t then r ∷ rows_with first others else rows_with first others)
      ≡ (bytes_eq (first ∷ name) r.element || list_any (λ r. bytes_eq (first ∷ name) r.element) others)
  go true e g = rw g refl
  go false e g = rw (differs first name r.element e) g

pub links_among : (first : ℕ) (name : List ℕ) (attributes : List Attribute) (rows : List Row)
    → flat_map (row_links (record { name = first ∷ name; attributes = attributes })) (rows_with first rows)
    ≡ flat_map (row_links (record { name = first ∷ name; attributes = attributes })) rows
links_among first name attributes [] = refl
links_among first name attributes (r ∷ others) = go (begins_with first r.element) refl (links_among first name attributes others) where
  go : (t : Bool) → begins_with first r.element ≡ t
      → flat_map (row_links (record { name = first ∷ name; attributes = attributes })) (rows_with first others)
      ≡ flat_map (row_links (record { name = first ∷ name; attributes = attributes })) others
      → flat_map (row_links (record { name = first ∷ name; attributes = attributes })) (if t then r ∷ rows_with first others else rows_with first others)
      ≡ (if bytes_eq (first ∷ name) r.element then link_by attributes r else []) ++ flat_map (row_links (record { name = first ∷ name; attributes = attributes })) others
  go true e g = rw g refl
  go false e g = rw (differs first name r.element e) g

pub asked_of : (name : List ℕ) (rows found : List Row) (other : ℕ) → 1 ≤ length name → found ≡ rows_with (get_or name 0 other) rows
    → list_any (λ r. bytes_eq name r.element) found ≡ list_any (λ r. bytes_eq name r.element) rows
asked_of [] rows found other h e = absurd (omega arith)
asked_of (first ∷ name) rows found other h e = rw e (asked_among first name rows)

pub links_by : (name : List ℕ) (attributes : List Attribute) (rows found : List Row) (other : ℕ) → 1 ≤ length name → found ≡ rows_with (get_or name 0 other) rows
    → flat_map (row_links (record { name = name; attributes = attributes })) found ≡ flat_map (row_links (record { name = name; attributes = attributes })) rows
links_by [] attributes rows found other h e = absurd (omega arith)
links_by (first ∷ name) attributes rows found other h e = rw e (links_among first name attributes rows)

-- no element has an empty name
pub none_asked : (name : List ℕ) → length name < 1 → false ≡ list_any (λ r. bytes_eq name r.element) link_table
unfolding link_table
none_asked [] h = refl
none_asked (first ∷ name) h = absurd (omega arith)

pub no_links : (name : List ℕ) (attributes : List Attribute) → length name < 1 → [] ≡ table_links (record { name = name; attributes = attributes })
unfolding table_links link_table
no_links [] attributes h = refl
no_links (first ∷ name) attributes h = absurd (omega arith)

-- ---- the row of an attribute

row_among : (first : ℕ) (name attribute : List ℕ) (rows : List Row) → row_of (first ∷ name) attribute (rows_with first rows) ≡ row_of (first ∷ name) attribute rows
row_among first name attribute [] = refl
row_among first name attribute (r ∷ others) = go (begins_with first r.element) refl (row_among first name attribute others) where
  go : (t : Bool) → begins_with first r.element ≡ t
      → row_of (first ∷ name) attribute (rows_with first others) ≡ row_of (first ∷ name) attribute others
      → row_of (first ∷ name) attribute (if t then r ∷ rows_with first others else rows_with first others) ≡ row_of (first ∷ name) attribute (r ∷ others)
  go true e g = rw g refl
  go false e g = rw (differs first name r.element e) g

pub row_by : (name attribute : List ℕ) (rows found : List Row) (other : ℕ) → 1 ≤ length name → found ≡ rows_with (get_or name 0 other) rows
    → row_of name attribute found ≡ row_of name attribute rows
row_by [] attribute rows found other h e = absurd (omega arith)
row_by (first ∷ name) attribute rows found other h e = rw e (row_among first name attribute rows)

pub no_row : (name attribute : List ℕ) → length name < 1 → None ≡ row_of name attribute link_table
unfolding link_table
no_row [] attribute h = refl
no_row (first ∷ name) attribute h = absurd (omega arith)

-- ---- attributes

named_among : (first : ℕ) (name : List ℕ) (names : List AskedName)
    → list_any (λ n. bytes_eq (first ∷ name) (asked_name n)) (names_with first names) ≡ list_any (λ n. bytes_eq (first ∷ name) (asked_name n)) names
named_among first name [] = refl
named_among first name (n ∷ others) = go (begins_with first (asked_name n)) refl (named_among first name others) where
  go : (t : Bool) → begins_with first (asked_name n) ≡ t
      → list_any (λ m. bytes_eq (first ∷ name) (asked_name m)) (names_with first others) ≡ list_any (λ m. bytes_eq (first ∷ name) (asked_name m)) others
      → list_any (λ m. bytes_eq (first ∷ name) (asked_name m)) (if t then n ∷ names_with first others else names_with first others)
      ≡ (bytes_eq (first ∷ name) (asked_name n) || list_any (λ m. bytes_eq (first ∷ name) (asked_name m)) others)
  go true e g = rw g refl
  go false e g = rw (differs first name (asked_name n) e) g

pub named_by : (name : List ℕ) (found : List AskedName) (other : ℕ) → 1 ≤ length name → found ≡ names_with (get_or name 0 other) asked_names
    → list_any (λ n. bytes_eq name (asked_name n)) found ≡ is_asked_attribute name
named_by [] found other h e = absurd (omega arith)
named_by (first ∷ name) found other h e = rw e (named_among first name asked_names)

-- no attribute has an empty name
pub none_named : (name : List ℕ) → length name < 1 → is_asked_attribute name ≡ false
none_named [] h = refl
none_named (first ∷ name) h = absurd (omega arith)
