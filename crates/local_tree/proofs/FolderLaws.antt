-- Files of a folder in memory, as its map has them.
use Rattle.std.proofs.Common.{◌≡◌, ℕ, Bool, true, false, cond, List, [], ◌∷◌, map, Option, Some, Result, Ok, Err, OnErr, Vec, refl, sym, ap, ◌∙◌}
use Rattle.std.proofs.lemmas.Bool.{false≢true}
use Rattle.std.proofs.lemmas.Map.Text.{is_eq-slice_cmp}
use Rattle.std.specs.BTreeMap.{BTreeMap, get_by_text}
use Rattle.std.specs.Cmp.Lexicographic.{slice_cmp}
use Rattle.std.specs.Map.{lookup}
use Rattle.std.specs.Option.{option_map}
use Rattle.std.specs.Ordering.{is_eq, nat_cmp}
use Rattle.std.specs.Result.{is_ok}
use Rattle.std.specs.Str.{bytes_eq}
use Rattle.std.specs.String.{string_bytes}
use Rattle.std.specs.declared.string.String.{String}
use Rattle.local_tree.specs.Folders.{with_file}
use Rattle.local_tree.specs.MemoryFolders.{NamedFile, file_in}

-- a file of a map's entry
abbrev pub named : {Y Z : Type 0} → String Y × Vec ℕ Z → NamedFile
named file = (string_bytes file.0, file.1.items)

entry_choice : {Z : Type 0} (b : Bool) (v : Vec ℕ Z) (o : Option (Vec ℕ Z)) (p : Option (List ℕ)) → p ≡ option_map (λ bytes. bytes.items) o → cond b (Some v.items) p ≡ option_map (λ (bytes : Vec ℕ Z). bytes.items) (cond b (Some v) o)
entry_choice true v o p e = refl
entry_choice false v o p e = e

pub file_of_entries : {Y Z : Type 0} (es : List (String Y × Vec ℕ Z)) (name : List ℕ) → file_in (map named es) name ≡ option_map (λ (bytes : Vec ℕ Z). bytes.items) (lookup (λ k. is_eq (slice_cmp nat_cmp name (string_bytes k))) es)
file_of_entries [] name = refl
file_of_entries {Y} {Z} (e ∷ es) name =
    ap (λ b. cond b (Some e.1.items) (file_in (map named es) name)) (sym (is_eq-slice_cmp name (string_bytes e.0)))
    ∙ entry_choice (is_eq (slice_cmp nat_cmp name (string_bytes e.0))) e.1 (lookup (λ k. is_eq (slice_cmp nat_cmp name (string_bytes k))) es) (file_in (map named es) name) (file_of_entries es name)

-- the files after one was put in
pub kept_file : {Y Z : Type 0} (old new : BTreeMap (String Y) (Vec ℕ Z)) (key name : List ℕ) (v : Vec ℕ Z) (bytes other : List ℕ) → key ≡ name → v.items ≡ bytes → get_by_text new other ≡ cond (bytes_eq key other) (Some v) (get_by_text old other) → file_in (map named new.entries) other ≡ with_file (file_in (map named old.entries)) name bytes other
kept_file {Y} {Z} old new key name v bytes other same held e =
    file_of_entries {Y = Y} new.entries other
    ∙ ap (option_map (λ (b : Vec ℕ Z). b.items)) e
    ∙ sym (entry_choice (bytes_eq key other) v (get_by_text old other) (file_in (map named old.entries) other) (file_of_entries {Y = Y} old.entries other))
    ∙ ap (λ k. cond (bytes_eq k other) (Some v.items) (file_in (map named old.entries) other)) same
    ∙ ap (λ b. cond (bytes_eq name other) (Some b) (file_in (map named old.entries) other)) held

-- what a call says that didn't end well
pub unkept : {A E : Type 0} (r : Result A E) (P : Type 0) → is_ok r ≡ false → OnErr r P → P
unkept (Ok a) P is held = absurd (false≢true (sym is))
unkept (Err e) P is held = held
