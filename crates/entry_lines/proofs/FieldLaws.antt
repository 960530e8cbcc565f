-- Fields are read back, and so is an index of entries that have them.
use Rattle.std.proofs.Common.{◌≡◌, ◌≢◌, ◌≤◌, ℕ, zero, suc, List, [], ◌∷◌, ◌++◌, length, take, map, refl, sym, ◌∙◌, ap, subst, arith, append_assoc}
use Rattle.std.proofs.lemmas.List.{append-nil}
use Rattle.std.proofs.lemmas.Bool.Decides.{nat_tests}
use Rattle.entry_lines.specs.Escapes.{escaped, read_back, HasNoSpace}
use Rattle.entry_lines.specs.Lines.{ArePlain, AreEntries, recovered}
use Rattle.entry_lines.specs.Fields.{fields_text, fields_from, fields_of, ReadsBack, ReadsCut}
use Rattle.entry_lines.proofs.LineLaws.{are_plain-append, read_again, reads_front}
use Rattle.entry_lines.proofs.EscapeLaws.{plain_escaped, no_space_escaped, read_escaped}

at_other : (begun rest : List ℕ) (x : ℕ) → x ≢ 32 → fields_from begun (x ∷ rest) ≡ fields_from (begun ++ x ∷ []) rest
at_other begun rest x s = grind (arith, nat_tests)

read_field : (begun e rest : List ℕ) → HasNoSpace e → fields_from begun (e ++ 32 ∷ rest) ≡ read_back (begun ++ e) ∷ fields_from [] rest
read_field begun [] rest none = ap (λ (l : List ℕ). read_back l ∷ fields_from [] rest) (sym (append-nil begun))
read_field begun (x ∷ e) rest none =
    at_other begun (e ++ 32 ∷ rest) x none.0 ∙ read_field (begun ++ x ∷ []) e rest none.1 ∙ ap (λ (l : List ℕ). read_back l ∷ fields_from [] rest) (append_assoc begun (x ∷ []) e)

pub plain_fields : (fs : List (List ℕ)) → ArePlain (fields_text fs)
plain_fields [] = tt
plain_fields (f ∷ fs) = are_plain-append (escaped f) (32 ∷ fields_text fs) (plain_escaped f) (omega arith, omega arith, plain_fields fs)

entries_plain : (es : List (List (List ℕ))) → AreEntries (map fields_text es)
entries_plain [] = tt
entries_plain (e ∷ es) = (plain_fields e, entries_plain es)

-- what was written as fields is read back
pub read_fields : (fs : List (List ℕ)) → fields_of (fields_text fs) ≡ fs
read_fields [] = refl
read_fields (f ∷ fs) = read_field [] (escaped f) (fields_text fs) (no_space_escaped f) ∙ ap (λ (l : List ℕ). l ∷ fields_of (fields_text fs)) (read_escaped f) ∙ ap (λ (l : List (List ℕ)). f ∷ l) (read_fields fs)

pub fields_push : (fs : List (List ℕ)) (f : List ℕ) → fields_text (fs ++ f ∷ []) ≡ fields_text fs ++ (escaped f ++ 32 ∷ [])
fields_push [] f = refl
fields_push (e ∷ fs) f = ap (λ (l : List ℕ). escaped e ++ 32 ∷ l) (fields_push fs f) ∙ sym (append_assoc (escaped e) (32 ∷ fields_text fs) (escaped f ++ 32 ∷ []))

read_all : (es : List (List (List ℕ))) → map fields_of (map fields_text es) ≡ es
read_all [] = refl
read_all (e ∷ es) = ap (λ (l : List (List ℕ)). l ∷ map fields_of (map fields_text es)) (read_fields e) ∙ ap (λ (l : List (List (List ℕ))). e ∷ l) (read_all es)

map_take : (n : ℕ) (es : List (List (List ℕ))) → take n (map fields_text es) ≡ map fields_text (take n es)
map_take zero es = refl
map_take (suc n) [] = refl
map_take (suc n) (e ∷ es) = ap (λ (l : List (List ℕ)). fields_text e ∷ l) (map_take n es)

map_split : (ds es : List (List (List ℕ))) → map fields_text ds ++ map fields_text es ≡ map fields_text (ds ++ es)
map_split [] es = refl
map_split (d ∷ ds) es = ap (λ (l : List (List ℕ)). fields_text d ∷ l) (map_split ds es)

map_length : (es : List (List (List ℕ))) → length (map fields_text es) ≡ length es
map_length [] = refl
map_length (e ∷ es) = ap suc (map_length es)

pub reads_back : ReadsBack
reads_back es = ap (λ (l : List (List ℕ)). map fields_of l) (read_again (map fields_text es) (entries_plain es)) ∙ read_all es

pub reads_cut : ReadsCut
reads_cut done added bytes torn =
    let front = reads_front (map fields_text done) (map fields_text added) bytes (entries_plain done) (entries_plain added) torn in
    let n = front.count in
    let same : recovered bytes ≡ map fields_text (done ++ take n added) =
    front.is ∙ ap (λ (l : List (List ℕ)). map fields_text done ++ l) (map_take n added) ∙ map_split done (take n added) in
    (n, subst (λ (k : ℕ). n ≤ k) (map_length added) front.no_more, ap (λ (l : List (List ℕ)). map fields_of l) same ∙ read_all (done ++ take n added))
