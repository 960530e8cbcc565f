-- What the code reads in the table of words.
use Rattle.std.proofs.Common.{rules, ◌≡◌, ℕ, ◌<◌, List, [], sym, length}
use Rattle.std.specs.Prelude.{map, get_or}
use Rattle.std.proofs.lemmas.List.{get_or-map}
use Rattle.response_reader.specs.declared.fault.ReadFault.{ReadFault}
use Rattle.response_reader.specs.declared.fault.FaultWord.{FaultWord}
use Rattle.response_reader.specs.Words.{place_of, words}

-- each fault has a row
pub has_row : (fault : ReadFault) → place_of fault < length words
has_row fault = search rules

pub word_at : {T : Type 0} (read : T → List ℕ) (rows : List (FaultWord T)) (at : ℕ) (d : FaultWord T) → at < length rows
    → read (get_or rows at d).word ≡ get_or (map (λ row. read row.word) rows) at []
word_at {T} read rows at d within = sym (get_or-map (λ (row : FaultWord T). read row.word) rows at d [] within)
