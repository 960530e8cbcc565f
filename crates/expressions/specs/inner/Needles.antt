-- Texts of which an expression needs one.
use Rattle.std.specs.Prelude.{◌≡◌, ℕ, ◌<◌, true, Bool, List, Vec, Option, Some, None, All, length, map, ⊤}
use Rattle.std.specs.declared.alloc.Global.{Global}
use Rattle.regex_extract.specs.Needles.{needles_of}
use Rattle.regex_literal.specs.Find.{OccursAt, needle_at}
use Rattle.regex_nfa.specs.declared.nfa.Nfa.{Nfa}
use Rattle.expressions.specs.inner.Accepting.{accepts}

-- the bytes of each
abbrev pub needle_lists : List (Vec ℕ Global) → List (List ℕ)
needle_lists needles = map (λ needle. needle.items) needles

-- one of the needles is somewhere in the text
abbrev pub HasNeedle : List (List ℕ) → List ℕ → Type 0
HasNeedle needles text = (n k : ℕ) × (n < length needles) × OccursAt text (needle_at needles n) k

-- if the automaton finds a match, the text has one of the needles
abbrev pub Needs : Nfa → List (List ℕ) → Type 0
Needs nfa needles = (text : List ℕ) → All (λ byte. byte < 256) text → (at : ℕ) → accepts nfa text at nfa.start ≡ true → HasNeedle needles text

-- the same if there are needles
abbrev pub NeedsSome : Nfa → Option (Vec (Vec ℕ Global) Global) → Type 0
NeedsSome nfa None = ⊤
NeedsSome nfa (Some needles) = Needs nfa (needles_of needles)

-- the flag is set if the text has one of the needles, or there are none
abbrev pub MayHave : Option (Vec (Vec ℕ Global) Global) → List ℕ → Bool → Type 0
MayHave None text flag = flag ≡ true
MayHave (Some needles) text flag = HasNeedle (needles_of needles) text → flag ≡ true
