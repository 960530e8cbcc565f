-- What is compiled finds what the expression finds.
use Rattle.std.proofs.Common.{◌≡◌, ℕ, zero, suc, ◌+◌, ◌-◌, ◌<◌, ◌≤◌, ◌↔◌, true, false, true≢false, IfSome, ◌||◌, List, length, is_some, IsSomeAnd, IsTrue, Option, Some, None, option_map, All, chars, refl, sym, ap, ap₂, ◌∙◌, subst, ⊎_elim, arith}
use Rattle.std.specs.Option.{option_or}
use Rattle.regex_hir.specs.Re.{Re, Rest, Trace, accept, attempt}
use Rattle.regex_hir.specs.Find.{Match, find, first_between, first_from}
use Rattle.regex_hir.specs.Matches.{Matches}
use Rattle.regex_hir.specs.Meaning.{meaning}
use Rattle.regex_hir.specs.declared.hir.Hir.{Hir}
use Rattle.regex_hir.proofs.AttemptLemmas.{attempt_sound}
use Rattle.regex_hir.proofs.FindLemmas.{IsFirst-of_first_between, find_complete}
use Rattle.regex_hir.proofs.OptionLemmas.{value_of_IsSome}
use Rattle.regex_nfa.specs.declared.nfa.Nfa.{Nfa}
use Rattle.regex_nfa.specs.Run.{run}
use Rattle.regex_compile.specs.Implements.{Implements}
use Rattle.regex_syntax.specs.Brackets.{Nested}
use Rattle.regex_syntax.specs.Captures.{outcome, SameCaptures}
use Rattle.regex_syntax.specs.Grammar.{Names, read, group_count}
use Rattle.regex_syntax.specs.Verdict.{Reads, Refuses}
use Rattle.regex_syntax.specs.declared.error.ErrorKind.{ErrorKind}
use Rattle.regex_syntax.specs.declared.error.ErrorKind.TheVariants.{OutOfMemory, NestLimitExceeded}
use Rattle.std.specs.Prelude.{Vec}
use Rattle.std.specs.declared.alloc.Global.{Global}
use Rattle.regex_extract.specs.Needles.{ContainsNeedle, needles_of}
use Rattle.regex_literal.specs.Find as wanted
use Rattle.memchr.specs.Find as found
use Rattle.expressions.specs.inner.Needles.{Needs, NeedsSome, MayHave}
use Rattle.expressions.specs.Expressions.{byte_config, expression_of, pattern_in, read_element, is_found, is_found_by, IsFoundIn}
use Rattle.expressions.specs.inner.Accepting.{accepts, begins_from, Finds, IsCompiled}
use Rattle.expressions.proofs.Accepting.{is_some_map}

-- ---- a tree and its automaton

seen_alike : (a b : Option Trace) → outcome a ≡ outcome b → is_some a ≡ is_some b
unfolding outcome
seen_alike a b same = sym (is_some_map _ a) ∙ ap is_some same ∙ is_some_map _ b

compiled_of : (found : Option (Nested Re × Names)) (hir : Hir) (names : Names) (nfa : Nfa) →
    IsSomeAnd found (λ (re, its). (re.depth ≤ 250) × SameCaptures (meaning hir) re.value × (names ≡ its) × (group_count (meaning hir) ≤ length names)) → Implements nfa (meaning hir) →
    IsSomeAnd (pattern_in found) (Finds nfa)
unfolding accepts
compiled_of None hir names nfa reads implements = absurd reads
compiled_of (Some found) hir names nfa reads implements =
    λ text bytes at. ap is_some (implements text at) ∙ seen_alike _ _ (reads.1.at text bytes accept at)

pub compiled_is : (text : List ℕ) (hir : Hir) (names : Names) (nfa : Nfa) → Reads byte_config text hir names → Implements nfa (meaning hir) → IsCompiled text nfa
unfolding Reads expression_of
compiled_is text hir names nfa reads implements = compiled_of (read byte_config (chars text)) hir names nfa reads implements

read_by : (o : Option Re) (nfa : Nfa) (text : List ℕ) → IsSomeAnd o (Finds nfa) → option_map (λ re. text) o ≡ Some text
read_by None nfa text compiled = absurd compiled
read_by (Some re) nfa text compiled = refl

-- what is compiled is an expression
pub read_is : (text : List ℕ) (nfa : Nfa) → IsCompiled text nfa → read_element text ≡ Some text
read_is text nfa compiled = read_by (expression_of text) nfa text compiled

-- a text that is refused for its grammar is no expression
pub no_expression : (text : List ℕ) (kind : ErrorKind) → Refuses byte_config text kind → (kind ≡ OutOfMemory → ⊥) → (kind ≡ NestLimitExceeded → ⊥) → expression_of text ≡ None
unfolding Refuses expression_of
no_expression text kind refused memory deep =
    ⊎_elim (λ e. absurd (memory e)) (λ rest. ⊎_elim (λ none. ap pattern_in none) (λ nested. absurd (deep nested.0)) rest) refused

-- ---- searches

some_first : (i : ℕ) (o : Option Trace) (later : Option Match) → is_some (option_or (option_map (λ t. record { start = i; trace = t }) o) later) ≡ (is_some o || is_some later)
some_first i None later = refl
some_first i (Some t) later = refl

first_alike : (f g : Rest) → ((i : ℕ) → is_some (f i) ≡ is_some (g i)) → (n i : ℕ) → is_some (first_from f n i) ≡ is_some (first_from g n i)
unfolding first_from
first_alike f g same zero i = refl
first_alike f g same (suc n) i = some_first i (f i) _ ∙ ap₂ ◌||◌ (same i) (first_alike f g same n (i + 1)) ∙ sym (some_first i (g i) _)

found_by : (o : Option Re) (nfa : Nfa) (text : List ℕ) → IsSomeAnd o (Finds nfa) → All (λ byte. byte < 256) text → begins_from nfa text 0 ≡ is_found_by o text
unfolding begins_from accepts find
found_by None nfa text finds bytes = absurd finds
found_by (Some re) nfa text finds bytes = first_alike _ _ (λ i. finds text bytes i) (length text + 1 - 0) 0

pub found_is : (expression text : List ℕ) (nfa : Nfa) → IsCompiled expression nfa → All (λ byte. byte < 256) text → begins_from nfa text 0 ≡ is_found expression text
unfolding is_found
found_is expression text nfa compiled bytes = found_by (expression_of expression) nfa text compiled bytes

-- ---- the test says what is meant

found_means : (o : Option Re) (text : List ℕ) → IsTrue (is_found_by o text) → (re : Re) × (o ≡ Some re) × (from to : ℕ) × (from ≤ length text) × Matches text re from to
unfolding find
found_means None text found = absurd (true≢false (sym found))
found_means (Some re) text found =
    let value = value_of_IsSome (find re text 0) found in
    let first = IsFirst-of_first_between _ 0 (length text) value.0 value.1 in
    let way = attempt_sound text re accept value.0.start value.0.trace first.here in
    (re, refl, value.0.start, way.at, first.to, way.leads)

meant_by : (o : Option Re) (text : List ℕ) (re : Re) → o ≡ Some re → (from to : ℕ) → from ≤ length text → Matches text re from to → IsTrue (is_found_by o text)
meant_by o text re is from to inside matches =
    subst (λ p. IsTrue (is_found_by p text)) (sym is) (find_complete re text 0 from to (omega arith) inside matches)

pub found_iff : (expression text : List ℕ) → IsTrue (is_found expression text) ↔ IsFoundIn expression text
unfolding is_found
found_iff expression text = (
  found_means (expression_of expression) text,
  λ found. meant_by (expression_of expression) text found.0 found.1 found.2 found.3 found.4 found.5,
)

-- ---- needles

pub occurs_alike : (hay needle : List ℕ) (k : ℕ) → wanted.OccursAt hay needle k → found.OccursAt hay needle k
occurs_alike hay needle k o = record { fits = o.fits; reads = o.reads }

-- what each match of a tree has, each text has in which its automaton finds one
pub needs_is : (hir : Hir) (nfa : Nfa) (needles : List (List ℕ)) → Implements nfa (meaning hir) → ContainsNeedle (meaning hir) needles → Needs nfa needles
unfolding accepts
needs_is hir nfa needles implements contains =
    λ text bytes at yes_it.
    let value = value_of_IsSome (attempt text (meaning hir) accept at) (sym (ap is_some (implements text at)) ∙ yes_it) in
    let way = attempt_sound text (meaning hir) accept at value.0 value.1 in
    let has = contains text bytes at way.at way.leads in
    (has.0, has.1, has.2.numbered, has.2.occurs)

-- the same if there are needles
pub needs_some : (needles : Option (Vec (Vec ℕ Global) Global)) (hir : Hir) (nfa : Nfa) → Implements nfa (meaning hir) → IfSome needles (λ v. ContainsNeedle (meaning hir) (needles_of v)) → NeedsSome nfa needles
needs_some None hir nfa implements contains = tt
needs_some (Some v) hir nfa implements contains = needs_is hir nfa (needles_of v) implements contains

-- without needles nothing is found
nothing_begun : (nfa : Nfa) (text : List ℕ) (o : Option Match) → first_between (run nfa text (length text) nfa.start) 0 (length text) ≡ o → ((i : ℕ) → accepts nfa text i nfa.start ≡ true → ⊥) → is_some o ≡ false
unfolding accepts
nothing_begun nfa text None is none = refl
nothing_begun nfa text (Some m) is none =
    let first = IsFirst-of_first_between (run nfa text (length text) nfa.start) 0 (length text) m is in
    absurd (none m.start (ap is_some first.here))

pub without : (needles : Option (Vec (Vec ℕ Global) Global)) (nfa : Nfa) (text : List ℕ) → All (λ byte. byte < 256) text → NeedsSome nfa needles → MayHave needles text false → begins_from nfa text 0 ≡ false
unfolding begins_from
without None nfa text bytes needs none = absurd (true≢false (sym none))
without (Some v) nfa text bytes needs none =
    nothing_begun nfa text _ refl (λ i yes_it. true≢false (sym (none (needs text bytes i yes_it))))
