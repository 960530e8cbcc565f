-- From the fields of a line to the line.
use Rattle.std.proofs.Common.{◌≡◌, ℕ, List, ◌∷◌, Option, Some, None, MatchOption, ◌==◌, false, length, slice_index, inl, inr, arith, Result, Ok, Err}
use Rattle.std.specs.Prelude.{IsUtf8}
use Rattle.site_maps.specs.declared.map_line.MapLine.{MapLine}
use Rattle.site_maps.specs.Lines.{Statement, skipped, page, edge, moved, leaf, fault, robots, closed, rule, IsForm, IsSkipped, HasForm, IsBehind, SaysRule}
use Rattle.site_inputs.specs.Fields.{fields}
use Rattle.site_maps.specs.declared.rule_kind.RuleKind.{RuleKind}
use Rattle.site_maps.specs.declared.rule_kind.RuleKind.TheVariants.{Allow, Disallow}
use Rattle.site_maps.specs.RuleLines.{rule_word}
use Rattle.site_maps.specs.inner.Said.{said}
use Rattle.site_inputs.specs.declared.input_fault.InputLineFault.{InputLineFault}
use Rattle.site_inputs.specs.declared.input_fault.InputLineFault.TheVariants.{Line, Address, Memory}
use Rattle.site_maps.specs.declared.reading.MapReading.{MapReading}
use Rattle.site_maps.specs.inner.Readings.{Takes, Reads}
use Rattle.fetcher.specs.declared.edge.EdgeKind.TheVariants.{Link, Inline, Redirect}
use Rattle.std.proofs.lemmas.Grind.{common_steps}

-- no form has five fields or more
pub five_fields : (a b c d e : List ℕ) (more : List (List ℕ)) (s : Statement) → ¬ IsForm (a ∷ b ∷ c ∷ d ∷ e ∷ more) s
five_fields a b c d e more skipped h = h
five_fields a b c d e more (page status text) h = let k = h.1 in cc
five_fields a b c d e more (edge Link text) h = cc
five_fields a b c d e more (edge Inline text) h = cc
five_fields a b c d e more (edge Redirect text) h = h
five_fields a b c d e more (moved status text target) h = let k = h.1 in cc
five_fields a b c d e more (leaf status text) h = let k = h.1 in cc
five_fields a b c d e more (fault kind text) h = cc
five_fields a b c d e more (robots text) h = cc
five_fields a b c d e more (closed text) h = cc
five_fields a b c d e more (rule kind rest) h = h

-- a line that isn't empty and doesn't begin with `#` isn't skipped
pub not_skipped : (line : List ℕ) → (length line == 0) ≡ false → (slice_index line 0 == 35) ≡ false → ¬ IsSkipped line
not_skipped line e h (inl empty) = grind (arith, common_steps)
not_skipped line e h (inr hash) = grind (arith, common_steps)

-- a line that isn't skipped says what its fields say
pub line_says : (line : List ℕ) (s : Statement) → IsUtf8 line → IsForm (fields line) s → HasForm line s
line_says line skipped u h = absurd h
line_says line (rule kind rest) u h = absurd h
line_says line s u h = (u, h)

-- and nothing else, if it isn't a rule
pub fields_say : (line : List ℕ) (s : Statement) → ¬ IsSkipped line → ((kind : RuleKind) (rest : List ℕ) → ¬ IsBehind line (rule_word kind) rest)
    → HasForm line s → IsForm (fields line) s
fields_say line skipped n r h = absurd (n h.1)
fields_say line (rule kind rest) n r h = absurd (r kind rest h.1)
fields_say line s n r h = h.1

-- what is found of the fields is true of the line
pub line_form : (line : List ℕ) (o : Option MapLine) → IsUtf8 line → ¬ IsSkipped line → ((kind : RuleKind) (rest : List ℕ) → ¬ IsBehind line (rule_word kind) rest)
    → MatchOption o ((s : Statement) → ¬ IsForm (fields line) s) (λ s. IsForm (fields line) (said s))
    → MatchOption o ((s : Statement) → ¬ HasForm line s) (λ s. HasForm line (said s))
line_form line None u n r h = λ s f. h s (fields_say line s n r f)
line_form line (Some s) u n r h = line_says line (said s) u h

-- a line that has a form is UTF-8
pub form_utf8 : (line : List ℕ) (s : Statement) → HasForm line s → IsUtf8 line
form_utf8 line skipped h = h.0
form_utf8 line (rule kind rest) h = h.0
form_utf8 line s h = h.0

-- a rule line says its rule
pub rule_form : (line : List ℕ) (s : Statement) → IsUtf8 line → SaysRule line s → HasForm line s
rule_form line (rule kind rest) u h = (u, h)
rule_form line s u h = absurd h

-- a line that is neither of the two rules is none
pub no_rule : (line : List ℕ) → ((rest : List ℕ) → ¬ IsBehind line (rule_word Allow) rest) → ((rest : List ℕ) → ¬ IsBehind line (rule_word Disallow) rest)
    → (kind : RuleKind) (rest : List ℕ) → ¬ IsBehind line (rule_word kind) rest
no_rule line a d Allow rest h = a rest h
no_rule line a d Disallow rest h = d rest h

-- a line that is taken, or refused, as what it says
pub reads_line : {U : Type 0} (old new : MapReading) (r : Result U InputLineFault) (line : List ℕ) (s : Statement) → HasForm line s → Takes old s r new
    → Reads old line r new
reads_line old new (Ok u) line s form takes above t = let h = takes above t in (s, form, h.0, h.1)
reads_line old new (Err Line) line s form takes above t = inr (s, form, takes above t)
reads_line old new (Err Address) line s form takes above t = let h = takes above t in (s, form, h.0, h.1)
reads_line old new (Err Memory) line s form takes above t = (s, form, takes above t)
