-- The text ends with the unit, or it doesn't.
use Rattle.std.proofs.Common.{◌≡◌, ℕ, ◌<◌, List, Bor, Option, Some, None, sym}
use Rattle.std.specs.Prelude.{MatchOption, option_map, ◌++◌, ◌∷◌, [], ◌≢◌}
use Rattle.std.proofs.lemmas.Str.Pattern.{strip_suffix_char}
use Rattle.pacing.specs.Spans.{cut_by}
use Rattle.pacing.proofs.SpanLemmas.{cut_at, cut_none}
use Rattle.pacing.proofs.span.cut.Goals as goal

cuts : (unit : ℕ) (text : List ℕ) (r : Option (Bor (List ℕ))) → 0 < unit → MatchOption r ((front : List ℕ) → text ≢ front ++ (unit ∷ [])) (λ x. text ≡ x.now ++ (unit ∷ [])) → option_map (λ (x : Bor (List ℕ)). x.now) r ≡ cut_by unit text
cuts unit text None some free = sym (cut_none unit text some free)
cuts unit text (Some x) some is = sym (cut_at unit text x.now is)

pub returns : goal.returns
returns c = cuts c.args.unit c.args.text.now c.strip_suffix.result c.requires.some (strip_suffix_char c.args.unit c.args.text.now c.strip_suffix.result c.strip_suffix.ensures.cases c.requires.ascii)
