-- The line has a colon, or it has none.
use Rattle.std.proofs.Common.{◌≡◌, ◌∙◌, ◌⊎◌, Some, None, Option, arith, ap, inl, refl, subst, sym}
use Rattle.std.specs.Prelude.{MatchResult}
use Rattle.std.proofs.lemmas.Str.Pattern.{split_parts}
use Rattle.std.specs.List.{after_first, before_first, list_any}
use Rattle.requests.specs.Lines.{Field, Text, checked, parted, trimmed}
use Rattle.requests.specs.declared.fields.FieldsFault.TheVariants.{Line, Memory}
use Rattle.requests.proofs.CutLemmas.{after_first-at, before_first-at, list_any-Lacks, list_any-at}
use Rattle.requests.proofs.line.parted.Goals as goal

pub returns-in-Some : goal.returns-in-Some
returns-in-Some c =
    let name = c.in-Some.name.now in
    let value = c.in-Some.value.now in
    let parts = split_parts 58 c.args.line.now (Some (c.in-Some.name, c.in-Some.value)) c.in-Some.ensures.cases (omega arith) in
    let is : parted c.args.line.now ≡ checked (record { name = name; value = trimmed value }) =
    ap parted parts.0 ∙ rw (list_any-at 58 name value, before_first-at 58 name value parts.1, after_first-at 58 name value parts.1) refl in
    subst (λ (x : Option Field). MatchResult c.checked.result (λ field. x ≡ Some field) (λ f. ((f ≡ Line) × (x ≡ None)) ⊎ (f ≡ Memory)))
    (ap (λ (v : Text). checked (record { name = name; value = v })) c.trimmed.ensures ∙ sym is) c.checked.ensures

pub returns-in-None : goal.returns-in-None
returns-in-None c =
    let lacks = split_parts 58 c.args.line.now None c.in-None.ensures.cases (omega arith) in
    inl (refl, rw (list_any-Lacks 58 c.args.line.now lacks) refl)
