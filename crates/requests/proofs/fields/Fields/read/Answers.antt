-- The values may be and the lines say fields, or they don't.
use Rattle.std.proofs.Common.{◌≡◌, ◌∙◌, ◌⊎◌, Some, Option, ap, inl, inr, option_map, subst, sym, ⊎_elim}
use Rattle.std.specs.Prelude.{Err, MatchResult, Ok, Result}
use Rattle.requests.specs.Fields.{Sent}
use Rattle.requests.specs.Lines.{Text}
use Rattle.requests.specs.declared.fields.FieldsFault.{FieldsFault}
use Rattle.requests.specs.declared.fields.FieldsFault.TheVariants.{Memory}
use Rattle.requests.proofs.FieldsLemmas.{all-read, bad-agent, bad-lines, bad-referer}
use Rattle.requests.proofs.fields.Fields.read.Goals as goal

pub returns-then-not-is_value : goal.returns-then-not-is_value
returns-then-not-is_value c =
    inl (bad-agent _ _ c.args.is_uncached _ c.args.lines.now (sym c.is_value.ensures ∙ c.if-not-is_value.true))

pub returns-then-not-is_value-2 : goal.returns-then-not-is_value-2
returns-then-not-is_value-2 c =
    inl (bad-referer _ _ c.args.is_uncached _ c.args.lines.now (sym c.is_value.ensures ∙ c.if-not-is_value.false) (sym c.is_value-2.ensures ∙ c.if-not-is_value-2.true))

pub returns-in-Ok : goal.returns-in-Ok
returns-in-Ok c =
    let agent : Option Text = option_map (λ s. s.now) c.args.agent in
    let referer : Option Text = option_map (λ s. s.now) c.args.referer in
    subst (λ (x : Result Sent FieldsFault). MatchResult c.sent_with.result (λ all. x ≡ Ok all) (λ f. (x ≡ Err f) ⊎ (f ≡ Memory)))
    (sym (all-read agent referer c.args.is_uncached c.args.login c.args.lines.now c.in-Ok.said.items (sym c.is_value.ensures ∙ c.if-not-is_value.false) (sym c.is_value-2.ensures ∙ c.if-not-is_value-2.false) c.in-Ok.ensures)) c.sent_with.ensures

pub returns-in-Err : goal.returns-in-Err
returns-in-Err c =
    ⊎_elim
    (λ bad. inl (bad-lines _ _ c.args.is_uncached _ c.args.lines.now (sym c.is_value.ensures ∙ c.if-not-is_value.false) (sym c.is_value-2.ensures ∙ c.if-not-is_value-2.false) bad.1 ∙ ap Err (sym bad.0)))
    (λ memory. inr memory)
    c.in-Err.ensures
