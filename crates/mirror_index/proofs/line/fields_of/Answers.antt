-- One more field is read, until there is no space.
use Rattle.std.proofs.Common.{◌∙◌, List, [], ◌∷◌, ℕ, Vec, Global, map, ap, subst, sym}
use Rattle.std.proofs.lemmas.List.{map-append}
use Rattle.mirror_index.specs.Entries.{Text}
use Rattle.mirror_index.proofs.FieldLaws.{FieldsLeft, all_read, one_read}
use Rattle.mirror_index.proofs.line.fields_of.Goals as goal

abbrev items : Vec ℕ Global → Text
items v = v.items

pub fields-preserved : goal.fields-preserved
fields-preserved c said after none is =
    let done = c.fields.fields.items in
    subst (λ (read : List Text). FieldsLeft said after read c.in-Some.after.now) (sym (ap (λ (vs : List (Vec ℕ Global)). map items vs) c.in_ok-push.ensures.items ∙ map-append items done (c.in_ok-field.field ∷ [])))
    (one_read said after (map items done) c.fields.rest.now c.in-Some.field.now c.in-Some.after.now c.in_ok-field.field.items none (c.fields.invariant said after none is) c.in-Some.ensures.0 c.in-Some.ensures.1
    (λ f same. c.in_ok-field.ensures.back f same))

pub returns : goal.returns
returns c said after none is = all_read said after (map items c.fields.fields.items) c.fields.rest.now (c.fields.invariant said after none is) c.in_default.ensures
