-- The text has gained the forms so far.
use Rattle.std.proofs.Common.{◌≡◌, ◌++◌, map, string_bytes, take}
use Rattle.options.specs.Hints.{forms_text}
use Rattle.options.proofs.hint.push_forms.Given as goal

abbrev pub invariant-loop-form : goal.invariant-loop-form
invariant-loop-form l = string_bytes l.text ≡ string_bytes l.initial.text ++ forms_text (map (λ form. form.now) (take l.form-index l.forms))
