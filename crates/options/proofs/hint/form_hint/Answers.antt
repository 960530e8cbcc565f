-- The form is an option's, one of Wget's, or neither.
use Rattle.std.proofs.Common.{◌≡◌, ◌∙◌, Bool, Bor, List, ℕ, ap, map, sym}
use Rattle.std.specs.List.{list_any}
use Rattle.std.proofs.lemmas.Result.{IfOk-weaker}
use Rattle.options.specs.Hints.{foreign_text, is_form_of, is_own, long_hint}
use Rattle.options.specs.Meant.{meant}
use Rattle.options.specs.Table.{wget}
use Rattle.options.proofs.HintLemmas.{any-map, form_hint-foreign, form_hint-long, form_hint-own}
use Rattle.options.proofs.hint.form_hint.Goals as goal

foreign_in : (form front : List ℕ) (forms : List (Bor (List ℕ))) (r : Bool) → r ≡ list_any (λ option. is_form_of form option.now) forms → form ≡ meant front → map (λ option. option.now) forms ≡ wget
    → r ≡ list_any (is_form_of (meant front)) wget
foreign_in form front forms r is same are =
    is ∙ sym (any-map (λ option. option.now) (is_form_of form) forms) ∙ ap (list_any (is_form_of form)) are ∙ ap (λ f. list_any (is_form_of f) wget) same

pub returns-then-is_own : goal.returns-then-is_own
returns-then-is_own c = c.new.ensures.bytes ∙ sym (form_hint-own c.args.form.now (sym (c.is_own.ensures ∙ ap is_own c.meant-whole.ensures) ∙ c.if-is_own.true))

pub returns-then-is_foreign : goal.returns-then-is_foreign
returns-then-is_foreign c =
    let other = sym (c.is_own.ensures ∙ ap is_own c.meant-whole.ensures) ∙ c.if-is_own.false in
    let foreign = sym (foreign_in _ c.args.form.now _ _ c.is_foreign.ensures c.meant-whole.ensures c.wget_forms.ensures) ∙ c.if-is_foreign.true in
    IfOk-weaker c.foreign_text.result _ _ (λ text says. says ∙ ap (foreign_text c.args.form.now) c.meant-whole.ensures ∙ sym (form_hint-foreign c.args.form.now other foreign)) c.foreign_text.ensures

pub returns : goal.returns
returns c =
    let other = sym (c.is_own.ensures ∙ ap is_own c.meant-whole.ensures) ∙ c.if-is_own.false in
    let own = sym (foreign_in _ c.args.form.now _ _ c.is_foreign.ensures c.meant-whole.ensures c.wget_forms.ensures) ∙ c.if-is_foreign.false in
    IfOk-weaker c.long_hint.result _ _ (λ text says. says ∙ ap (long_hint c.args.form.now) c.long_name.ensures ∙ sym (form_hint-long c.args.form.now other own)) c.long_hint.ensures
