-- The forms are those of the table.
use Rattle.std.proofs.Common.{◌∙◌, sym}
use Rattle.std.specs.Prelude.{bytes_eq}
use Rattle.options.proofs.HintLemmas.{any-map}
use Rattle.options.proofs.meant.is_one_of.Goals as goal

pub returns : goal.returns
returns c = c.is_among.ensures ∙ sym (any-map (λ form. form.now) (λ other. bytes_eq other c.args.form.now) c.args.forms.now)
