-- A text with a space has its first field before it.
use Rattle.std.proofs.Common.{◌==◌, lit<}
use Rattle.std.proofs.lemmas.List.Splits.{slice_split_first}
use Rattle.site_inputs.proofs.Splits.{slice_split-whole}
use Rattle.site_inputs.proofs.field.first_field.Goals as goal

pub returns-in-Some : goal.returns-in-Some
returns-in-Some c =
    let h = c.in-Some.ensures.byte (lit< tt) (λ w o x. x) in
    rw (h.0, h.1) (slice_split_first (λ b. b == 32) c.args.text.now 0 h.2)

pub returns-in-None : goal.returns-in-None
returns-in-None c = slice_split-whole (λ b. b == 32) c.args.text.now (c.in-None.ensures.byte (lit< tt) (λ w o x. x))
