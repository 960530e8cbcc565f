-- The one note is of the chain whose text this is.
use Rattle.std.proofs.Common.{◌≡◌, ◌∙◌, Some, ap, sym}
use Rattle.std.proofs.lemmas.Slice.Eq.{bytes_eq-Decides}
use Rattle.earlier_answers.proofs.KeptLaws.{one_noted}
use Rattle.earlier_answers.proofs.kept_chain.is_text_of.Goals as goal

pub returns-in-Some-2 : goal.returns-in-Some-2
returns-in-Some-2 c = λ same.
    let bytes : c.args.text.now ≡ c.as_slice.result.now = (bytes_eq-Decides c.args.text.now c.as_slice.result.now).0 (sym c.eq.ensures ∙ same) in
    let written = rw c.in-Some-2.is at c.in_ok-own.ensures.text in
    one_noted c.args.notes.now c.in-Some.hops.now c.args.text.now c.in-Some.ensures (rw c.in-Some-2.is at c.in_ok-own.ensures.note) (rw c.in-Some-2.is at c.in_ok-own.ensures.whole)
    (sym written ∙ ap Some (sym (bytes ∙ c.as_slice.ensures.value)))
