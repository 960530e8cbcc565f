-- Nothing was to be written, or the text was, or a front of it.
use Rattle.std.proofs.Common.{◌≡◌, ◌∙◌, ◌==◌, ℕ, List, true, false, length, refl, sym, ap, subst}
use Rattle.streams.specs.Streams.{AppendsFront}
use Rattle.retriever.proofs.ProgramLaws.{nothing_of, wrote}
use Rattle.retriever.proofs.program.write_advice.Goals as goal

pub returns-then-is_empty : goal.returns-then-is_empty
returns-then-is_empty g c = record { told = nothing_of _ _; quiet = λ empty. refl }

pub returns : goal.returns
returns g c =
    let written = wrote c.write_text.result _ _ _ c.write_text.ensures.ok c.write_text.ensures.err in
    record {
      told = subst (λ (text : List ℕ). AppendsFront (g.E.Write.contents c.args.errors.now) (g.E.Write.contents c.write_text.new.writer) text) c.as_bytes.ensures.value written;
      quiet = λ empty. (let wrong : true ≡ false = sym (ap (λ (text : List ℕ). length text == 0) empty) ∙ sym c.is_empty.ensures ∙ c.if-is_empty.false in cc);
    }
