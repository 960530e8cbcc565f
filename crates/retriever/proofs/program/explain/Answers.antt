-- Both texts are written, or there was no memory for them.
use Rattle.std.proofs.Common.{◌∙◌, ℕ, List, inl, inr, map, refl, subst}
use Rattle.retriever.specs.Parts.{IsDelivered}
use Rattle.retriever.specs.Run.{fault_status}
use Rattle.streams.specs.Streams.{AppendsFront}
use Rattle.retriever.proofs.program.explain.Goals as goal

pub returns-in-Ok : goal.returns-in-Ok
returns-in-Ok g c =
    let words = map (λ word. word.now) c.args.words.now in
    let advice = c.as_str.ensures.value ∙ c.in-Ok.ensures.advice in
    let line = c.as_bytes.ensures.value ∙ c.in-Ok.ensures.text in
    let before = g.W.Write.contents c.args.writer.now in
    let after = g.W.Write.contents c.deliver.new.writer in
    record {
      explained = inl (
        subst (λ (text : List ℕ). IsDelivered before after text (fault_status c.args.fault) c.deliver.result) line
            (subst (λ (wanted : ℕ). IsDelivered before after c.as_bytes.result.now wanted c.deliver.result) c.status.ensures c.deliver.ensures),
        subst (λ (text : List ℕ). AppendsFront (g.E.Write.contents c.args.errors.now) (g.E.Write.contents c.write_advice.new.errors) text) advice c.write_advice.ensures.told,
      );
      quiet = λ none. c.write_advice.ensures.quiet (advice ∙ none);
    }

pub returns-in-Err : goal.returns-in-Err
returns-in-Err g c = record { explained = inr (c.deliver-in-Err.ensures, refl); quiet = λ none. refl }
