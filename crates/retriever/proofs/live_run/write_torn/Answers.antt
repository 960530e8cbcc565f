-- The line follows the text.
use Rattle.std.proofs.Common.{◌∙◌, ◌++◌, ℕ, List, inl, subst}
use Rattle.retriever.specs.inner.Parts.{IsWrittenAs}
use Rattle.retriever.proofs.live_run.write_torn.Goals as goal

pub returns-in-Ok : goal.returns-in-Ok
returns-in-Ok g c =
    inl (
    subst (λ (line : List ℕ). IsWrittenAs (g.W.Write.contents c.args.writer.now) (g.W.Write.contents c.write_both.new.writer) c.write_both.result (c.args.text.now ++ line) 3)
    (c.as_str.ensures.value ∙ c.in-Ok.ensures) c.write_both.ensures
    )
