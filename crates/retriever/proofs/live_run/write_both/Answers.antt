-- The second text follows the first, or a front of the first was written.
use Rattle.std.proofs.Common.{ℕ, List, subst}
use Rattle.std.specs.Io.KnownBytes.{Appends}
use Rattle.retriever.specs.inner.Parts.{IsWrittenAs}
use Rattle.streams.specs.Streams.{AppendsFront}
use Rattle.retriever.proofs.DeliveryLaws.{told_behind, front_of_first}
use Rattle.retriever.proofs.live_run.write_both.Goals as goal

pub returns-in-Ok : goal.returns-in-Ok
returns-in-Ok g c =
    told_behind _ _ _ c.args.first.now c.args.second.now c.args.status _
    (subst (λ (text : List ℕ). Appends (g.W.Write.contents c.args.writer.now) (g.W.Write.contents c.write_text.new.writer) text) c.as_bytes.ensures.value c.in-Ok.ensures.ok)
    (subst (λ (text : List ℕ). IsWrittenAs (g.W.Write.contents c.write_text.new.writer) (g.W.Write.contents c.write_ending.new.writer) c.write_ending.result text c.args.status) c.as_bytes-in-Ok.ensures.value c.write_ending.ensures)

pub returns-in-Err : goal.returns-in-Err
returns-in-Err g c =
    front_of_first _ _ c.args.first.now c.args.second.now
    (subst (λ (text : List ℕ). AppendsFront (g.W.Write.contents c.args.writer.now) (g.W.Write.contents c.write_text.new.writer) text) c.as_bytes.ensures.value c.in-Err.ensures.err)
