-- The root of the origin, and the number of its hops.
use Rattle.std.proofs.Common.{◌≡◌, ◌++◌, ◌∷◌, [], ◌∙◌, List, ap, length}
use Rattle.std.specs.Prelude.{codes, decimal}
use Rattle.answer_notes.specs.HopChains.{HopValue}
use Rattle.std.proofs.lemmas.Result.{IfOk-weaker}
use Rattle.site_records.specs.WrittenEntries.{line_of_three}
use Rattle.site_records.proofs.note_entry.chain_line.Goals as goal

pub returns : goal.returns
returns c =
    let root : c.as_str.result.now ≡ c.args.chain.now.of ++ codes "/" = c.as_str.ensures.value ∙ c.in_ok-root.ensures ∙ ap (λ t. t ++ codes "/") c.of.ensures in
    IfOk-weaker c.counted_line.result _ _
    (λ line is. is ∙ ap (λ t. line_of_three (codes "chain") t (decimal (length c.hops.result.now)) ++ 10 ∷ []) root ∙ ap (λ (hops : List HopValue). line_of_three (codes "chain") (c.args.chain.now.of ++ codes "/") (decimal (length hops)) ++ 10 ∷ []) c.hops.ensures.value)
    c.counted_line.ensures
