-- The root of the origin, and the number of its hops.
use Rattle.std.proofs.Common.{◌≡◌, ◌++◌, ◌∷◌, [], ◌∙◌, ℕ, Global, List, Vec, ap, length}
use Rattle.std.specs.Prelude.{codes, decimal}
use Rattle.answer_notes.specs.HopChains.{HopValue}
use Rattle.site_records.specs.WrittenEntries.{line_of_three}
use Rattle.earlier_answers.proofs.TextLaws.{line_fed}
use Rattle.earlier_answers.proofs.chain.chain_line.Goals as goal

pub returns : goal.returns
returns c =
    let root : c.as_str-root.result.now ≡ c.args.hops.now.of ++ codes "/" = c.as_str-root.ensures.value ∙ c.in_ok-root.ensures ∙ ap (λ t. t ++ codes "/") c.of.ensures in
    ap (λ (v : Vec ℕ Global). v.items) c.into_bytes.ensures.value ∙ c.in_ok-format.ensures.ok ∙ line_fed (codes "chain") c.as_str-root.result.now (decimal (length c.hops.result.now))
    ∙ ap (λ t. line_of_three (codes "chain") t (decimal (length c.hops.result.now)) ++ 10 ∷ []) root ∙ ap (λ (hops : List HopValue). line_of_three (codes "chain") (c.args.hops.now.of ++ codes "/") (decimal (length hops)) ++ 10 ∷ []) c.hops.ensures.value
