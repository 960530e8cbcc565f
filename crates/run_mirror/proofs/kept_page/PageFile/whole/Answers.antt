use Rattle.std.proofs.Common.{◌≡◌, IfOk, option_map, string_bytes, List, ℕ, Option, refl, sym, ◌∙◌, subst}
use Rattle.html_links.specs.declared.awaiting.ValueForm.TheVariants as value
use Rattle.run_mirror.proofs.PageLaws.{mentioned}
use Rattle.run_mirror.proofs.kept_page.PageFile.whole.Goals as goal

pub returns-clause-value : goal.returns-clause-value
returns-clause-value c =
    subst (λ (text : Option (List ℕ)). IfOk c.becomes_among.result (λ other. option_map string_bytes other ≡ text))
    (mentioned c.args.self.now c.args.text.now (sym c.is_empty.ensures ∙ c.if-is_empty.false))
    (c.becomes_among.ensures.value value.Mention refl (sym c.new-nothing.ensures))
