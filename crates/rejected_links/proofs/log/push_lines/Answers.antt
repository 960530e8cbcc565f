-- One more line, of addresses.
use Rattle.std.proofs.Common.{◌∙◌, ◌∷◌, [], ◌++◌, List, ℕ, take, ap, sym, subst, arith}
use Rattle.std.specs.Prelude.{All}
use Rattle.std.specs.List.{flat_map}
use Rattle.std.specs.String.{string_bytes}
use Rattle.std.proofs.lemmas.List.{take_more, flat_map_more}
use Rattle.std.proofs.lemmas.List.Elements.{All-push}
use Rattle.rejected_links.specs.Lines.{line_text}
use Rattle.rejected_links.specs.declared.rejected_link.RejectedLink.{RejectedLink}
use Rattle.rejected_links.specs.inner.Links.{seen, IsOfAddresses}
use Rattle.rejected_links.proofs.log.push_lines.Goals as goal

pub loop-link-preserved : goal.loop-link-preserved
loop-link-preserved c =
    let links = c.args.links.now in
    let i = c.loop-link.link-index in
    let link = c.link-item.result in
    let line : RejectedLink → List ℕ = λ l. line_text (seen l) in
    let before = string_bytes c.args.text.now in
    let more = take_more links i link (omega arith) ∙ ap (λ (l : RejectedLink). take i links ++ l ∷ []) (sym c.link-item.is) in
    record {
      text = c.in_ok-push_line.ensures.ok ∙ ap (λ (t : List ℕ). t ++ line link) c.loop-link.invariant.text
          ∙ flat_map_more line before (take i links) link ∙ ap (λ (ls : List RejectedLink). before ++ flat_map line ls) (sym more);
      addresses = subst (λ (ls : List RejectedLink). All IsOfAddresses ls) (sym more) (All-push IsOfAddresses (take i links) link c.loop-link.invariant.addresses c.in_ok-push_line.ensures.addresses);
    }
