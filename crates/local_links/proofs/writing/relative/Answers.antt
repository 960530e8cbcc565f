use Rattle.std.proofs.Common.{◌≡◌, ◌++◌, ◌∙◌, sym, ap, ap₂, subst, All, ◌<◌, string_bytes, arith}
use Rattle.std.proofs.lemmas.List.Elements.{All-from_get_or}
use Rattle.local_links.specs.Relative.{relative, resolve, IsLinkByte}
use Rattle.local_links.specs.inner.Climbs.{climbs}
use Rattle.local_links.proofs.RelativeLaws.{resolve_relative, relative_bytes}
use Rattle.local_links.proofs.Going.{written_whole}
use Rattle.local_links.proofs.writing.relative.Goals as goal
use Rattle.local_links.proofs.writing.relative.Goals.{In_ok-append_to}

text_is : (c : In_ok-append_to) → string_bytes c.append_to.new.out ≡ relative c.args.from.now c.args.to.now
text_is c =
    c.in_ok-append_to.ensures.ok
    ∙ ap₂ (λ x y. x ++ y) (c.in_ok-push_climbs.ensures ∙ ap (λ x. x ++ climbs c.apart.result.0.now) c.new-text.ensures.bytes) c.percent_encode.ensures.text
    ∙ sym (written_whole c.args.from.now c.args.to.now c.apart.result.0.now c.apart.result.1.now (rw (← c.as_bytes.ensures.value, ← c.as_bytes-2.ensures.value) c.apart.ensures.same) c.apart.ensures.apart)

pub returns-clause-value : goal.returns-clause-value
returns-clause-value c = text_is c

pub returns-clause-leads : goal.returns-clause-leads
returns-clause-leads c local =
    ap (resolve c.args.from.now) (text_is c) ∙ resolve_relative c.args.from.now c.args.to.now (All-from_get_or (λ x. x < 256) c.args.to.now 0 (λ i within. omega (arith, c.type_inv.to i))) local

pub returns-clause-bytes : goal.returns-clause-bytes
returns-clause-bytes c = subst (All IsLinkByte) (sym (text_is c)) (relative_bytes c.args.from.now c.args.to.now)
