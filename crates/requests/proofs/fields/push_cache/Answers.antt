-- One field after the other.
use Rattle.std.proofs.Common.{◌∙◌, ◌++◌, ◌∷◌, [], List, ap, append_assoc, codes}
use Rattle.std.proofs.lemmas.Result.{on_ok_weaker}
use Rattle.requests.specs.Fields.{field}
use Rattle.requests.specs.Lines.{Field}
use Rattle.requests.proofs.fields.push_cache.Goals as goal

pub returns : goal.returns
returns c =
    rw c.if-not-is_uncached.false (on_ok_weaker c.push-2.result
    (λ says. says ∙ ap (λ (l : List Field). l ++ field (codes "Pragma") (codes "no-cache") ∷ []) c.in_ok-push.ensures ∙ append_assoc c.args.fields.now.items (field (codes "Cache-Control") (codes "no-cache") ∷ []) (field (codes "Pragma") (codes "no-cache") ∷ [])) c.push-2.ensures)
