-- The edges of a page are those of the links in the front that is looked through.
use Rattle.std.proofs.Common.{◌∙◌, ap, subst}
use Rattle.response_answer.specs.declared.stage.Stage.{Stage}
use Rattle.response_answer.specs.declared.stage.Stage.TheVariants.{Page}
use Rattle.response_answer.specs.Digests.{page_edges, scanned_front, syntax_of}
use Rattle.response_answer.specs.Digesting.{IsStageOf}
use Rattle.response_answer.proofs.DigestLemmas.{page_digest}
use Rattle.response_answer.proofs.stage.Stage.outcome.Goals as goal

pub returns-in-Page : goal.returns-in-Page
returns-in-Page c = λ h body is.
    let rules = c.args.rules in
    let at = c.args.at.now in
    let stage : IsStageOf h body (Page c.in-Page.status c.in-Page.scanner c.in-Page.field-2) = subst (λ (s : Stage). IsStageOf h body s) c.in-Page.is is in
    let found = c.in-Ok.ensures.ok (syntax_of h) (scanned_front body) stage.4 in
    page_digest rules at h body c.in-Page.status c.in_ok-page_edges-in-Page.field-0 stage.0 stage.2 (stage.3 at)
    (c.in_ok-page_edges-in-Page.ensures ∙ ap (page_edges rules at) found)
