-- A scanner that was fed represents the longer front, as far as it is looked through.
use Rattle.std.proofs.Common.{◌∙◌, subst}
use Rattle.html_links.specs.Scanning.{StandsFor}
use Rattle.css_links.specs.Scanning.{StandsFor as StandsForSheet}
use Rattle.response_answer.specs.declared.stage.Stage.{Stage}
use Rattle.response_answer.specs.declared.stage.Stage.TheVariants.{Page, Sheet}
use Rattle.response_answer.specs.Digests.{scanned_front, syntax_of}
use Rattle.response_answer.specs.Digesting.{IsStageOf}
use Rattle.response_answer.proofs.DigestLemmas.{left_more, scanned_more, unscanned_more}
use Rattle.response_answer.proofs.stage.Stage.take.Goals as goal

pub returns-in-Ok : goal.returns-in-Ok
returns-in-Ok c = λ h front is.
    let bytes = c.args.bytes.now in
    let left = c.in-Page.left in
    let stage : IsStageOf h front (Page c.in-Page.field-0 c.in-Page.scanner left) = subst (λ (s : Stage). IsStageOf h front s) c.in-Page.is is in
    let fed = c.in-Ok.ensures.ok (syntax_of h) (scanned_front front) stage.4 in (
      stage.0,
      stage.1,
      stage.2,
      stage.3,
      subst (StandsFor (syntax_of h) _) (scanned_more front bytes c.front_of.result.now left stage.5 c.front_of.ensures) fed,
      c.saturating_sub.ensures ∙ left_more front bytes left stage.5,
    )

pub returns-in-Ok-feed : goal.returns-in-Ok-feed
returns-in-Ok-feed c = λ h front is.
    let bytes = c.args.bytes.now in
    let left = c.in-Sheet.left in
    let stage : IsStageOf h front (Sheet c.in-Sheet.field-0 c.in-Sheet.scanner left) = subst (λ (s : Stage). IsStageOf h front s) c.in-Sheet.is is in
    let fed = c.in-Ok-feed.ensures.ok (scanned_front front) stage.5 in (
      stage.0,
      stage.1,
      stage.2,
      stage.3,
      stage.4,
      subst (StandsForSheet _) (scanned_more front bytes c.front_of-in-Sheet.result.now left stage.6 c.front_of-in-Sheet.ensures) fed,
      c.saturating_sub-in-Ok-feed.ensures ∙ left_more front bytes left stage.6,
    )

pub returns-in-Fresh : goal.returns-in-Fresh
returns-in-Fresh c = λ h front. unscanned_more h front c.args.bytes.now c.args.self.now c.in-Fresh.is

pub returns-in-Fresh-2 : goal.returns-in-Fresh-2
returns-in-Fresh-2 c = λ h front. unscanned_more h front c.args.bytes.now c.args.self.now c.in-Fresh.is

pub returns-in-Fresh-3 : goal.returns-in-Fresh-3
returns-in-Fresh-3 c = λ h front. unscanned_more h front c.args.bytes.now c.args.self.now c.in-Fresh.is
