use Rattle.std.proofs.Common.{◌≡◌, ap, ◌∙◌, subst}
use Rattle.css_links.specs.Rewriting.{changed}
use Rattle.link_changes.specs.Leading.{Page}
use Rattle.link_changes.specs.Changing.{becomes}
use Rattle.run_mirror.specs.Anew.{KeptPage, kept_for, page_in, LeadsAlike}
use Rattle.run_mirror.proofs.PageLaws.{leads_alike, page_is}
use Rattle.run_mirror.proofs.kept_page.PageFile.becomes_among.Goals as goal

pub returns-clause-value : goal.returns-clause-value
returns-clause-value c = λ f e r.
    let p : KeptPage = record { run = c.self.inside.mirror.now; file = c.self.inside.file.now; base = c.self.inside.base.now } in
    let among : kept_for f p.run ≡ c.args.kept.now = ap (λ (q : KeptPage). kept_for f q.run) c.self.view_is ∙ r in
    c.in_ok-other.ensures.value
    ∙ ap (λ (q : Page). becomes q c.args.text.now) (page_is p f c.args.form c.args.kept.now c.new-links.result c.new-links.ensures e among)
    ∙ ap (λ (q : KeptPage). becomes (page_in q f) c.args.text.now) c.self.view_is

pub returns-clause-leads : goal.returns-clause-leads
returns-clause-leads c = λ f e r.
    let p : KeptPage = record { run = c.self.inside.mirror.now; file = c.self.inside.file.now; base = c.self.inside.base.now } in
    let among : kept_for f p.run ≡ c.args.kept.now = ap (λ (q : KeptPage). kept_for f q.run) c.self.view_is ∙ r in
    subst (λ (q : KeptPage). LeadsAlike q f c.args.text.now (changed (becomes (page_in q f)) c.args.text.now)) c.self.view_is
    (leads_alike p f _ c.args.text.now _ (page_is p f c.args.form c.args.kept.now c.new-links.result c.new-links.ensures e among) c.in_ok-other.ensures.value c.in_ok-other.ensures.leads
    c.in_ok-other.ensures.held)
