use Rattle.std.proofs.Common.{◌∙◌, sym, ap, subst, List, ℕ, Option, Some}
use Rattle.link_changes.specs.Leading.{Page, page_of, destination}
use Rattle.link_changes.specs.Changing.{to_other, or_same, LeadsTo}
use Rattle.link_changes.proofs.Leads.{becomes_by, becomes_none, leads_changed, holds_any}
use Rattle.link_changes.proofs.links.Links.becomes.Goals as goal

pub returns-in_ok-new-in-Some-clause-value : goal.returns-in_ok-new-in-Some-clause-value
returns-in_ok-new-in-Some-clause-value g c =
    let page : Page = page_of g.M.Mirror.name_of g.M.Mirror.target_of c.args.self.now in
    c.other.ensures ∙ ap (to_other c.args.self.now.form c.args.text.now) c.in_ok-new-in-Some.ensures.text
    ∙ sym (becomes_by page c.args.text.now (Some c.in-Some.address) (sym c.in_ok-address.ensures ∙ c.in-Some.is))

pub returns-in_ok-new-in-Some-clause-leads : goal.returns-in_ok-new-in-Some-clause-leads
returns-in_ok-new-in-Some-clause-leads g c mirror holds =
    let page : Page = page_of g.M.Mirror.name_of g.M.Mirror.target_of c.args.self.now in
    let address = sym c.in_ok-address.ensures ∙ c.in-Some.is in
    let value =
    c.other.ensures ∙ ap (to_other c.args.self.now.form c.args.text.now) c.in_ok-new-in-Some.ensures.text
    ∙ sym (becomes_by page c.args.text.now (Some c.in-Some.address) address) in
    subst (λ (o : Option (List ℕ)). LeadsTo c.args.self.now.file (destination page c.args.text.now) (or_same o c.args.text.now)) (sym value)
    (leads_changed page c.args.text.now (Some c.in-Some.address) address c.in_ok-new-in-Some.ensures.is mirror holds)

pub returns-in_ok-new-in-Some-clause-held : goal.returns-in_ok-new-in-Some-clause-held
returns-in_ok-new-in-Some-clause-held g c mirror holds =
    let page : Page = page_of g.M.Mirror.name_of g.M.Mirror.target_of c.args.self.now in
    holds_any page c.args.text.now (Some c.in-Some.address) (sym c.in_ok-address.ensures ∙ c.in-Some.is) c.in_ok-new-in-Some.ensures.is mirror holds

pub returns-in-None-clause-value : goal.returns-in-None-clause-value
returns-in-None-clause-value g c =
    let page : Page = page_of g.M.Mirror.name_of g.M.Mirror.target_of c.args.self.now in
    sym (becomes_none page c.args.text.now (sym c.in_ok-address.ensures ∙ c.in-None.is))
