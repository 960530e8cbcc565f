-- What a link becomes in a form is said of each value that is written in it.
use Rattle.std.proofs.Common.{◌≡◌, IfOk, option_map, string_bytes, refl, sym, subst}
use Rattle.css_links.specs.Rewriting.{changed}
use Rattle.html_links.specs.declared.awaiting.ValueForm.{ValueForm}
use Rattle.html_links.specs.declared.awaiting.ValueForm.TheVariants as value
use Rattle.run_mirror.specs.Anew.{becomes_in, Leads}
use Rattle.run_mirror.proofs.kept_page.PageFilePageChange.change.Goals as goal

pub returns-in-Address-clause-other : goal.returns-in-Address-clause-other
returns-in-Address-clause-other c =
    subst (λ (f : ValueForm). IfOk c.becomes.result (λ other. option_map string_bytes other ≡ becomes_in c.args.self.now f c.args.text.now)) (sym c.in-Address.is)
    (c.becomes.ensures.value value.Address refl refl)

pub returns-in-Address-clause-known : goal.returns-in-Address-clause-known
returns-in-Address-clause-known c =
    subst (λ (f : ValueForm). IfOk c.becomes.result (λ other. Leads c.args.self.now f c.args.text.now (changed (becomes_in c.args.self.now f) c.args.text.now))) (sym c.in-Address.is)
    (c.becomes.ensures.leads value.Address refl refl)

pub returns-in-Set-clause-other : goal.returns-in-Set-clause-other
returns-in-Set-clause-other c =
    subst (λ (f : ValueForm). IfOk c.becomes-in-Set.result (λ other. option_map string_bytes other ≡ becomes_in c.args.self.now f c.args.text.now)) (sym c.in-Set.is)
    (c.becomes-in-Set.ensures.value value.Set refl refl)

pub returns-in-Set-clause-known : goal.returns-in-Set-clause-known
returns-in-Set-clause-known c =
    subst (λ (f : ValueForm). IfOk c.becomes-in-Set.result (λ other. Leads c.args.self.now f c.args.text.now (changed (becomes_in c.args.self.now f) c.args.text.now))) (sym c.in-Set.is)
    (c.becomes-in-Set.ensures.leads value.Set refl refl)

pub returns-in-Refresh-clause-other : goal.returns-in-Refresh-clause-other
returns-in-Refresh-clause-other c =
    subst (λ (f : ValueForm). IfOk c.becomes-in-Refresh.result (λ other. option_map string_bytes other ≡ becomes_in c.args.self.now f c.args.text.now)) (sym c.in-Refresh.is)
    (c.becomes-in-Refresh.ensures.value value.Refresh refl refl)

pub returns-in-Refresh-clause-known : goal.returns-in-Refresh-clause-known
returns-in-Refresh-clause-known c =
    subst (λ (f : ValueForm). IfOk c.becomes-in-Refresh.result (λ other. Leads c.args.self.now f c.args.text.now (changed (becomes_in c.args.self.now f) c.args.text.now))) (sym c.in-Refresh.is)
    (c.becomes-in-Refresh.ensures.leads value.Refresh refl refl)

pub returns-in-Sheet-clause-other : goal.returns-in-Sheet-clause-other
returns-in-Sheet-clause-other c =
    subst (λ (f : ValueForm). IfOk c.becomes-in-Sheet.result (λ other. option_map string_bytes other ≡ becomes_in c.args.self.now f c.args.text.now)) (sym c.in-Sheet.is)
    (c.becomes-in-Sheet.ensures.value value.Sheet refl refl)

pub returns-in-Sheet-clause-known : goal.returns-in-Sheet-clause-known
returns-in-Sheet-clause-known c =
    subst (λ (f : ValueForm). IfOk c.becomes-in-Sheet.result (λ other. Leads c.args.self.now f c.args.text.now (changed (becomes_in c.args.self.now f) c.args.text.now))) (sym c.in-Sheet.is)
    (c.becomes-in-Sheet.ensures.leads value.Sheet refl refl)
