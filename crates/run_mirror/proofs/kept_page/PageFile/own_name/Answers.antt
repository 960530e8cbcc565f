use Rattle.std.proofs.Common.{ap, ◌∙◌, subst}
use Rattle.std.specs.Prelude.{string_bytes}
use Rattle.local_links.specs.Relative.{resolve}
use Rattle.run_mirror.specs.Anew.{KeptPage, LeadsToItself}
use Rattle.run_mirror.proofs.PageLaws.{to_itself}
use Rattle.run_mirror.proofs.kept_page.PageFile.own_name.Goals as goal

pub returns-clause-leads : goal.returns-clause-leads
returns-clause-leads c =
    subst (λ (p : KeptPage). LeadsToItself p (string_bytes c.in_ok-own.own)) c.self.view_is
    (λ kept. ap (resolve c.self.inside.file.now) c.in_ok-own.ensures.value ∙ to_itself c.self.inside.file.now kept)
