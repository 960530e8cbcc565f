use Rattle.std.proofs.Common.{ap, sym, ◌∙◌, Ok}
use Rattle.address.proofs.UrlLemmas.{fragment_gone, fragment_absent, option_none}
use Rattle.address.proofs.http_url.without_fragment.Goals as goal
use Rattle.address.proofs.http_url.without_fragment.Goals.{then-is_some+in_ok-set_fragment, else-is_some}

pub returns : goal.returns
returns c =
    elim c.if-is_some.branch [
      | then-is_some+in_ok-set_fragment w ↦ ap Ok (sym (fragment_gone c.args.url c.fragment.ensures.valid)) ∙ w.in_ok-set_fragment.ensures.0 ∙ ap Ok (sym w.url-is)
      | else-is_some w ↦ ap Ok (sym (fragment_absent c.args.url (sym c.fragment.ensures.value ∙ option_none c.fragment.result (sym w.if-is_some.ensures))) ∙ sym w.url-is)
    ]
