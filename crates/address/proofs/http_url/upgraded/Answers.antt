use Rattle.std.proofs.Common.{ap, sym, ◌∙◌, Ok}
use Rattle.address.proofs.UrlLemmas.{set_https, gives_upgraded, is_upgraded, isnt_upgraded}
use Rattle.address.proofs.http_url.upgraded.Goals as goal
use Rattle.address.proofs.http_url.upgraded.Goals.{then-eq+in_ok-set_scheme, else-eq}

pub returns-in_err-set_scheme : goal.returns-in_err-set_scheme
returns-in_err-set_scheme c =
    let http = is_upgraded c.args.url _ c.scheme.ensures.value (sym c.eq.ensures ∙ c.if-eq.true) in
    gives_upgraded c.args.url _ _ c.scheme.ensures.valid http c.in_err-set_scheme.ensures.0 c.from_residual.ensures.1

pub returns : goal.returns
returns c =
    elim c.if-eq.branch [
      | then-eq+in_ok-set_scheme w ↦
          let http = is_upgraded c.args.url _ c.scheme.ensures.value (sym c.eq.ensures ∙ w.if-eq.true) in
          let sets = w.in_ok-set_scheme.ensures in
          sym (set_https c.args.url c.scheme.ensures.valid http) ∙ sets.0 ∙ ap Ok (sym w.url-is)
      | else-eq w ↦ ap Ok (isnt_upgraded c.args.url _ c.scheme.ensures.value (sym c.eq.ensures ∙ w.if-eq.false)) ∙ ap Ok (sym w.url-is)
    ]
