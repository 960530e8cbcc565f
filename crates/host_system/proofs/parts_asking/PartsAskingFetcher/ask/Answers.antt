-- What is done before the request leaves what asks as it is, and a name leaves the kind of a part and its length.
use Rattle.std.proofs.Common.{◌∙◌, sym, subst}
use Rattle.tcp_fetcher.specs.PartsFetching.{MayAnswerIn, parts_site}
use Rattle.tcp_fetcher.specs.TcpFetching.{TcpFetching}
use Rattle.host_system.proofs.parts_asking.PartsAskingFetcher.ask.Goals as goal

pub returns-clause-told : goal.returns-clause-told
returns-clause-told g c =
    let told = subst (λ (f : TcpFetching). MayAnswerIn (parts_site f) c.args.at.now c.in_ok-answer.answer.outcome c.in_ok-answer.answer.body) (c.let_stay.ensures ∙ c.stays_at-claimed.ensures) c.in_ok-answer.ensures.told in
    (told.0, (told.1.0, (told.1.1.0 ∙ sym c.named-body.ensures.kind, told.1.1.1 ∙ sym c.named-body.ensures.len)), told.2)
