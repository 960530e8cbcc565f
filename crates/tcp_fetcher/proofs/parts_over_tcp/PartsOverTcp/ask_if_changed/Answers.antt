-- What is received under the condition of the entry decides.
use Rattle.std.proofs.Common.{◌≡◌, Some, inr, subst, sym}
use Rattle.std.specs.Prelude.{IfOk}
use Rattle.earlier_pages.specs.Pages.{condition_by}
use Rattle.tcp_fetcher.specs.Answering.{IsConcluded, IsAnswerWith, Lasting, site_of}
use Rattle.tcp_fetcher.specs.PartsFetching.{MayAnswerIn}
use Rattle.tcp_fetcher.proofs.EarlierLaws.{if_ok_map}
use Rattle.tcp_fetcher.proofs.parts_over_tcp.PartsOverTcp.ask_if_changed.Goals as goal

pub concluded-requires : goal.concluded-requires
concluded-requires g c =
    let received = c.in_ok-received.received in
    subst (λ (l : Lasting). MayAnswerIn (site_of l) c.args.at.now received.outcome received.body) (sym c.in_ok-received.ensures.lasting) c.in_ok-received.ensures.received.0

pub returns-clause-answered : goal.returns-clause-answered
returns-clause-answered g c =
    let middle = c.ask_noted-2.new.self.single in
    let own : condition_by c.args.page.entry ≡ Some c.in-Some.condition = cc (c.in_ok-condition.ensures, c.in-Some.is) in
    if_ok_map c.concluded.result _ _
    (subst (λ (l : Lasting). IfOk c.concluded.result (IsAnswerWith l c.args.at.now (IsConcluded l c.args.at.now c.args.page.entry c.in_ok-received.received middle c.concluded.new.self.single))) c.in_ok-received.ensures.lasting c.concluded.ensures.concluded)
    (λ a told. (told.0, inr (c.in-Some.condition, own, middle, c.in_ok-received.received, c.in_ok-received.ensures.received.1, told.1)))
