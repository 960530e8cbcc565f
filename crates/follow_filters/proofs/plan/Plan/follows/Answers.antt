use Rattle.std.proofs.Common.{◌≡◌, ◌∙◌, sym, ap, Ok, Err, Some, None}
use Rattle.follow_filters.specs.Rules.{first_unmet, verdict_from, edge_verdict}
use Rattle.follow_filters.proofs.Meaning.{told}
use Rattle.follow_filters.proofs.plan.Plan.follows.Goals as goal

pub returns-in-Some : goal.returns-in-Some
unfolding first_unmet
returns-in-Some c =
    let found : Some c.in-Some.rule ≡ first_unmet c.args.self.now c.args.page.now c.args.kind c.args.address.now = sym c.in-Some.is ∙ c.first_unmet.ensures in
    let is : Err c.in-Some.rule ≡ edge_verdict c.args.self.now c.args.page.now c.args.kind c.args.address.now = ap verdict_from found in
    let says = told c.args.self.now c.args.page.now c.args.kind c.args.address.now (Err c.in-Some.rule) is in
    record { value = is; follows = says.0; means = says.1 }

pub returns-in-None : goal.returns-in-None
unfolding first_unmet
returns-in-None c =
    let found : None ≡ first_unmet c.args.self.now c.args.page.now c.args.kind c.args.address.now = sym c.in-None.is ∙ c.first_unmet.ensures in
    let is : Ok tt ≡ edge_verdict c.args.self.now c.args.page.now c.args.kind c.args.address.now = ap verdict_from found in
    let says = told c.args.self.now c.args.page.now c.args.kind c.args.address.now (Ok tt) is in
    record { value = is; follows = says.0; means = says.1 }
