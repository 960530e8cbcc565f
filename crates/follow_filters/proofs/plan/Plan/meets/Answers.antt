use Rattle.follow_filters.proofs.plan.Plan.meets.Goals as goal

-- what holds of each page holds of this one
pub returns-in-NotIncluded : goal.returns-in-NotIncluded
returns-in-NotIncluded c = rw c.in-NotIncluded.is (c.meets_included.ensures c.args.page.now c.args.kind)

pub returns-in-NotAccepted : goal.returns-in-NotAccepted
returns-in-NotAccepted c = rw c.in-NotAccepted.is (c.meets_accept.ensures c.args.page.now c.args.kind)

pub returns-in-Rejected : goal.returns-in-Rejected
returns-in-Rejected c = rw c.in-Rejected.is (c.meets_reject.ensures c.args.page.now c.args.kind)

pub returns-in-ExpressionMissing : goal.returns-in-ExpressionMissing
returns-in-ExpressionMissing c = rw c.in-ExpressionMissing.is (c.meets_expression.ensures c.args.page.now c.args.kind)
