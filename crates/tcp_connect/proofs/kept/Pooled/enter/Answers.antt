-- The origin isn't noted, so one enters the open ones.
use Rattle.std.proofs.Common.{◌∙◌}
use Rattle.std.proofs.lemmas.Result.{IfOk-weaker}
use Rattle.tcp_connect.proofs.PooledLaws.{enters_known}
use Rattle.tcp_connect.proofs.kept.Pooled.enter.Goals as goal

pub returns-clause-ok : goal.returns-clause-ok
returns-clause-ok g c =
    IfOk-weaker c.enter.result _ _
    (λ e h. enters_known c.args.of.now c.args.most (record { pool = c.self.inside.standing; unasked = c.self.inside.unasked }) c.has.result e.place e.ended c.enter.new.self
    c.self.view_is (c.in_ok-text.ensures.ok ∙ c.as_str.ensures.value) c.has.ensures c.if-has.false h)
    c.enter.ensures.ok
