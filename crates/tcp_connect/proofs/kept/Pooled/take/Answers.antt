-- The origin isn't noted, so it is taken from the open ones.
use Rattle.tcp_connect.proofs.PooledLaws.{takes_known}
use Rattle.tcp_connect.proofs.kept.Pooled.take.Goals as goal

pub returns : goal.returns
returns g c =
    takes_known c.args.of.now (record { pool = c.self.inside.standing; unasked = c.self.inside.unasked }) c.has.result c.take.result c.take.new.self
    c.self.view_is c.as_str.ensures.value c.has.ensures c.if-has.false c.take.ensures
