-- The origin isn't noted, so it is put down among the open ones.
use Rattle.tcp_connect.proofs.PooledLaws.{puts_known}
use Rattle.tcp_connect.proofs.kept.Pooled.put.Goals as goal

pub returns : goal.returns
returns g c =
    puts_known c.args.of.now c.args.number c.args.waiting (record { pool = c.self.inside.standing; unasked = c.self.inside.unasked }) c.has.result c.put.result c.put.new.self
    c.self.view_is c.has.ensures c.if-has.false c.put.ensures
