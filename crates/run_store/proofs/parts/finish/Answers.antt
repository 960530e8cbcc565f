use Rattle.std.proofs.Common.{Some}
use Rattle.disk_folder.proofs.Moments.{one_call}
use Rattle.run_store.proofs.BodyLaws.{on_both, on_err, spared}
use Rattle.run_store.proofs.parts.finish.Goals as goal

pub returns-clause-keeps : goal.returns-clause-keeps
returns-clause-keeps g c start part bytes w =
    let D = g.D.Disk in
    let old = c.args.disk.now in
    let new = c.sync.new.self in
    on_both c.sync.result c.sync.ensures.durable c.sync.ensures.seen (λ durable seen. (
      record { stands = seen part (Some bytes) w.begun.stands; only = λ x k. durable part bytes x w.begun.is_opened w.begun.stands k },
      record {
        others = λ n other body is. let was = w.stays n other body is in record { stands = seen n (Some body) was.stands; only = λ x k. was.only x (c.sync.ensures.kept n x k) };
        spares = λ n other. spared D.opened D.seen D.kept D.left D.moment D.since g.met.D.Disk.counts_now g.met.D.Disk.only_now n start old new (w.spares n other) (one_call D.moment D.since D.left g.met.D.Disk.only_now n old new (D.left old n) c.sync.ensures.time (λ o l. l) (λ o l. c.sync.ensures.crash n o l));
      },
    ))

pub returns-clause-loses : goal.returns-clause-loses
returns-clause-loses g c start part bytes w =
    let D = g.D.Disk in
    let old = c.args.disk.now in
    let new = c.sync.new.self in
    on_err c.sync.result (record {
      others = λ n other. tt;
      spares = λ n other. spared D.opened D.seen D.kept D.left D.moment D.since g.met.D.Disk.counts_now g.met.D.Disk.only_now n start old new (w.spares n other) (one_call D.moment D.since D.left g.met.D.Disk.only_now n old new (D.left old n) c.sync.ensures.time (λ o l. l) (λ o l. c.sync.ensures.crash n o l));
    })
