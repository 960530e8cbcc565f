use Rattle.disk_folder.proofs.Moments.{one_call}
use Rattle.run_store.proofs.BodyLaws.{on_both, on_err, spared}
use Rattle.run_store.proofs.parts.add.Goals as goal

pub returns-clause-others : goal.returns-clause-others
returns-clause-others g c part bytes n whole begun other is = record {
  stands = c.add.ensures.others part n _ begun.is_opened other is.stands;
  only = λ x k. is.only x (c.add.ensures.others_kept part n x begun.is_opened other k);
}

pub returns-clause-writing : goal.returns-clause-writing
returns-clause-writing g c start part bytes w =
    let D = g.D.Disk in
    let old = c.args.disk.now in
    let new = c.add.new.self in
    on_both c.add.result c.add.ensures.stays_open c.add.ensures.added (λ stays_open added. record {
      begun = record { is_opened = stays_open part w.begun.is_opened; stands = added part bytes w.begun.is_opened w.begun.stands };
      stays = λ n other body is. returns-clause-others g c part bytes n body w.begun other (w.stays n other body is);
      spares = λ n other. spared D.opened D.seen D.kept D.left D.moment D.since g.met.D.Disk.counts_now g.met.D.Disk.only_now n start old new (w.spares n other)
          (one_call D.moment D.since D.left g.met.D.Disk.only_now n old new (D.left old n) c.add.ensures.time (λ o l. l) (λ o l. c.add.ensures.others_left part n o w.begun.is_opened other l));
    })

pub returns-clause-breaks : goal.returns-clause-breaks
returns-clause-breaks g c start part bytes w =
    let D = g.D.Disk in
    let old = c.args.disk.now in
    let new = c.add.new.self in
    on_err c.add.result (record {
      others = λ n other body is. returns-clause-others g c part bytes n body w.begun other (w.stays n other body is);
      spares = λ n other. spared D.opened D.seen D.kept D.left D.moment D.since g.met.D.Disk.counts_now g.met.D.Disk.only_now n start old new (w.spares n other)
          (one_call D.moment D.since D.left g.met.D.Disk.only_now n old new (D.left old n) c.add.ensures.time (λ o l. l) (λ o l. c.add.ensures.others_left part n o w.begun.is_opened other l));
    })
