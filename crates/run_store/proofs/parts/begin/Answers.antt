use Rattle.std.proofs.Common.{Some}
use Rattle.disk_folder.proofs.Moments.{one_call}
use Rattle.run_store.proofs.BodyLaws.{on_ok}
use Rattle.run_store.proofs.parts.begin.Goals as goal

pub returns-clause-writing : goal.returns-clause-writing
returns-clause-writing g c told =
    let D = g.D.Disk in
    let old = c.args.disk.now in
    let new = c.make.new.self in
    on_ok c.make.result (c.make.ensures.made told) (λ made. record {
      begun = record { is_opened = made.0; stands = made.1 };
      stays = λ n other body is. record { stands = c.make.ensures.others n (Some body) other is.stands; only = λ x k. is.only x (c.make.ensures.others_kept n x other k) };
      spares = λ n other. one_call D.moment D.since D.left g.met.D.Disk.only_now n old new (D.left old n) c.make.ensures.time (λ o l. l) (λ o l. c.make.ensures.others_left n o other l);
    })
