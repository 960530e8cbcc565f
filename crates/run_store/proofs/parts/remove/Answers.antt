use Rattle.std.proofs.Common.{inl, ◌∷◌, Some}
use Rattle.disk_folder.proofs.Moments.{one_call}
use Rattle.run_store.specs.BodyRuns.{removes}
use Rattle.run_store.proofs.BodyLaws.{leaves_whole}
use Rattle.run_store.proofs.parts.remove.Goals as goal

pub returns-clause-deed : goal.returns-clause-deed
returns-clause-deed g c =
    let D = g.D.Disk in
    let old = c.args.disk.now in
    let new = c.remove.new.self in
    record {
      others = λ n other body is. record { stands = c.remove.ensures.others n (Some body) other is.stands; only = λ x k. is.only x (c.remove.ensures.others_kept n x other k) };
      spares = λ n other. one_call D.moment D.since D.left g.met.D.Disk.only_now n old new (D.left old n) c.remove.ensures.time (λ o l. l) (λ o l. c.remove.ensures.others_left n o other l);
      passes = one_call D.moment D.since D.left g.met.D.Disk.only_now c.args.name.now old new _ c.remove.ensures.time (λ o l. inl l) (λ o l. c.remove.ensures.crash o l);
    }

pub returns-clause-lives : goal.returns-clause-lives
returns-clause-lives g c start deeds are =
    let D = g.D.Disk in
    leaves_whole D.opened D.seen D.kept D.left D.moment D.since g.met.D.Disk.counts_now g.met.D.Disk.only_now start c.remove.new.self (removes c.args.name.now ∷ deeds) (c.args.disk.now, are, returns-clause-deed g c)
