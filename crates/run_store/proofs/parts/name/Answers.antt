use Rattle.std.proofs.Common.{inl, inr, ⊎_elim, ◌∷◌, Some, ◌∙◌, ap}
use Rattle.disk_folder.proofs.Moments.{one_call}
use Rattle.run_store.specs.BodyRuns.{names}
use Rattle.run_store.proofs.BodyLaws.{leaves_whole}
use Rattle.run_store.proofs.parts.name.Goals as goal

pub returns-clause-deed : goal.returns-clause-deed
returns-clause-deed g c =
    let D = g.D.Disk in
    let old = c.args.disk.now in
    let new = c.rename.new.self in
    record {
      others = λ n no_part no_name body is. record { stands = c.rename.ensures.others n (Some body) no_part no_name is.stands; only = λ x k. is.only x (c.rename.ensures.others_kept n x no_part no_name k) };
      spares = λ n no_part no_name. one_call D.moment D.since D.left g.met.D.Disk.only_now n old new (D.left old n) c.rename.ensures.time (λ o l. l) (λ o l. c.rename.ensures.others_left n o no_part no_name l);
      passes = λ body is. one_call D.moment D.since D.left g.met.D.Disk.only_now c.args.name.now old new _ c.rename.ensures.time (λ o l. inl l)
          (λ o l. ⊎_elim (λ was. inl was) (λ k. inr (k.1 ∙ ap Some (is.only k.0 k.2))) (c.rename.ensures.crash o l));
    }

pub returns-clause-lives : goal.returns-clause-lives
returns-clause-lives g c start deeds are =
    let D = g.D.Disk in
    leaves_whole D.opened D.seen D.kept D.left D.moment D.since g.met.D.Disk.counts_now g.met.D.Disk.only_now start c.rename.new.self (names c.args.part.now c.args.name.now ∷ deeds) (c.args.disk.now, are, returns-clause-deed g c)
