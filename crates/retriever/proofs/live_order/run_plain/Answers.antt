-- The fetchers and the folder are the system's.
use Rattle.std.proofs.Common.{◌∙◌, ℕ, List, inl, refl, subst, sym}
use Rattle.std.proofs.lemmas.Result.{err_from_is_err_and}
use Rattle.local_tree.specs.declared.disk_folder.originals.Originals.{Originals}
use Rattle.retriever.proofs.LogLaws.{logged_more}
use Rattle.retriever.proofs.live_order.run_plain.Goals as goal

pub returns : goal.returns
returns g c =
    let fetchers = c.in_ok-fetchers.fetchers in
    let given = c.in_ok-fetchers.ensures in
    record {
      lives = record {
        fetchers = fetchers.items;
        folder = c.in_ok-folder.folder;
        given = record {
          made = given.made;
          count = sym fetchers.ok.0 ∙ given.count;
          opened = subst (λ (kept : Originals). g.S.System.opens c.args.system.now c.args.order.now.prefix kept c.in_ok-folder.folder) c.originals_of.ensures (subst (λ (path : List ℕ). g.S.System.opens c.args.system.now path c.originals_of.result c.in_ok-folder.folder) c.as_str.ensures c.in_ok-folder.ensures);
        };
        left = c.run_into.new.folder;
        lives = c.run_into.ensures.lives;
      };
      unwritten = tt;
      logged = logged_more _ _ _ _ c.run_into.ensures.logged (λ text log. inl (record { fetchers = fetchers.items; made = given.made; count = sym fetchers.ok.0 ∙ given.count; log = log }));
    }

pub returns-in_err-begin_naming : goal.returns-in_err-begin_naming
returns-in_err-begin_naming g c =
    let p = err_from_is_err_and c.from_residual.result c.from_residual.ensures.1 in
    rw p.1 (record { lives = tt; unwritten = refl; logged = inl refl })

pub returns-in_err-fetchers : goal.returns-in_err-fetchers
returns-in_err-fetchers g c =
    let p = err_from_is_err_and c.from_residual-in_err-fetchers.result c.from_residual-in_err-fetchers.ensures.1 in
    rw p.1 (record { lives = tt; unwritten = refl; logged = inl refl })

pub returns-in_err-folder : goal.returns-in_err-folder
returns-in_err-folder g c =
    let p = err_from_is_err_and c.from_residual-in_err-folder.result c.from_residual-in_err-folder.ensures.1 in
    rw p.1 (record { lives = tt; unwritten = refl; logged = inl refl })
