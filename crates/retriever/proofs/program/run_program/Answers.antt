-- The arguments are those that were given, or why there are none is explained.
use Rattle.std.proofs.Common.{refl}
use Rattle.retriever.proofs.FindingLaws.{finds_for}
use Rattle.retriever.proofs.program.run_program.Goals as goal

pub returns-in-Ok : goal.returns-in-Ok
returns-in-Ok g c =
    let run = c.run_args.ensures.starts in
    rw c.in-Ok.is (record { finds = λ live. finds_for _ _ _ _ _ (run.lives live); runs = run.runs; lives = run.lives; unread = run.unread; told = run.told; quiet = run.quiet; refused = tt; untouched = tt; logged = c.run_args.ensures.logged; unlogged = tt })

pub returns-in-Err : goal.returns-in-Err
returns-in-Err g c =
    rw c.in-Err.is (record {
      finds = tt;
      runs = tt;
      lives = tt;
      unread = tt;
      told = tt;
      quiet = tt;
      refused = rw (← c.words_fault.ensures) c.explain.ensures.explained;
      untouched = refl;
      logged = tt;
      unlogged = refl;
    })
