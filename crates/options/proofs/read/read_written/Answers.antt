use Rattle.std.proofs.Common.{inl, inr, map, string_bytes, ⊎_elim}
use Rattle.clap.specs.Words.{found_of, rows_of, kind_of}
use Rattle.options.proofs.ReadLemmas.{answers-taken, answers-refused}
use Rattle.options.proofs.read.read_written.Goals as goal

pub returns-in-Ok : goal.returns-in-Ok
returns-in-Ok c =
    answers-taken (map string_bytes c.args.words.now) (rows_of (found_of c.in-Ok.matches)) c.order_of_matches.result c.in-Ok.ensures.0 c.in-Ok.ensures.1 c.order_of_matches.ensures

pub returns-in-Err : goal.returns-in-Err
returns-in-Err c =
    ⊎_elim
    (λ refused. inl refused)
    (λ memory. inr (inl memory))
    (answers-refused (map string_bytes c.args.words.now) (kind_of c.in-Err.error) c.fault_of.result c.fault_of.ensures c.in-Err.ensures)
