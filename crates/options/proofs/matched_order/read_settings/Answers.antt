-- The first value that can't be is named.
use Rattle.std.proofs.Common.{◌∙◌, inl, inr, ⊎_elim, sym, ap}
use Rattle.std.specs.Prelude.{Err}
use Rattle.clap.specs.Words.{found_of, rows_of}
use Rattle.options.specs.Asked.{without_kind}
use Rattle.options.proofs.ReadLemmas.{bad-words, bad-counts, bad-manner, bad-proxy, bad-names, bad-fields, bad-retries}
use Rattle.options.proofs.matched_order.read_settings.Goals as goal

pub returns-in-Some : goal.returns-in-Some
returns-in-Some c =
    inl (bad-words (rows_of (found_of c.args.matches.now)) (sym c.in-Some.ensures.good) ∙ ap Err (sym c.in-Some.ensures.refused))

pub returns-in_default-read_counts : goal.returns-in_default-read_counts
returns-in_default-read_counts c =
    inl (bad-counts (rows_of (found_of c.args.matches.now)) (sym c.in_default.ensures.good) c.in_default-read_counts.ensures)

pub returns-in_default-manner : goal.returns-in_default-manner
returns-in_default-manner c =
    inl (bad-manner (rows_of (found_of c.args.matches.now)) _ (sym c.in_default.ensures.good) c.in-Some-read_counts.ensures (sym c.in_default-manner.ensures))

pub returns-in-Err : goal.returns-in-Err
returns-in-Err c =
    let found = rows_of (found_of c.args.matches.now) in
    ⊎_elim
    (λ bad. inl (bad-names found _ _ (sym c.in_default.ensures.good) c.in-Some-read_counts.ensures (sym c.in-Some-manner.ensures) bad.1 ∙ ap Err (sym (ap without_kind bad.0))))
    (λ memory. inr memory)
    c.in-Err.ensures

pub returns-in-Err-retries : goal.returns-in-Err-retries
returns-in-Err-retries c =
    let found = rows_of (found_of c.args.matches.now) in
    ⊎_elim
    (λ bad. inl (bad-retries found _ _ _ (sym c.in_default.ensures.good) c.in-Some-read_counts.ensures (sym c.in-Some-manner.ensures) c.in-Ok.ensures bad.1 ∙ ap Err (sym (ap without_kind bad.0))))
    (λ memory. inr memory)
    c.in-Err-retries.ensures

pub returns-in-Err-proxies : goal.returns-in-Err-proxies
returns-in-Err-proxies c =
    let found = rows_of (found_of c.args.matches.now) in
    ⊎_elim
    (λ bad. inl (bad-proxy found _ _ _ _ _ (sym c.in_default.ensures.good) c.in-Some-read_counts.ensures (sym c.in-Some-manner.ensures) c.in-Ok.ensures c.in-Ok-retries.ensures bad ∙ ap Err (sym c.in-Err-proxies.ensures.kept)))
    (λ memory. inr memory)
    c.in-Err-proxies.ensures.answers

pub returns-in-Err-fields : goal.returns-in-Err-fields
returns-in-Err-fields c =
    let found = rows_of (found_of c.args.matches.now) in
    let proxy = c.in-Ok-proxies.ensures.answers in
    ⊎_elim
    (λ bad. inl (bad-fields found _ _ _ _ _ _ (sym c.in_default.ensures.good) c.in-Some-read_counts.ensures (sym c.in-Some-manner.ensures) c.in-Ok.ensures c.in-Ok-retries.ensures proxy bad ∙ ap Err (sym c.in-Err-fields.ensures.kept)))
    (λ memory. inr memory)
    c.in-Err-fields.ensures.answers

pub returns : goal.returns
returns c =
    record {
      words = sym c.in_default.ensures.good;
      counted = c.in-Some-read_counts.ensures;
      treated = sym c.in-Some-manner.ensures;
      named = c.in-Ok.ensures;
      retried = c.in-Ok-retries.ensures;
      proxied = c.in-Ok-proxies.ensures.answers;
      fielded = c.in-Ok-fields.ensures.answers;
    }
