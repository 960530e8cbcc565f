use Rattle.std.proofs.Common.{inl, inr, ⊎_elim, sym, subst}
use Rattle.clap.specs.Words.{found_of, rows_of}
use Rattle.options.specs.inner.Order.{FailsToFilter}
use Rattle.options.proofs.ReadLemmas.{fails-patterns, fails-directories, fails-domains, fails-expressions, fails-tags}
use Rattle.options.proofs.filters.read_filters.Goals as goal

pub returns-in-Err : goal.returns-in-Err
returns-in-Err c =
    let found = rows_of (found_of c.args.matches.now) in
    ⊎_elim
    (λ bad. inl (subst (FailsToFilter found) (sym bad.0) (fails-patterns found bad.1)))
    (λ memory. inr (inl memory))
    c.in-Err.ensures

pub returns-in-Err-directories : goal.returns-in-Err-directories
returns-in-Err-directories c =
    let found = rows_of (found_of c.args.matches.now) in
    ⊎_elim
    (λ bad. inl (subst (FailsToFilter found) (sym bad.0) (fails-directories found (c.in-Ok.names.given, c.in-Ok.names.excluded) c.in-Ok.ensures bad.1)))
    (λ memory. inr (inl memory))
    c.in-Err-directories.ensures

pub returns-in-Err-domains : goal.returns-in-Err-domains
returns-in-Err-domains c =
    let found = rows_of (found_of c.args.matches.now) in
    ⊎_elim
    (λ bad. inl (subst (FailsToFilter found) (sym bad.0) (fails-domains found (c.in-Ok.names.given, c.in-Ok.names.excluded) (c.in-Ok-directories.places.given, c.in-Ok-directories.places.excluded) c.in-Ok.ensures c.in-Ok-directories.ensures bad.1)))
    (λ memory. inr (inl memory))
    c.in-Err-domains.ensures

pub returns-in-Err-read_sought : goal.returns-in-Err-read_sought
returns-in-Err-read_sought c =
    let found = rows_of (found_of c.args.matches.now) in
    ⊎_elim
    (λ bad. inl (fails-expressions found (c.in-Ok.names.given, c.in-Ok.names.excluded) (c.in-Ok-directories.places.given, c.in-Ok-directories.places.excluded) (c.in-Ok-domains.hosts.given, c.in-Ok-domains.hosts.excluded) c.in-Err-read_sought.fault c.in-Ok.ensures c.in-Ok-directories.ensures c.in-Ok-domains.ensures bad.1 bad.0))
    (λ unsaid. inr unsaid)
    c.in-Err-read_sought.ensures

pub returns-in_default : goal.returns-in_default
returns-in_default c =
    inl (fails-tags (rows_of (found_of c.args.matches.now)) (c.in-Ok.names.given, c.in-Ok.names.excluded) (c.in-Ok-directories.places.given, c.in-Ok-directories.places.excluded) (c.in-Ok-domains.hosts.given, c.in-Ok-domains.hosts.excluded) (c.in-Ok-read_sought.sought.accepted, c.in-Ok-read_sought.sought.rejected) c.in-Ok.ensures c.in-Ok-directories.ensures c.in-Ok-domains.ensures c.in-Ok-read_sought.ensures (sym c.in_default.ensures))
