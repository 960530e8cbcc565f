use Rattle.std.proofs.Common.{None, inl, sym}
use Rattle.address.proofs.UrlLemmas.{reads_long, reads_error, reads_url, gives_error, gives_same}
use Rattle.address.proofs.address.Address.read_as.Goals as goal

pub returns-clause-value : goal.returns-clause-value
returns-clause-value c =
    gives_same _ _ _ (sym (reads_url c.args.scheme None c.args.text.now _ c.if-text-gt-MAX_ADDRESS.false c.in_ok-parse.ensures)) c.from_url.ensures

pub returns-in_err-parse-clause-value : goal.returns-in_err-parse-clause-value
returns-in_err-parse-clause-value c =
    gives_error _ _ _ c.from_residual.ensures.1 (reads_error c.args.scheme None c.args.text.now _ c.if-text-gt-MAX_ADDRESS.false c.in_err-parse.ensures)

pub returns-then-text-gt-MAX_ADDRESS-clause-value : goal.returns-then-text-gt-MAX_ADDRESS-clause-value
returns-then-text-gt-MAX_ADDRESS-clause-value c = inl (reads_long c.args.scheme None c.args.text.now c.if-text-gt-MAX_ADDRESS.true)
