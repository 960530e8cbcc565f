use Rattle.std.proofs.Common.{Some, inl, sym, ap, ◌∙◌}
use Rattle.url.specs.Parser.{parse_url}
use Rattle.address.specs.Address.{url_of, scheme_of, read_as, address_of}
use Rattle.address.proofs.UrlLemmas.{url_of-url_text_of, reads_long, reads_error, reads_url, first_changed, gives_error, gives_same}
use Rattle.address.proofs.address.Address.join.Goals as goal

pub returns-clause-value : goal.returns-clause-value
returns-clause-value c =
    let base = sym (url_of-url_text_of c.url.result.now c.url.ensures.http) ∙ ap url_of c.url.ensures.text in
    let parsed = ap (λ b. parse_url (Some b) c.args.link.now) (sym base) ∙ c.in_ok-join.ensures in
    gives_same _ _ _
    (ap (λ s. address_of s (read_as s c.in_ok-join.field-0)) c.scheme.ensures ∙ sym (reads_url (scheme_of c.args.self.now) (Some (url_of c.args.self.now)) c.args.link.now _ c.if-link-gt-MAX_ADDRESS.false parsed))
    c.from_url.ensures

pub returns-in_err-join-clause-value : goal.returns-in_err-join-clause-value
returns-in_err-join-clause-value c =
    let base = sym (url_of-url_text_of c.url.result.now c.url.ensures.http) ∙ ap url_of c.url.ensures.text in
    gives_error _ _ _ c.from_residual.ensures.1 (reads_error (scheme_of c.args.self.now) (Some (url_of c.args.self.now)) c.args.link.now _ c.if-link-gt-MAX_ADDRESS.false (first_changed (λ parsed. ap (λ b. parse_url (Some b) c.args.link.now) (sym base) ∙ parsed) c.in_err-join.ensures))

pub returns-then-link-gt-MAX_ADDRESS-clause-value : goal.returns-then-link-gt-MAX_ADDRESS-clause-value
returns-then-link-gt-MAX_ADDRESS-clause-value c = inl (reads_long (scheme_of c.args.self.now) (Some (url_of c.args.self.now)) c.args.link.now c.if-link-gt-MAX_ADDRESS.true)
