use Rattle.std.proofs.Common.{◌≡◌, ◌∙◌, true, false, refl, sym, ap, inl, Some}
use Rattle.follow_filters.specs.Domains.{is_domain, without_dot}
use Rattle.follow_filters.proofs.ElementLemmas.{read_domain-good, read_domain-bad}
use Rattle.follow_filters.proofs.domain.Domain.read.Goals as goal

pub returns-then-not-is_domain : goal.returns-then-not-is_domain
returns-then-not-is_domain c =
    let test : is_domain (without_dot c.args.text.now) ≡ false =
    ap is_domain (sym (c.as_bytes.ensures.value ∙ c.without_dot-bare.ensures)) ∙ sym c.is_domain.ensures ∙ c.if-not-is_domain.true in
    let none = read_domain-bad c.args.text.now test in
    record { reads = inl (refl, none); refuses = λ _. refl }

pub returns : goal.returns
returns c =
    let test : is_domain (without_dot c.args.text.now) ≡ true =
    ap is_domain (sym (c.as_bytes.ensures.value ∙ c.without_dot-bare.ensures)) ∙ sym c.is_domain.ensures ∙ c.if-not-is_domain.false in
    let read = read_domain-good c.args.text.now test in
    record {
      reads = read ∙ ap Some (sym (c.in_ok-from_str.ensures.ok ∙ c.without_dot-bare.ensures));
      refuses = λ none. cc;
    }

pub returns-in_err-from_str-clause-refuses : goal.returns-in_err-from_str-clause-refuses
returns-in_err-from_str-clause-refuses c =
    let test : is_domain (without_dot c.args.text.now) ≡ true =
    ap is_domain (sym (c.as_bytes.ensures.value ∙ c.without_dot-bare.ensures)) ∙ sym c.is_domain.ensures ∙ c.if-not-is_domain.false in
    let read = read_domain-good c.args.text.now test in
    λ none. cc
