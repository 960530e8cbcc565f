use Rattle.std.proofs.Common.{inl, ap, sym, ◌∙◌, Ok}
use Rattle.address.specs.Address.{url_text_of, is_too_long}
use Rattle.address.proofs.UrlLemmas.{other_scheme, refused_scheme, refused_user, refused_length, accepted, IsHttp-from_rules, Ok_same, gives_shared}
use Rattle.address.proofs.address.Address.of_scheme.Goals as goal

pub returns-then-ne : goal.returns-then-ne
returns-then-ne c =
    inl (refused_scheme c.args.scheme c.args.url (other_scheme c.args.scheme _ _ _ c.scheme.ensures.value c.as_str.ensures ∙ sym c.ne.ensures ∙ c.if-ne.true))

pub returns-then-has_credentials : goal.returns-then-has_credentials
returns-then-has_credentials c =
    inl (refused_user c.args.scheme c.args.url (other_scheme c.args.scheme _ _ _ c.scheme.ensures.value c.as_str.ensures ∙ sym c.ne.ensures ∙ c.if-ne.false) (sym c.has_credentials.ensures ∙ c.if-has_credentials.true))

pub returns-then-is_too_long : goal.returns-then-is_too_long
returns-then-is_too_long c =
    let http = other_scheme c.args.scheme _ _ _ c.scheme.ensures.value c.as_str.ensures ∙ sym c.ne.ensures ∙ c.if-ne.false in
    let none = sym c.has_credentials.ensures ∙ c.if-has_credentials.false in
    let same = Ok_same c.in_ok-url.ensures in
    inl (refused_length c.args.scheme c.args.url http none (ap is_too_long same ∙ sym c.is_too_long.ensures.value ∙ c.if-is_too_long.true))

pub sharing-requires : goal.sharing-requires
sharing-requires c =
    let http = other_scheme c.args.scheme _ _ _ c.scheme.ensures.value c.as_str.ensures ∙ sym c.ne.ensures ∙ c.if-ne.false in
    let none = sym c.has_credentials.ensures ∙ c.if-has_credentials.false in
    let same = Ok_same c.in_ok-url.ensures in
    IsHttp-from_rules c.args.scheme c.args.url c.in_ok-url.url (sym same) c.is_too_long.ensures.valid http none (sym c.is_too_long.ensures.value ∙ c.if-is_too_long.false)

pub returns : goal.returns
returns c =
    let http = other_scheme c.args.scheme _ _ _ c.scheme.ensures.value c.as_str.ensures ∙ sym c.ne.ensures ∙ c.if-ne.false in
    let none = sym c.has_credentials.ensures ∙ c.if-has_credentials.false in
    let same = Ok_same c.in_ok-url.ensures in
    gives_shared _ _ _ (accepted c.args.scheme c.args.url http none (ap is_too_long same ∙ sym c.is_too_long.ensures.value ∙ c.if-is_too_long.false) ∙ ap (λ u. Ok (url_text_of u)) same) c.sharing.ensures
