use Rattle.std.proofs.Common.{◌≡◌, ◌∙◌, ◌+◌, ◌-◌, true, false, ◌&&◌, drop, length, get_or, sym, ap, subst, arith, nat_eq, bytes_eq}
use Rattle.std.proofs.lemmas.Bool.Decides.{nat_tests, Decides-eqb, same_from_decides}
use Rattle.std.proofs.lemmas.Slice.Eq.{bytes_eq-Decides}
use Rattle.std.specs.Str.{str_to_ascii_lowercase}
use Rattle.follow_filters.proofs.TextLemmas.{drop_slice, ends_with-dot, ends_with-long}
use Rattle.follow_filters.proofs.domain.is_below.Goals as goal

pub returns-then-host-domain : goal.returns-then-host-domain
returns-then-host-domain c = sym (ends_with-long c.args.host.now c.args.domain.now c.if-host-domain.true)

pub returns-then-host-dot-eq46 : goal.returns-then-host-dot-eq46
returns-then-host-dot-eq46 c =
    let host = c.args.host.now in
    let domain = c.args.domain.now in
    let dot = length host - length domain - 1 in
    let longer = c.if-host-domain.false in
    let at : nat_eq (get_or host dot 0) 46 ≡ true = (Decides-eqb (get_or host dot 0) 46).1 c.if-host-dot-eq46.true in
    let test = subst (λ xs. (c.eq_ignore_ascii_case.result ≡ true → str_to_ascii_lowercase xs ≡ str_to_ascii_lowercase domain) × (str_to_ascii_lowercase xs ≡ str_to_ascii_lowercase domain → c.eq_ignore_ascii_case.result ≡ true)) (drop_slice host (dot + 1)) c.eq_ignore_ascii_case.ensures.test in
    let eq = bytes_eq-Decides (str_to_ascii_lowercase domain) (str_to_ascii_lowercase (drop (dot + 1) host)) in
    let rest : c.eq_ignore_ascii_case.result ≡ bytes_eq (str_to_ascii_lowercase domain) (str_to_ascii_lowercase (drop (dot + 1) host)) =
    same_from_decides c.eq_ignore_ascii_case.result _ test (λ yes. sym (eq.0 yes), λ same. eq.1 (sym same)) in
    rest ∙ sym (ends_with-dot host domain dot (omega arith) ∙ ap (λ t. t && bytes_eq (str_to_ascii_lowercase domain) (str_to_ascii_lowercase (drop (dot + 1) host))) at)

pub returns-else-host-dot-eq46 : goal.returns-else-host-dot-eq46
returns-else-host-dot-eq46 c =
    let host = c.args.host.now in
    let domain = c.args.domain.now in
    let dot = length host - length domain - 1 in
    let longer = c.if-host-domain.false in
    let at : nat_eq (get_or host dot 0) 46 ≡ false = let differ = c.if-host-dot-eq46.false in grind (arith, nat_tests) in
    at ∙ sym (ends_with-dot host domain dot (omega arith) ∙ ap (λ t. t && bytes_eq (str_to_ascii_lowercase domain) (str_to_ascii_lowercase (drop (dot + 1) host))) at)
