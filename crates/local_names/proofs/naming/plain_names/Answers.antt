use Rattle.std.proofs.Common.{◌≡◌, ◌+◌, List, ℕ, [], ◌∷◌, ◌++◌, map, take, All, sym, ap, ◌∙◌, subst, arith}
use Rattle.std.proofs.lemmas.List.{take_more, take_all}
use Rattle.std.proofs.lemmas.List.Elements.{All-more, All-nil}
use Rattle.std.proofs.lemmas.Result.{err_from_is_err_and}
use Rattle.std.specs.String.{string_bytes}
use Rattle.address.specs.Address.{IsAddress}
use Rattle.local_names.specs.PlainNames.{plain_name_of}
use Rattle.local_names.proofs.NamingLaws.{map_push}
use Rattle.local_names.proofs.naming.plain_names.Goals as goal

pub loop-page-preserved : goal.loop-page-preserved
loop-page-preserved c =
    let inv = c.loop-page.invariant in
    let pages = c.args.pages.now in
    let own = plain_name_of c.args.rules.now in
    let i = c.loop-page.page-index in
    let item = c.page-item.result in
    let made = c.in_ok-plain_name_of.field-0 in
    let more : map own (take (i + 1) pages) ≡ map own (take i pages) ++ own item ∷ [] =
    ap (map own) (take_more pages i item (omega arith) ∙ ap (λ x. take i pages ++ x ∷ []) (sym c.page-item.is)) ∙ map_push own (take i pages) item in
    record {
      names = ap (map string_bytes) c.in_ok-push.ensures.items
          ∙ map_push string_bytes c.loop-page.plain.items made
          ∙ ap (λ (xs : List (List ℕ)). xs ++ string_bytes made ∷ []) inv.names
          ∙ ap (λ (x : List ℕ). map own (take i pages) ++ x ∷ []) c.in_ok-plain_name_of.ensures.name
          ∙ sym more;
      addresses = All-more IsAddress pages i item (omega arith) inv.addresses (subst IsAddress c.page-item.is c.in_ok-plain_name_of.ensures.address);
    }

pub loop-page-init : goal.loop-page-init
loop-page-init c = record { names = ap (map string_bytes) c.new-plain.ensures.items; addresses = All-nil IsAddress }

pub returns-in_err-plain_name_of : goal.returns-in_err-plain_name_of
returns-in_err-plain_name_of c =
    let p = err_from_is_err_and c.from_residual.result c.from_residual.ensures.1 in
    record { names = rw p.1 tt; addresses = rw p.1 tt }

pub returns-in_err-push : goal.returns-in_err-push
returns-in_err-push c =
    let p = err_from_is_err_and c.from_residual-in_err-push.result c.from_residual-in_err-push.ensures.1 in
    record { names = rw p.1 tt; addresses = rw p.1 tt }

pub returns : goal.returns
returns c =
    let all = take_all c.loop-page.page-index c.args.pages.now (omega arith) in
    record { names = c.loop-page.invariant.names ∙ ap (map (plain_name_of c.args.rules.now)) all; addresses = subst (All IsAddress) all c.loop-page.invariant.addresses }
