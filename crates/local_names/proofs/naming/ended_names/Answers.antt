use Rattle.std.proofs.Common.{◌≡◌, List, ℕ, [], ◌∷◌, ◌++◌, map, take, get_or, All, sym, ap, ◌∙◌, subst, arith}
use Rattle.std.proofs.lemmas.List.{take_all}
use Rattle.std.proofs.lemmas.List.Elements.{All-more, All-nil}
use Rattle.std.proofs.lemmas.Result.{err_from_is_err_and}
use Rattle.std.specs.String.{string_bytes}
use Rattle.address.specs.Address.{IsAddress}
use Rattle.kept_bodies.specs.declared.body_kind.BodyKind.TheVariants.{Other}
use Rattle.local_names.specs.Endings.{ended_name, ended_names}
use Rattle.local_names.proofs.EndingLaws.{ended_names_more}
use Rattle.local_names.proofs.NamingLaws.{map_push}
use Rattle.local_names.proofs.naming.ended_names.Goals as goal

pub loop-i-preserved : goal.loop-i-preserved
loop-i-preserved c =
    let inv = c.loop-i.invariant in
    let rules = c.args.rules.now in
    let pages = c.args.pages.now in
    let kinds = c.args.kinds.now in
    let i = c.loop-i.i in
    let item = c.index-pages-i.result in
    let made = c.in_ok-ended_name.field-0 in
    let own : string_bytes made ≡ ended_name rules (get_or kinds i Other) (get_or pages i item) =
    c.in_ok-ended_name.ensures.name ∙ ap (λ k. ended_name rules k item) c.kind_at.ensures ∙ ap (ended_name rules (get_or kinds i Other)) c.index-pages-i.is in
    let more = ended_names_more rules pages kinds i item (omega arith) in
    record {
      names = ap (map string_bytes) c.in_ok-push.ensures.items
          ∙ map_push string_bytes c.loop-i.plain.items made
          ∙ ap (λ (xs : List (List ℕ)). xs ++ string_bytes made ∷ []) inv.names
          ∙ ap (λ (x : List ℕ). ended_names rules (take i pages) kinds ++ x ∷ []) own
          ∙ sym more;
      addresses = All-more IsAddress pages i item (omega arith) inv.addresses (subst IsAddress c.index-pages-i.is c.in_ok-ended_name.ensures.address);
    }

pub loop-i-init : goal.loop-i-init
loop-i-init c = record { names = ap (map string_bytes) c.new-plain.ensures.items; addresses = All-nil IsAddress }

pub returns-in_err-ended_name : goal.returns-in_err-ended_name
returns-in_err-ended_name c =
    let p = err_from_is_err_and c.from_residual.result c.from_residual.ensures.1 in
    record { names = rw p.1 tt; addresses = rw p.1 tt }

pub returns-in_err-push : goal.returns-in_err-push
returns-in_err-push c =
    let p = err_from_is_err_and c.from_residual-in_err-push.result c.from_residual-in_err-push.ensures.1 in
    record { names = rw p.1 tt; addresses = rw p.1 tt }

pub returns : goal.returns
returns c =
    let all = take_all c.loop-i.i c.args.pages.now (omega arith) in
    record { names = c.loop-i.invariant.names ∙ ap (λ pages. ended_names c.args.rules.now pages c.args.kinds.now) all; addresses = subst (All IsAddress) all c.loop-i.invariant.addresses }
