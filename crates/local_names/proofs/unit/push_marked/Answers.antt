use Rattle.std.proofs.Common.{◌-◌, ◌<◌, List, ℕ, [], ◌∷◌, ◌++◌, map, take, drop, length, append_assoc, append-nil, sym, ap, ◌∙◌, arith}
use Rattle.std.proofs.lemmas.Bool.{eqb-true}
use Rattle.std.proofs.lemmas.Bool.Decides.{nat_tests}
use Rattle.std.proofs.lemmas.Result.{IfOk-equal}
use Rattle.std.proofs.lemmas.Str.{encode_ascii}
use Rattle.local_names.specs.declared.unit.Unit.TheVariants.{Char}
use Rattle.local_names.specs.PlainNames.{units_of}
use Rattle.local_names.specs.inner.Units.{unit_text}
use Rattle.local_names.proofs.NamingLaws.{map_push}
use Rattle.local_names.proofs.UnitLaws.{marked_none, marked_some}
use Rattle.local_names.proofs.unit.push_marked.Goals as goal

pub returns-then-is_empty : goal.returns-then-is_empty
returns-then-is_empty c =
    let old = map unit_text c.args.units.now.items in
    sym (ap (λ us. old ++ us) (marked_none c.args.rules c.args.mark c.args.text.now (eqb-true _ 0 (sym c.is_empty.ensures ∙ c.if-is_empty.true))) ∙ append-nil old)

pub returns : goal.returns
returns c =
    let text = c.args.text.now in
    let old = map unit_text c.args.units.now.items in
    let rest = units_of c.args.rules (take (length text - 1) (drop 1 text)) in
    let some : 0 < length text = grind (arith, nat_tests, c.is_empty.ensures, c.if-is_empty.false) in
    IfOk-equal _ _ _ _ c.push_units.ensures
    (ap (λ (us : List (List ℕ)). us ++ rest) (ap (map unit_text) c.in_ok-push.ensures.items ∙ map_push unit_text c.args.units.now.items (Char c.args.mark) ∙ ap (λ (t : List ℕ). old ++ t ∷ []) (encode_ascii c.args.mark c.requires))
    ∙ append_assoc old ((c.args.mark ∷ []) ∷ []) rest
    ∙ ap (λ us. old ++ us) (marked_some c.args.rules c.args.mark text some))
