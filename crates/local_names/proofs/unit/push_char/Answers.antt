use Rattle.std.proofs.Common.{[], ◌∷◌, ◌++◌, map, sym, ap, ◌∙◌}
use Rattle.std.proofs.lemmas.Bool.{cond-true, cond-false}
use Rattle.std.proofs.lemmas.Result.{err_from_is_err_and, IfOk-equal}
use Rattle.std.specs.Char.{encode_utf8}
use Rattle.percent_encoding.specs.Percent.{percent_encode_byte}
use Rattle.local_names.specs.PlainNames.{is_kept, in_case}
use Rattle.local_names.specs.inner.Units.{unit_text}
use Rattle.local_names.proofs.NamingLaws.{map_push}
use Rattle.local_names.proofs.unit.push_char.Goals as goal

pub returns-then-not-is_kept : goal.returns-then-not-is_kept
returns-then-not-is_kept c =
    let own = encode_utf8 (in_case c.args.rules.letter_case c.args.found) ∷ [] in
    let escapes = map percent_encode_byte c.args.bytes.now in
    IfOk-equal _ _ _ _ c.push_escapes.ensures
    (ap (λ us. map unit_text c.args.units.now.items ++ us) (sym (cond-false (is_kept c.args.rules c.args.found) own escapes (sym c.is_kept.ensures ∙ c.if-not-is_kept.true))))

pub returns-in_err-push : goal.returns-in_err-push
returns-in_err-push c = rw (err_from_is_err_and c.from_residual.result c.from_residual.ensures.1).1 tt

pub returns : goal.returns
returns c =
    let own = encode_utf8 (in_case c.args.rules.letter_case c.args.found) ∷ [] in
    let escapes = map percent_encode_byte c.args.bytes.now in
    ap (map unit_text) c.in_ok-push.ensures.items
    ∙ map_push unit_text c.args.units.now.items _
    ∙ ap (λ us. map unit_text c.args.units.now.items ++ us)
    (ap (λ d. encode_utf8 d ∷ []) c.in_case.ensures ∙ sym (cond-true (is_kept c.args.rules c.args.found) own escapes (sym c.is_kept.ensures ∙ c.if-not-is_kept.false)))
