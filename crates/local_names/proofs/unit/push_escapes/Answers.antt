use Rattle.std.proofs.Common.{◌≡◌, ◌+◌, ℕ, List, [], ◌∷◌, ◌++◌, map, take, get_or, append_assoc, append-nil, sym, ap, ◌∙◌, arith}
use Rattle.std.proofs.lemmas.List.{take_more, take_all}
use Rattle.std.proofs.lemmas.Result.{err_from_is_err_and}
use Rattle.percent_encoding.specs.Percent.{percent_encode_byte}
use Rattle.local_names.specs.declared.unit.Unit.TheVariants.{Escape}
use Rattle.local_names.specs.inner.Units.{unit_text}
use Rattle.local_names.proofs.NamingLaws.{map_push}
use Rattle.local_names.proofs.unit.push_escapes.Goals as goal

pub loop-byte-init : goal.loop-byte-init
loop-byte-init c = sym (append-nil (map unit_text c.args.units.now.items))

pub loop-byte-preserved : goal.loop-byte-preserved
loop-byte-preserved c =
    let bytes = c.args.bytes.now in
    let i = c.loop-byte.byte-index in
    let byte = get_or bytes i 0 in
    let old = map unit_text c.args.units.now.items in
    let more : map percent_encode_byte (take (i + 1) bytes) ≡ map percent_encode_byte (take i bytes) ++ percent_encode_byte byte ∷ [] =
    ap (map percent_encode_byte) (take_more bytes i 0 (omega arith)) ∙ map_push percent_encode_byte (take i bytes) byte in
    ap (map unit_text) c.in_ok-push.ensures.items
    ∙ map_push unit_text c.loop-byte.units.items (Escape byte)
    ∙ ap (λ (us : List (List ℕ)). us ++ percent_encode_byte byte ∷ []) c.loop-byte.invariant
    ∙ append_assoc old (map percent_encode_byte (take i bytes)) (percent_encode_byte byte ∷ [])
    ∙ ap (λ us. old ++ us) (sym more)

pub returns-in_err-push : goal.returns-in_err-push
returns-in_err-push c = rw (err_from_is_err_and c.from_residual.result c.from_residual.ensures.1).1 tt

pub returns : goal.returns
returns c = c.loop-byte.invariant ∙ ap (λ bytes. map unit_text c.args.units.now.items ++ map percent_encode_byte bytes) (take_all c.loop-byte.byte-index c.args.bytes.now (omega arith))
