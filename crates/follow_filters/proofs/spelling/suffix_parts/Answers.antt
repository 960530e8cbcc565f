use Rattle.std.proofs.Common.{◌∙◌, ◌++◌, ◌∷◌, List, [], map, ap, get_or}
use Rattle.std.proofs.lemmas.List.{map-append, take_more, take_all}
use Rattle.std.proofs.lemmas.Result.{IfOk-from_err}
use Rattle.follow_filters.specs.declared.pattern.PatternPart.{PatternPart}
use Rattle.follow_filters.specs.declared.pattern.PatternPart.TheVariants as part
use Rattle.follow_filters.proofs.spelling.suffix_parts.Goals as goal

pub returns-in_err-push : goal.returns-in_err-push
returns-in_err-push c = IfOk-from_err _ _ c.from_residual.ensures.0

pub returns-in_err-push-2 : goal.returns-in_err-push-2
returns-in_err-push-2 c = IfOk-from_err _ _ c.from_residual-in_err-push-2.ensures.0

pub loop-byte-preserved : goal.loop-byte-preserved
loop-byte-preserved c =
    let suffix = c.args.suffix.now in
    rw (take_more suffix c.loop-byte.byte-index 0 c.loop-byte-test.true, map-append)
    (c.in_ok-push-2.ensures.items ∙ ap (λ (parts : List PatternPart). parts ++ part.Byte (get_or suffix c.loop-byte.byte-index 0) ∷ []) c.loop-byte.invariant)

pub loop-byte-init : goal.loop-byte-init
loop-byte-init c = c.in_ok-push.ensures.items ∙ ap (λ (parts : List PatternPart). parts ++ part.Run ∷ []) c.new-parts.ensures.items

pub returns : goal.returns
returns c = c.loop-byte.invariant ∙ ap (λ bytes. part.Run ∷ map (λ b. part.Byte b) bytes) (take_all c.loop-byte.byte-index c.args.suffix.now c.loop-byte-test.false)
