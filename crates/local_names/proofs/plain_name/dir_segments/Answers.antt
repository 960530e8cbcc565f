use Rattle.std.proofs.Common.{rules, tests, ◌++◌, ◌∷◌, [], List, ℕ, map, sym, ap, ◌∙◌}
use Rattle.std.proofs.lemmas.Iterator.Consumers.{YieldsList-at}
use Rattle.std.proofs.lemmas.Iterator.Splits.{YieldsList-from_slice_split}
use Rattle.std.specs.List.{filter}
use Rattle.local_names.specs.PlainNames.{is_slash, has_bytes}
use Rattle.local_names.specs.inner.Units.{lent_bytes}
use Rattle.local_names.proofs.NamingLaws.{map_push}
use Rattle.local_names.proofs.PlainLaws.{no_segment, one_segment}
use Rattle.local_names.proofs.SegmentLaws.{drained}
use Rattle.local_names.proofs.plain_name.dir_segments.Goals as goal

pub returns : goal.returns
returns c =
    c.loop-segment.invariant
    ∙ ap (filter has_bytes)
    (drained c.loop-segment.yielded _ c.loop-segment.yielded_by _ _ c.in-None.is c.next.ensures.steps
    (YieldsList-at c.into_iter-segment-iterator.ensures.into_iter_gives
    (YieldsList-from_slice_split _ is_slash c.args.dir.now c.split-parts.ensures.rest c.split-parts.ensures.done c.split-parts.ensures.closure (λ x r q k. search (rules, tests)))))

pub loop-segment-preserved-then-is_empty : goal.loop-segment-preserved-then-is_empty
loop-segment-preserved-then-is_empty c =
    c.loop-segment.invariant ∙ sym (no_segment c.loop-segment.yielded c.in-Some.segment (sym c.is_empty.ensures ∙ c.if-is_empty.true))

pub loop-segment-preserved : goal.loop-segment-preserved
loop-segment-preserved c =
    ap (map lent_bytes) c.in_ok-push.ensures.items
    ∙ map_push lent_bytes c.loop-segment.segments.items c.in-Some.segment
    ∙ ap (λ (xs : List (List ℕ)). xs ++ c.in-Some.segment.now ∷ []) c.loop-segment.invariant
    ∙ sym (one_segment c.loop-segment.yielded c.in-Some.segment (sym c.is_empty.ensures ∙ c.if-is_empty.false))
