use Rattle.std.proofs.Common.{◌∙◌, sym, ap, arith, rules, Some, None}
use Rattle.std.proofs.lemmas.Str.Pattern.{split_parts, ends_text}
use Rattle.std.proofs.lemmas.Slice.Eq.{ends_is}
use Rattle.std.proofs.lemmas.Bool.Decides.{Decides-eqb}
use Rattle.part_match.specs.Cuts.{some_end}
use Rattle.robots_rules.proofs.PieceLemmas.{matched, IsPiece, IsPiece-free, some_end-nowhere, some_end-leftmost, same_end}
use Rattle.robots_rules.proofs.pieces.matches_some_end.Goals as goal

pub returns-in_default-split_once : goal.returns-in_default-split_once
returns-in_default-split_once c =
    let parts = c.loop-piece.parts.now in
    let path = c.loop-piece.path.now in
    let cut = split_parts 42 parts (Some (c.in-Some.piece, c.in-Some.others)) c.in-Some.ensures.cases (omega arith) in
    sym (some_end-nowhere c.in-Some.piece.now c.in-Some.others.now path (IsPiece-free c.in-Some.piece.now cut.1) c.in_default-split_once.ensures.cases)
    ∙ ap (λ ps. some_end (matched ps) path) (sym cut.0) ∙ c.loop-piece.invariant.answer

pub loop-piece-preserved : goal.loop-piece-preserved
loop-piece-preserved c =
    let parts = c.loop-piece.parts.now in
    let path = c.loop-piece.path.now in
    let cut = split_parts 42 parts (Some (c.in-Some.piece, c.in-Some.others)) c.in-Some.ensures.cases (omega arith) in
    let found = c.in-Some-split_once.ensures.cases in
    record {
      parts_are_text = search rules;
      path_is_text = search rules;
      answer =
          ap (some_end (matched c.in-Some.others.now)) found.4
          ∙ sym (some_end-leftmost c.in-Some.piece.now c.in-Some.others.now path found.0 found.1 (IsPiece-free c.in-Some.piece.now cut.1) found.2.0 found.2.1)
          ∙ ap (λ ps. some_end (matched ps) path) (sym cut.0) ∙ c.loop-piece.invariant.answer;
    }

pub returns : goal.returns
returns c =
    let parts = c.loop-piece.parts.now in
    let path = c.loop-piece.path.now in
    let plain : IsPiece parts = IsPiece-free parts (split_parts 42 parts None c.in_default.ensures.cases (omega arith)) in
    let ends = ends_is Decides-eqb path parts c.ends_with.result (ends_text c.ends_with.result parts path c.ends_with.ensures.cases) in
    same_end parts path c.ends_with.result plain ends.0 ends.1 ∙ c.loop-piece.invariant.answer
