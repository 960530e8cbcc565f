use Rattle.std.proofs.Common.{◌++◌, ◌∙◌, sym, subst, ap, Some, None}
use Rattle.std.proofs.lemmas.Slice.Eq.{strip_prefix_is}
use Rattle.std.proofs.lemmas.Bool.Decides.{Decides-eqb}
use Rattle.robots_rules.proofs.PieceLemmas.{matched, IsPiece, IsPiece-take, behind_if, piece_missing}
use Rattle.robots_rules.proofs.pieces.matches_front.Goals as goal

pub returns-in-Some : goal.returns-in-Some
returns-in-Some c =
    let parts = c.args.parts.now in
    let found = c.first_run.ensures in
    let cut = c.split_at.ensures in
    let plain : IsPiece c.split_at.result.0.now = subst IsPiece (sym cut.front) (IsPiece-take parts c.first_run.result found.within found.before) in
    behind_if c.matches_behind.result parts c.split_at.result.0.now c.split_at.result.1.now c.args.front.now c.in-Some.behind.now plain cut.by_index.0 (strip_prefix_is Decides-eqb c.args.front.now c.split_at.result.0.now (Some c.in-Some.behind) c.in-Some.ensures.cases) c.matches_behind.ensures

pub returns-in-None-strip_prefix : goal.returns-in-None-strip_prefix
returns-in-None-strip_prefix c =
    let parts = c.args.parts.now in
    let found = c.first_run.ensures in
    let cut = c.split_at.ensures in
    let piece = c.split_at.result.0.now in
    let plain : IsPiece piece = subst IsPiece (sym cut.front) (IsPiece-take parts c.first_run.result found.within found.before) in
    let longer = strip_prefix_is Decides-eqb c.args.front.now piece None c.in-None.ensures.cases in
    let shorter = strip_prefix_is Decides-eqb piece c.args.front.now None c.in-None-strip_prefix.ensures.cases in
    λ rest. sym (ap (λ ps. matched ps (c.args.front.now ++ rest)) cut.by_index.0 ∙ piece_missing piece c.split_at.result.1.now c.args.front.now rest plain longer shorter)
