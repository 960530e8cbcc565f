use Rattle.std.proofs.Common.{Some, None, ◌∙◌, sym, subst, ap}
use Rattle.std.proofs.lemmas.Slice.Eq.{strip_prefix_is}
use Rattle.std.proofs.lemmas.Bool.Decides.{Decides-eqb}
use Rattle.robots_rules.proofs.PieceLemmas.{matched, IsPiece, IsPiece-take, piece_behind, piece_absent}
use Rattle.robots_rules.proofs.pieces.matches.Goals as goal

pub returns-in-Some : goal.returns-in-Some
returns-in-Some c =
    let parts = c.args.parts.now in
    let path = c.args.path.now in
    let found = c.first_run.ensures in
    let cut = c.split_at.ensures in
    let piece = c.split_at.result.0.now in
    let others = c.split_at.result.1.now in
    let plain : IsPiece piece = subst IsPiece (sym cut.front) (IsPiece-take parts c.first_run.result found.within found.before) in
    let front = strip_prefix_is Decides-eqb path piece (Some c.in-Some.rest) c.in-Some.ensures.cases in
    c.matches_others.ensures ∙ sym (ap (λ ps. matched ps path) cut.by_index.0 ∙ piece_behind piece others path c.in-Some.rest.now plain front)

pub returns-in-None : goal.returns-in-None
returns-in-None c =
    let parts = c.args.parts.now in
    let path = c.args.path.now in
    let found = c.first_run.ensures in
    let cut = c.split_at.ensures in
    let piece = c.split_at.result.0.now in
    let plain : IsPiece piece = subst IsPiece (sym cut.front) (IsPiece-take parts c.first_run.result found.within found.before) in
    sym (ap (λ ps. matched ps path) cut.by_index.0 ∙ piece_absent piece c.split_at.result.1.now path plain (strip_prefix_is Decides-eqb path piece None c.in-None.ensures.cases))
