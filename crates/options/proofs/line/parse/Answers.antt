use Rattle.options.proofs.LineLemmas.{parsed}
use Rattle.options.proofs.line.parse.Goals as goal

pub returns : goal.returns
returns c =
    parsed c.try_get_matches_from.result _ c.in_ok-command.ensures c.try_get_matches_from.ensures.matches c.try_get_matches_from.ensures.kinds
