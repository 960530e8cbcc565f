-- The words are those after the program's name.
use Rattle.std.proofs.Common.{◌∙◌, map, ap}
use Rattle.retriever.proofs.environment.refuse_words.Goals as goal

pub returns-in-Ok : goal.returns-in-Ok
returns-in-Ok g c =
    let words = ap (map (λ word. word.now)) c.as_slice.ensures.value ∙ c.in-Ok.ensures in
    rw (← words) c.explain.ensures.explained
