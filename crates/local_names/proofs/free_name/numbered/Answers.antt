use Rattle.std.proofs.lemmas.Result.{IfOk-weaker}
use Rattle.local_names.proofs.NamingLaws.{numbered_name-written}
use Rattle.local_names.proofs.free_name.numbered.Goals as goal

pub returns : goal.returns
returns c =
    IfOk-weaker c.format.result _ _
    (λ text says. numbered_name-written c.args.has_endings c.args.plain.now c.stem_of-stem.result.now c.ending_of-ending.result.now _ c.args.number c.if-number-eq0.false c.stem_of-stem.ensures c.ending_of-ending.ensures says)
    c.format.ensures.ok
