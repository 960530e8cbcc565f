-- There is room, and the address is after the last.
use Rattle.std.proofs.lemmas.Result.{IfOk-weaker}
use Rattle.std.proofs.Common.{◌↔◌, ◌++◌, ◌∷◌, [], IsTrue}
use Rattle.mirror_index.specs.Indexes.{IsIndex}
use Rattle.mirror_index.proofs.IndexLaws.{last_is, one_more}
use Rattle.mirror_index.proofs.index.may_follow.Goals as goal

pub returns : goal.returns
returns c =
    IfOk-weaker c.is_entry.result _ (λ may. IsIndex c.args.entries.now → IsTrue may ↔ IsIndex (c.args.entries.now ++ c.args.entry.now ∷ []))
    (λ may says index. (
      λ yes. one_more c.args.entries.now c.args.entry.now index c.if-entries-ge-MAX_ENTRIES.false (c.follows.ensures.0 c.if-not-follows.false) (says.0 yes),
      λ more. says.1 (last_is c.args.entries.now c.args.entry.now more),
    ))
    c.is_entry.ensures
