use Rattle.std.proofs.Common.{◌≡◌, ◌<◌, ◌≤◌, ◌≢◌, ◌+◌, length, ap, arith}
use Rattle.std.specs.Prelude.{vec_len, vec_capacity}
use Rattle.frontier_core.specs.inner.Holdings.{entries_of}
use Rattle.frontier_core.proofs.HoldLaws.{length-entries}
use Rattle.frontier_core.proofs.table.AddressTable.reserve.Goals as goal
use Rattle.frontier_core.proofs.table.AddressTable.reserve.Goals.{Joined-reserve-2, in-Ok, in-Err-reserve}

pub reserve-requires : goal.reserve-requires
reserve-requires c =
    let long : length (entries_of c.self.inside.labels.depths c.self.inside.progresses.items) ≡ length c.self.inside.labels.depths = length-entries c.self.inside.labels.depths c.self.inside.progresses.items c.self.invariant.0 in
    let few : length (entries_of c.self.inside.labels.depths c.self.inside.progresses.items) ≤ c.args.max = rw (← c.self.view_is) at c.requires in
    omega arith

pub returns-in-Err-clause-full : goal.returns-in-Err-clause-full
returns-in-Err-clause-full c =
    let long : length (entries_of c.self.inside.labels.depths c.self.inside.progresses.items) ≡ length c.self.inside.labels.depths = length-entries c.self.inside.labels.depths c.self.inside.progresses.items c.self.invariant.0 in
    rw (← c.self.view_is) (rw long c.in-Err.ensures.full)

-- fewer are held than may be
fewer : (c : Joined-reserve-2) → length c.self.inside.labels.depths < c.args.max
fewer c =
    let long : length (entries_of c.self.inside.labels.depths c.self.inside.progresses.items) ≡ length c.self.inside.labels.depths = length-entries c.self.inside.labels.depths c.self.inside.progresses.items c.self.invariant.0 in
    let few : length (entries_of c.self.inside.labels.depths c.self.inside.progresses.items) ≤ c.args.max = rw (← c.self.view_is) at c.requires in
    let other : length c.self.inside.labels.depths ≢ c.args.max = λ same. (let wrong = c.in_default.ensures.full.1 same in cc) in
    grind arith

pub returns-clause-ok : goal.returns-clause-ok
returns-clause-ok c =
    elim c.match-reserve-2.branch [
      | in-Ok w ↦
          (let few = fewer c in
          let ok = c.in_default.ensures.ok in
          let most = c.reserve.ensures.most in
          let long : length c.reserve.new.self.depths ≡ length c.self.inside.labels.depths = ap length c.reserve.ensures.depths in
          let room : vec_len c.reserve-2.new.self + 1 ≤ vec_capacity c.reserve-2.new.self = w.in-Ok.ensures.ok in
          rw w.result-is (omega arith))
      | in-Err-reserve w ↦ rw w.result-is tt
    ]

pub returns-clause-full : goal.returns-clause-full
returns-clause-full c =
    let few = fewer c in
    let long : length (entries_of c.self.inside.labels.depths c.self.inside.progresses.items) ≡ length c.self.inside.labels.depths = length-entries c.self.inside.labels.depths c.self.inside.progresses.items c.self.invariant.0 in
    rw (← c.self.view_is) (
    elim c.match-reserve-2.branch [
      | in-Ok w ↦ rw w.result-is (λ full. cc, λ same. absurd (omega arith))
      | in-Err-reserve w ↦ rw w.result-is (λ full. cc, λ same. absurd (omega arith))
    ])
