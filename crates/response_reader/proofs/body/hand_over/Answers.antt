use Rattle.std.proofs.Common.{refl}
use Rattle.response_reader.specs.declared.fault.ReadFault.TheVariants.{Memory}
use Rattle.response_reader.proofs.CountLemmas.{exit_is}
use Rattle.response_reader.proofs.body.hand_over.Goals as goal

pub returns-in_err-piece : goal.returns-in_err-piece
returns-in_err-piece g c =
    let e = c.in_err-piece.ensures in
    rw (exit_is Memory c.from_residual.result c.from_residual.ensures.1) record {
      bound = tt;
      there = tt;
      some = tt;
      rest = tt;
      adds = tt;
      only = refl;
      kept = refl;
      purpose = e.purpose;
      refused = e.refused;
    }

pub returns-clause-adds : goal.returns-clause-adds
returns-clause-adds g c = rw (← c.unread-2.ensures) c.in_ok-piece.ensures.took
