use Rattle.std.proofs.Common.{List, ℕ, [], None, Some, IfSome, subst, sym}
use Rattle.response_reader.specs.Gathered.{HasGathered}
use Rattle.response_reader.specs.Limits.{Limited, standard}
use Rattle.response_reader.specs.Response.{ResponseParts, IsResponse, HandsOn}
use Rattle.response_reader.specs.ReadFaults.{IsReadFault}
use Rattle.response_reader.specs.Reusable.{Reusable}
use Rattle.response_reader.specs.Wire.{OfBytes}
use Rattle.response_reader.proofs.CountLemmas.{exit_is, fault_is, ok_is_no_fault}
use Rattle.response_reader.proofs.ReplyLemmas.{at_some}
use Rattle.response_reader.proofs.response.read_reply_if_any.Goals as goal

pub returns-in-Some : goal.returns-in-Some
returns-in-Some g c =
    let e = c.in_ok-reusable.ensures in
    let known = g.W.Wire.incoming c.args.wire.now in
    let told = subst (λ (limits : Limited). OfBytes known (HandsOn limits (λ r. HasGathered c.new-gather.result None [] → HasGathered c.read_if_any.new.sink (Some r.head) r.body))) c.standard.ensures
    (at_some _ _ _ c.in-Some.is e.response) in
    let r = told.2.0 in
    let same = c.response_of.ensures r.head r.body (told.2.3 c.new-gather.ensures) in
    let is = subst (λ (p : ResponseParts). IsResponse standard told.0 p told.2.1) (sym same) told.2.2 in
    record {
      silent = tt;
      ends = tt;
      response = (told.0, told.1, (told.2.1, is));
      given = (told.0, (told.2.1, is));
      reusable = subst (λ (limits : Limited). Reusable limits known (g.W.Wire.incoming c.read_if_any.new.wire) c.in-Some.reusable) c.standard.ensures (at_some _ _ _ c.in-Some.is e.reusable);
      fault = tt;
      device = λ is. absurd (ok_is_no_fault is);
      written = e.written;
    }
